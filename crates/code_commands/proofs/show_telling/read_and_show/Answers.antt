use Rattle.code_commands.specs.Entry.{unread, without_names}
use Rattle.code_commands.specs.Show.{stopped, unchecked}
use Rattle.code_commands.proofs.EntryEnds.{names_later}
use Rattle.code_commands.proofs.show_telling.read_and_show.Goals as goal

pub returns-in-Err-clause-ends : goal.returns-in-Err-clause-ends
returns-in-Err-clause-ends g c = stopped c.in-Err.stop (unchecked (unread c.in-Err.ensures.stopped)) c.conclude.ensures.concluded

pub returns-clause-ends : goal.returns-clause-ends
returns-clause-ends g c =
    stopped c.in-Err-read_names.stop
    (unchecked (without_names c.in-Ok.bytes.items c.in-Ok.ensures.ok (names_later c.in-Err-read_names.stop _ _ _ _ _ _ c.read_file.ensures.unchanged c.read_file.ensures.later c.in-Err-read_names.ensures.stopped)))
    c.conclude-in-Err-read_names.ensures.concluded
