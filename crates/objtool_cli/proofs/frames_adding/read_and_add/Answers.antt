use Rattle.std.proofs.Common.{◌∙◌}
use Rattle.objtool_cli.specs.Cfi.{stopped, unread, without_names}
use Rattle.objtool_cli.proofs.FramesEnds.{ends_later, later_still, names_later}
use Rattle.objtool_cli.proofs.frames_adding.read_and_add.Goals as goal

pub returns-in-Err-clause-ends : goal.returns-in-Err-clause-ends
returns-in-Err-clause-ends g c = stopped c.in-Err.stop (unread c.in-Err.ensures.stopped c.read_file.ensures.unchanged) c.conclude.ensures.concluded

pub returns-in-Ok-read_names-clause-ends : goal.returns-in-Ok-read_names-clause-ends
returns-in-Ok-read_names-clause-ends g c =
    ends_later _ _ _ _ _ _ _ _ _ _ _ _ (c.read_names.ensures.unchanged ∙ c.read_file.ensures.unchanged) (later_still _ _ _ c.read_file.ensures.later c.read_names.ensures.later) c.check_and_add.ensures.ends

pub returns-clause-ends : goal.returns-clause-ends
returns-clause-ends g c =
    stopped c.in-Err-read_names.stop
    (without_names c.in-Ok.bytes.items c.in-Ok.ensures.ok (names_later c.in-Err-read_names.stop _ _ _ _ _ _ c.read_file.ensures.unchanged c.read_file.ensures.later c.in-Err-read_names.ensures.stopped) (c.read_names.ensures.unchanged ∙ c.read_file.ensures.unchanged))
    c.conclude-in-Err-read_names.ensures.concluded
