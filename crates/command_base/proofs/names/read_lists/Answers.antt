use Rattle.std.proofs.Common.{refl}
use Rattle.command_base.specs.Names.{names_unread}
use Rattle.command_base.proofs.NamesLemmas.{names_held, names_refused}
use Rattle.command_base.proofs.names.read_lists.Goals as goal

pub returns-in-Ok-clause-ok : goal.returns-in-Ok-clause-ok
returns-in-Ok-clause-ok g c = names_held c.lists_of.result _ c.args.file.now c.in-Ok.text.items c.as_slice.result.now c.in-Ok.ensures.ok c.as_slice.ensures.value c.lists_of.ensures.right c.lists_of.ensures.are

pub returns-in-Ok-clause-stopped : goal.returns-in-Ok-clause-stopped
returns-in-Ok-clause-stopped g c = names_refused c.lists_of.result c.args.file.now c.in-Ok.text.items c.as_slice.result.now _ _ c.in-Ok.ensures.ok c.as_slice.ensures.value c.lists_of.ensures.stopped

pub returns-in-Err-clause-stopped : goal.returns-in-Err-clause-stopped
returns-in-Err-clause-stopped g c = names_unread c.args.file.now refl c.in-Err.ensures.stopped
