use Rattle.command_base.specs.Cfa.{read, unread}
use Rattle.command_base.proofs.CfaLaws.{tells_as}
use Rattle.command_base.proofs.frames_telling.read_and_tell.Goals as goal

pub returns-in-Ok-clause-ends : goal.returns-in-Ok-clause-ends
returns-in-Ok-clause-ends g c = read c.in-Ok.bytes.items c.in-Ok.ensures.ok (tells_as _ _ _ _ _ c.as_slice.ensures.value c.tell_bytes.ensures.ends)

pub returns-in-Err-clause-ends : goal.returns-in-Err-clause-ends
returns-in-Err-clause-ends g c = unread c.in-Err.stop c.in-Err.ensures.stopped c.conclude.ensures.concluded
