use Rattle.unwinding_law.proofs.Unwind.{law_from}
use Rattle.unwinding_law.proofs.unwinding_law.Goals as goal

pub returns : goal.returns
returns c = law_from c.move_is_sound.ensures c.move_is_consistent.ensures
