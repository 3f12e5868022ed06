use Rattle.stack_state.proofs.Sound.{move_sound}
use Rattle.stack_state.proofs.laws.move_is_sound.Goals as goal

pub returns : goal.returns
returns c = move_sound
