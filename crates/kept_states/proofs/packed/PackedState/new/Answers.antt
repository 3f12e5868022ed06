use Rattle.std.proofs.Common.{◌∙◌}
use Rattle.kept_states.proofs.Slots.{in_slot}
use Rattle.kept_states.proofs.packed.PackedState.new.Goals as goal

pub returns : goal.returns
returns c = in_slot c.new.result c.of-parts.result c.new.ensures.shape c.new.ensures.numbers ∙ c.of-parts.ensures
