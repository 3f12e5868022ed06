use Rattle.std.proofs.Common.{◌≡◌, take}
use Rattle.ot_base.specs.declared.rules.TheConstants.{FUNCTION_WITHOUT_SIZE}
use Rattle.ot_base.specs.Warnings.{bare_warning}
use Rattle.stack_rules.specs.Gains.{Gains}
use Rattle.stack_rules.proofs.GainsLemmas.{OfSome}
use Rattle.stack_rules.proofs.point_rules.push_sizes.Given as goal

abbrev pub invariant-loop-place : goal.invariant-loop-place
invariant-loop-place l = Gains l.fn.into.items l.into.items (OfSome (take l.place-index l.places) (λ place w. w ≡ bare_warning place FUNCTION_WITHOUT_SIZE))
