-- Those below come before the mismatch's, and those above don't.
use Rattle.std.proofs.Common.{◌≡◌, ◌<◌, ◌≤◌, ◌-◌, ℕ, Some, length, slice_get}
use Rattle.ot_base.specs.declared.warning.Warning.{Warning}
use Rattle.ot_base.specs.Warnings.{numbered_warning}
use Rattle.stack_rules.specs.Before.{ComesBefore}
use Rattle.state_ways.proofs.listed.count_before.Given as goal

abbrev pub invariant-loop-low : goal.invariant-loop-low
invariant-loop-low l = record {
  order : l.low ≤ l.high;
  within : l.high ≤ length l.warnings;
  before : (k : ℕ) (w : Warning) → k < l.low → slice_get l.warnings k ≡ Some w → ComesBefore w (numbered_warning l.key.place 4 l.key.kept l.key.found);
  behind : (k : ℕ) (w : Warning) → l.high ≤ k → slice_get l.warnings k ≡ Some w → ComesBefore w (numbered_warning l.key.place 4 l.key.kept l.key.found) → ⊥;
}

abbrev pub decreases-loop-low : goal.decreases-loop-low
decreases-loop-low l = l.high - l.low
