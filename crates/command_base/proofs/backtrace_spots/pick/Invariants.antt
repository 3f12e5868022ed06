use Rattle.std.proofs.Common.{◌≡◌, ℕ, ◌<◌, length, get_or}
use Rattle.command_base.specs.declared.backtrace_spots.Spot.{Spot}
use Rattle.command_base.proofs.backtrace_spots.pick.Given as goal

abbrev pub invariant-loop-number : goal.invariant-loop-number
invariant-loop-number l = record {
  len : length l.picked.items ≡ l.number-index;
  each : (i : ℕ) (d : Spot) → i < length l.picked.items → get_or l.picked.items i d ≡ get_or l.spots (get_or l.numbers i 0) d;
}
