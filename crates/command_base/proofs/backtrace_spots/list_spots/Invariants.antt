use Rattle.std.proofs.Common.{◌≡◌, ℕ, ◌-◌, ◌<◌, length, get_or, Option}
use Rattle.ot_base.specs.declared.warning.Warning.{Warning}
use Rattle.state_defs.specs.declared.state.State.{State}
use Rattle.machine_defs.specs.Program.{Program}
use Rattle.command_base.specs.declared.backtrace_spots.Spot.{Spot}
use Rattle.command_base.specs.BacktraceSpots.{AreApart, AreSpots, HaveNumbers}
use Rattle.command_base.proofs.backtrace_spots.list_spots.Given as goal

abbrev pub invariant-loop-warning : goal.invariant-loop-warning
invariant-loop-warning l = record {
  apart : AreApart l.spots.items;
  new : (p : Program) (states : ℕ → Option State) → AreSpots p states 0 l.spots.items;
  numbers : HaveNumbers l.warnings l.spots.items l.numbers.items;
  len : length l.numbers.items ≡ l.warning-index;
  some : 0 < length l.spots.items → 0 < l.warning-index;
  last : (w : Warning) (d : Spot) → 0 < length l.spots.items → (get_or l.spots.items (length l.spots.items - 1) d).place ≡ (get_or l.warnings (l.warning-index - 1) w).place;
}
