use Rattle.std.proofs.Common.{◌≡◌, ℕ, length, get_or}
use Rattle.machine_defs.specs.Program.{Program}
use Rattle.program_graph.specs.Tells.{Tells}
use Rattle.kept_states.specs.LevelStates.{at}
use Rattle.command_base.specs.declared.backtrace_spots.Spot.{Spot}
use Rattle.command_base.specs.BacktraceSpots.{AreSpots}
use Rattle.command_base.proofs.backtrace_spots.look_at_all.Given as goal

abbrev pub invariant-loop-n : goal.invariant-loop-n
invariant-loop-n l = record {
  len : length l.spots ≡ length l.initial.spots;
  places : (k : ℕ) (d : Spot) → (get_or l.spots k d).place ≡ (get_or l.initial.spots k d).place;
  spots : (p : Program) → Tells p l.graph.parts → AreSpots p (at l.kept) 0 l.initial.spots → AreSpots p (at l.kept) l.n l.spots;
}
