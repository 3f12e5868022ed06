-- The points in front so far have led.
use Rattle.std.proofs.Common.{◌≡◌, ◌<◌, ℕ, length, slice_index_or}
use Rattle.machine_defs.specs.Program.{Program}
use Rattle.program_graph.specs.Tells.{Tells}
use Rattle.kept_states.specs.LevelStates.{at}
use Rattle.state_ways.specs.Marks.{AreSpent, GoesOn, HasLed}
use Rattle.state_ways.proofs.search.lead_all.Given as goal

abbrev pub invariant-loop-from : goal.invariant-loop-from
invariant-loop-from l = record {
  on : GoesOn l.graph.parts (at l.kept) l.front l.fn.search.ways l.fn.search.next.items l.search.ways l.search.next.items;
  led : (k d : ℕ) → k < l.from-index → (p : Program) → Tells p l.graph.parts → AreSpent p (at l.kept) l.fn.search.ways l.fn.search.spent.items → HasLed p (at l.kept) l.search.ways (slice_index_or l.front k d);
  spent : (p : Program) → Tells p l.graph.parts → AreSpent p (at l.kept) l.fn.search.ways l.fn.search.spent.items → AreSpent p (at l.kept) l.search.ways l.search.spent.items;
  len : length l.search.spent.items ≡ length l.fn.search.spent.items;
}
