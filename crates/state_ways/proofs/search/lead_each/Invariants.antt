-- The edges so far have led.
use Rattle.std.proofs.Common.{◌≡◌, ◌<◌, ℕ, List, Contains, slice_index_or}
use Rattle.machine_defs.specs.declared.flow.Edge.{Edge}
use Rattle.machine_defs.specs.Program.{Program}
use Rattle.program_graph.specs.Tells.{Tells}
use Rattle.kept_states.specs.LevelStates.{at}
use Rattle.state_ways.specs.Marks.{BringsKept, GoesOn, IsMarked}
use Rattle.state_ways.proofs.search.lead_each.Given as goal

abbrev pub invariant-loop-edge : goal.invariant-loop-edge
invariant-loop-edge l = record {
  on : (front : List ℕ) → Contains front l.from → GoesOn l.graph.parts (at l.kept) front l.fn.search.ways l.fn.search.next.items l.search.ways l.search.next.items;
  led : (k : ℕ) (d : Edge) → k < l.edge-index → (p : Program) → Tells p l.graph.parts → BringsKept p (at l.kept) l.from (slice_index_or l.edges k d) → IsMarked l.search.ways (slice_index_or l.edges k d).to;
  spent : l.search.spent ≡ l.fn.search.spent;
}
