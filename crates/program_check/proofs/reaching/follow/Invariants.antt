use Rattle.std.proofs.Common.{◌∷◌, Contains, length, take}
use Rattle.machine_defs.specs.declared.flow.Edge.{Edge}
use Rattle.machine_defs.specs.Program.{Program}
use Rattle.machine_defs.specs.Allowances.{Allowances}
use Rattle.program_check.specs.Tracks.{Tracks}
use Rattle.program_check.specs.Search.{GoesOn, IsFollowedAlong, IsSearch}
use Rattle.program_check.proofs.reaching.follow.Given as goal

abbrev pub invariant-loop-edge : goal.invariant-loop-edge
invariant-loop-edge l = record {
  goes_on : GoesOn (length l.graph.parts.points.items) l.fn.search l.search;
  search : (p : Program) (allowed : Allowances) → Tracks p allowed l.graph.parts l.table
      → IsSearch p allowed l.fn.search.ways.items (l.visit ∷ l.fn.search.pending.items) → IsSearch p allowed l.search.ways.items (l.visit ∷ l.search.pending.items);
  followed : (p : Program) (allowed : Allowances) → Tracks p allowed l.graph.parts l.table
      → (e : Edge) → Contains (take l.edge-index l.edge-items) e → IsFollowedAlong p allowed l.search.ways.items l.visit e;
}
