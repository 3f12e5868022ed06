use Rattle.std.proofs.Common.{ℕ, length}
use Rattle.machine_defs.specs.Program.{Program, IsPoint}
use Rattle.machine_defs.specs.Allowances.{Allowances}
use Rattle.program_check.specs.Tracks.{Tracks}
use Rattle.program_check.specs.Search.{HasShape, IsSearch, IsStarted, work_left}
use Rattle.program_check.proofs.reaching.find_ways.Given as goal

abbrev pub invariant-pending : goal.invariant-pending
invariant-pending l = record {
  shape : HasShape (length l.graph.parts.points.items) l.search;
  search : (p : Program) (allowed : Allowances) → Tracks p allowed l.graph.parts l.table → IsSearch p allowed l.search.ways.items l.search.pending.items;
  started : (p : Program) (allowed : Allowances) (q : ℕ) → Tracks p allowed l.graph.parts l.table → IsPoint p q → IsStarted p allowed l.search.ways.items q;
}

abbrev pub decreases-pending : goal.decreases-pending
decreases-pending l = work_left l.search
