use Rattle.std.proofs.Common.{◌<◌, ℕ, length}
use Rattle.machine_defs.specs.Program.{Program}
use Rattle.machine_defs.specs.Allowances.{Allowances}
use Rattle.program_check.specs.Tracks.{Tracks}
use Rattle.program_check.specs.Search.{GoesOn, IsSearch, IsStarted}
use Rattle.program_check.proofs.reaching.find_starts.Given as goal

abbrev pub invariant-loop-n : goal.invariant-loop-n
invariant-loop-n l = record {
  goes_on : GoesOn (length l.graph.parts.points.items) l.fn.search l.search;
  search : (p : Program) (allowed : Allowances) → Tracks p allowed l.graph.parts l.table → IsSearch p allowed l.fn.search.ways.items l.fn.search.pending.items → IsSearch p allowed l.search.ways.items l.search.pending.items;
  started : (p : Program) (allowed : Allowances) (q : ℕ) → Tracks p allowed l.graph.parts l.table → q < l.n → IsStarted p allowed l.search.ways.items q;
}
