use Rattle.return_search.specs.Search.{IsTaken, RunsOn}
use Rattle.return_search.proofs.spreading.run_back.Given as goal

abbrev pub invariant-run : goal.invariant-run
invariant-run l = record {
  taken : IsTaken l.flow l.search l.at;
  on : RunsOn l.fn.search l.search;
}

abbrev pub decreases-run : goal.decreases-run
decreases-run l = l.at
