use Rattle.std.proofs.Common.{◌≡◌, ◌-◌, ◌≤◌, ◌++◌, false, drop, filter, length, take}
use Rattle.return_search.specs.Stays.{stays}
use Rattle.return_search.proofs.kept_edges.keep_others.Given as goal

abbrev pub invariant-loop-i : goal.invariant-loop-i
invariant-loop-i l = record {
  kept : take l.end l.edges.items ≡ take l.kept l.fn.edges.items ++ filter (λ e. stays false e.kind) (take (l.i - l.from) (drop l.from l.fn.edges.items));
  rest : drop l.i l.edges.items ≡ drop l.i l.fn.edges.items;
  long : length l.edges.items ≡ length l.fn.edges.items;
  within : l.end ≤ l.i;
}
