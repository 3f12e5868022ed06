use Rattle.std.proofs.Common.{◌≡◌, ◌++◌, take}
use Rattle.flow_defs.specs.Edges.{edges_to}
use Rattle.point_edges.proofs.way_edges.push_to.Given as goal

abbrev pub invariant-loop-to : goal.invariant-loop-to
invariant-loop-to l = l.into.items ≡ l.initial.into.items ++ edges_to l.fn.kind (take l.to-index l.numbers)
