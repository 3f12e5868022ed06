use Rattle.std.proofs.Common.{◌≡◌, ◌++◌, take}
use Rattle.flow_defs.specs.Code.{point_at}
use Rattle.flow_defs.specs.Edges.{listed_edges}
use Rattle.point_edges.proofs.way_edges.push_each.Given as goal

abbrev pub invariant-loop-place : goal.invariant-loop-place
invariant-loop-place l = l.into.items ≡ l.initial.into.items ++ listed_edges l.points l.fn.kind (point_at l.points l.fn.n) (take l.place-index l.places)
