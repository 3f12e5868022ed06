use Rattle.std.proofs.Common.{◌≡◌, ◌++◌, take}
use Rattle.flow_defs.specs.Code.{point_at}
use Rattle.point_edges.specs.Entries.{entry_edges}
use Rattle.point_edges.proofs.way_edges.push_entries.Given as goal

abbrev pub invariant-loop-place : goal.invariant-loop-place
invariant-loop-place l = l.into.items ≡ l.initial.into.items ++ entry_edges l.points (point_at l.points l.fn.n) (take l.place-index l.places)
