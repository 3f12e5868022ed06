use Rattle.std.proofs.Common.{◌≡◌, true, take}
use Rattle.std.specs.List.{list_all}
use Rattle.point_edges.proofs.Callees.{is_free_first}
use Rattle.point_edges.proofs.called.are_free_callees.Given as goal

abbrev pub invariant-loop-entry : goal.invariant-loop-entry
invariant-loop-entry l = list_all (is_free_first l.places) (take l.entry-index l.entry-items) ≡ true
