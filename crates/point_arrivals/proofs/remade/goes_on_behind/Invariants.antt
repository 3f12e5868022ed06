use Rattle.std.proofs.Common.{◌≡◌, true, take}
use Rattle.std.specs.List.{list_all}
use Rattle.point_arrivals.proofs.Ending.{has_owner}
use Rattle.point_arrivals.proofs.remade.goes_on_behind.Given as goal

abbrev pub invariant-loop-q : goal.invariant-loop-q
invariant-loop-q l = list_all (has_owner l.places l.owner) (take l.q-index l.next) ≡ true
