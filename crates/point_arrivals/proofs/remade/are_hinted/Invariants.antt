use Rattle.std.proofs.Common.{◌≡◌, true, take}
use Rattle.point_arrivals.specs.Remade.{are_hinted}
use Rattle.point_arrivals.proofs.remade.are_hinted.Given as goal

abbrev pub invariant-loop-q : goal.invariant-loop-q
invariant-loop-q l = are_hinted l.places (take l.q-index l.numbers) ≡ true
