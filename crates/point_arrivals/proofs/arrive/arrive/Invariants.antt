use Rattle.std.proofs.Common.{◌≡◌, take}
use Rattle.point_arrivals.proofs.Arriving.{standing_at}
use Rattle.point_arrivals.proofs.arrive.arrive.Given as goal

abbrev pub invariant-loop-entry : goal.invariant-loop-entry
invariant-loop-entry l = l.points.items ≡ standing_at l.places l.fn.place (take l.entry-index l.entry-items)
