use Rattle.std.proofs.Common.{◌≡◌}
use Rattle.std.specs.Prelude.{filter_map}
use Rattle.std.specs.List.{range_with_len}
use Rattle.point_arrivals.specs.Remade.{room_owner}
use Rattle.point_arrivals.proofs.rooms.room_owners.Given as goal

abbrev pub invariant-loop-n : goal.invariant-loop-n
invariant-loop-n l = l.owners.items ≡ filter_map (room_owner l.places) (range_with_len 0 l.n)
