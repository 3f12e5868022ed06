use Rattle.std.proofs.Common.{ap}
use Rattle.flow_defs.specs.Arrival.{makes_room}
use Rattle.point_arrivals.proofs.rooms.makes_room.Goals as goal

pub returns-in-None : goal.returns-in-None
unfolding makes_room
returns-in-None c = ap (makes_room c.args.places.now) c.in-None.ensures
