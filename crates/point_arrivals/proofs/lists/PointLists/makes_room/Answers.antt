use Rattle.std.proofs.Common.{ap, ◌∙◌}
use Rattle.flow_defs.specs.Coded.{Coded}
use Rattle.flow_defs.specs.Arrival.{around}
use Rattle.flow_defs.specs.Code.{point_at}
use Rattle.point_arrivals.proofs.lists.PointLists.makes_room.Goals as goal

pub returns : goal.returns
unfolding around
returns c = c.makes_room.ensures ∙ ap (λ (e : Coded). (around e (point_at e c.args.n)).makes_room) c.self.view_is
