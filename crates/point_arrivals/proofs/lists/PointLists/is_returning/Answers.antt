use Rattle.std.proofs.Common.{ap, ◌∙◌}
use Rattle.flow_defs.specs.Coded.{Coded}
use Rattle.flow_defs.specs.Arrival.{around}
use Rattle.flow_defs.specs.Code.{point_at}
use Rattle.point_arrivals.proofs.lists.PointLists.is_returning.Goals as goal

pub returns : goal.returns
unfolding around
returns c = c.is_returning.ensures ∙ ap (λ (e : Coded). (around e (point_at e c.args.n)).returning) c.self.view_is
