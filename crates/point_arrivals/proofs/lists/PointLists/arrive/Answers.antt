use Rattle.std.proofs.Common.{All, sym, ap, ◌∙◌, subst}
use Rattle.flow_defs.specs.Coded.{Coded}
use Rattle.flow_defs.specs.Arrival.{arrive}
use Rattle.std.proofs.lemmas.Result.{IfOk-weaker}
use Rattle.point_arrivals.proofs.Arriving.{arrive_inside}
use Rattle.point_arrivals.proofs.Numbers.{IsNumber}
use Rattle.point_arrivals.proofs.lists.PointLists.arrive.Goals as goal

pub returns-clause-known : goal.returns-clause-known
returns-clause-known c =
    let o : Coded = c.args.self.now in
    IfOk-weaker c.arrive.result _ _ (λ v is.
    subst (All (IsNumber o)) (sym (is ∙ ap (λ (e : Coded). arrive e c.args.place) c.self.view_is)) (arrive_inside o c.args.place)) c.arrive.ensures
