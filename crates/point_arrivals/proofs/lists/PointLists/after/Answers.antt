use Rattle.std.proofs.Common.{All, sym, ap, ◌∙◌, subst}
use Rattle.flow_defs.specs.Coded.{Coded}
use Rattle.flow_defs.specs.Arrival.{after}
use Rattle.flow_defs.specs.Code.{point_at}
use Rattle.std.proofs.lemmas.Result.{IfOk-weaker}
use Rattle.point_arrivals.proofs.Following.{after_inside}
use Rattle.point_arrivals.proofs.Numbers.{IsNumber}
use Rattle.point_arrivals.proofs.lists.PointLists.after.Goals as goal

pub returns-clause-known : goal.returns-clause-known
returns-clause-known c =
    let o : Coded = c.args.self.now in
    IfOk-weaker c.after.result _ _ (λ v is.
    subst (All (IsNumber o)) (sym (is ∙ ap (λ (e : Coded). after e (point_at e c.args.n)) c.self.view_is)) (after_inside o (point_at o c.args.n))) c.after.ensures
