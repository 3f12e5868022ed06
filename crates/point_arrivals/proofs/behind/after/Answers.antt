use Rattle.std.proofs.Common.{sym, ap, ◌∙◌}
use Rattle.flow_defs.specs.Coded.{Coded}
use Rattle.flow_defs.specs.Arrival.{arrive}
use Rattle.flow_defs.specs.Code.{point_at}
use Rattle.std.proofs.lemmas.Result.{IfOk-weaker}
use Rattle.point_arrivals.proofs.Following.{after_none, after_some}
use Rattle.point_arrivals.proofs.behind.after.Goals as goal

pub returns-in_ok-from_slice-in-Some : goal.returns-in_ok-from_slice-in-Some
returns-in_ok-from_slice-in-Some c =
    c.in_ok-from_slice-in-Some.ensures.ok ∙ after_some c.args.places.now (point_at c.args.places.now c.args.n) c.in-Some.next (sym c.number_of_next.ensures ∙ c.in-Some.is)

pub returns-in-None : goal.returns-in-None
returns-in-None c =
    let o : Coded = c.args.places.now in
    IfOk-weaker c.arrive.result _ _ (λ v is.
    is ∙ ap (arrive o) c.place_behind-place.ensures ∙ after_none o (point_at o c.args.n) (sym c.number_of_next.ensures ∙ c.in-None.is)) c.arrive.ensures
