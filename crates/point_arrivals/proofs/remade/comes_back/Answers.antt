use Rattle.std.proofs.Common.{◌≡◌, true, ◌&&◌, sym, ap, ◌∙◌}
use Rattle.flow_defs.specs.Coded.{Coded}
use Rattle.alternatives.specs.declared.point.Point.{Point}
use Rattle.flow_defs.specs.Arrival.{around}
use Rattle.flow_defs.specs.Code.{point_at}
use Rattle.point_arrivals.specs.Remade.{are_hinted}
use Rattle.point_arrivals.proofs.remade.comes_back.Goals as goal

pub returns : goal.returns
unfolding around
returns c =
    let o : Coded = c.args.lists.now in
    let p : Point = point_at o c.args.n in
    let within : (around o p).within ≡ true = sym c.in_ok-is_within.ensures ∙ c.if-not-branch.false in
    c.are_hinted.ensures
    ∙ ap (λ (e : Coded). are_hinted e c.as_slice.result.now) c.places.ensures
    ∙ ap (are_hinted o) (c.as_slice.ensures ∙ c.in_ok-next.ensures.points)
    ∙ ap (λ b. b && (around o p).hinted) (sym within)
