use Rattle.std.proofs.Common.{◌≡◌, ℕ, ◌<◌, List, length, All, Option, Some, None, sym, ap, ◌∙◌, subst}
use Rattle.flow_defs.specs.Coded.{Coded}
use Rattle.alternatives.specs.declared.point.Point.{Point}
use Rattle.flow_defs.specs.Arrival.{after, around, goes_on_behind}
use Rattle.flow_defs.specs.Code.{point_at, points_of_object}
use Rattle.flow_defs.specs.Owners.{owner_of_point}
use Rattle.point_arrivals.proofs.remade.is_within.Goals as goal

pub returns-in_default : goal.returns-in_default
unfolding around
returns-in_default c =
    let o : Coded = c.args.lists.now in
    let p : Point = point_at o c.args.n in
    let none : owner_of_point o p ≡ None = sym (c.owner.ensures ∙ ap (λ (e : Coded). owner_of_point e (point_at e c.args.n)) c.places.ensures) ∙ c.in_default.is in
    sym (ap (λ (x : Option ℕ). goes_on_behind o p x (after o p)) none)

pub goes_on_behind-requires : goal.goes_on_behind-requires
goes_on_behind-requires c =
    let o : Coded = c.args.lists.now in
    subst (λ (e : Coded). All (λ q. q < length (points_of_object e)) c.as_slice.result.now) (sym c.places-2.ensures)
    (subst (λ (ns : List ℕ). All (λ q. q < length (points_of_object o)) ns) (sym c.as_slice.ensures) c.in_ok-next.ensures.known)

pub returns : goal.returns
unfolding around
returns c =
    let o : Coded = c.args.lists.now in
    let p : Point = point_at o c.args.n in
    let owner : Some c.in-Some.owner ≡ owner_of_point o p = sym (sym (c.owner.ensures ∙ ap (λ (e : Coded). owner_of_point e (point_at e c.args.n)) c.places.ensures) ∙ c.in-Some.is) in
    c.goes_on_behind.ensures p
    ∙ ap (λ (e : Coded). goes_on_behind e p (Some c.in-Some.owner) c.as_slice.result.now) c.places-2.ensures
    ∙ ap (goes_on_behind o p (Some c.in-Some.owner)) (c.as_slice.ensures ∙ c.in_ok-next.ensures.points)
    ∙ ap (λ (x : Option ℕ). goes_on_behind o p x (after o p)) owner
