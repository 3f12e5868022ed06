use Rattle.std.proofs.Common.{◌≡◌, not, ◌&&◌, sym, ap, ◌∙◌}
use Rattle.std.specs.Prelude.{is_none}
use Rattle.alternatives.specs.Texts.{is_boundary}
use Rattle.flow_defs.specs.Coded.{Coded}
use Rattle.alternatives.specs.declared.point.Point.{Point}
use Rattle.flow_defs.specs.Arrival.{place_behind}
use Rattle.flow_defs.specs.Code.{point_at, texts_of}
use Rattle.point_arrivals.specs.Next.{number_of_next}
use Rattle.point_arrivals.proofs.Following.{at_end_is, none_is}
use Rattle.point_arrivals.proofs.behind.is_at_end.Goals as goal

pub returns-then-is_none : goal.returns-then-is_none
returns-then-is_none c =
    let o : Coded = c.args.places.now in
    let p : Point = point_at o c.args.n in
    let none : c.is_none.result ≡ is_none (number_of_next o p) = none_is c.number_of_next.result c.is_none.result c.is_none.ensures ∙ ap (λ x. is_none x) c.number_of_next.ensures in
    ap not (c.is_boundary_by_guess.ensures ∙ ap (is_boundary (texts_of o)) c.place_behind.ensures)
    ∙ ap (λ b. b && not (is_boundary (texts_of o) (place_behind o p))) (sym c.if-is_none.true ∙ none)
    ∙ at_end_is o p

pub returns-else-is_none : goal.returns-else-is_none
returns-else-is_none c =
    let o : Coded = c.args.places.now in
    let p : Point = point_at o c.args.n in
    let none : c.is_none.result ≡ is_none (number_of_next o p) = none_is c.number_of_next.result c.is_none.result c.is_none.ensures ∙ ap (λ x. is_none x) c.number_of_next.ensures in
    c.if-is_none.false
    ∙ ap (λ b. b && not (is_boundary (texts_of o) (place_behind o p))) (sym c.if-is_none.false ∙ none)
    ∙ at_end_is o p
