use Rattle.std.proofs.Common.{◌≡◌, false, sym, ap, ◌∙◌}
use Rattle.alternatives.specs.Texts.{is_boundary}
use Rattle.flow_defs.specs.Coded.{Coded}
use Rattle.flow_defs.specs.Code.{texts_of}
use Rattle.point_edges.proofs.Through.{boundary_returns, inside_returns, none_returns}
use Rattle.point_edges.proofs.direct_branches.returning_inside_place.Goals as goal

pub returns-in_err-sym : goal.returns-in_err-sym
returns-in_err-sym c = λ weak.
    c.from_residual.ensures ∙ none_returns c.args.points.now c.args.place weak c.args.crossing c.returning_place.result (c.returning_place.ensures weak) c.in_err-sym.was

pub returns-then-is_boundary_by_guess : goal.returns-then-is_boundary_by_guess
returns-then-is_boundary_by_guess c = λ weak.
    let o : Coded = c.args.points.now in
    boundary_returns o c.args.place weak c.args.crossing c.returning_place.result (c.returning_place.ensures weak)
    (ap (λ (e : Coded). is_boundary (texts_of e) c.args.place) (sym c.places.ensures) ∙ sym c.is_boundary_by_guess.ensures ∙ c.if-is_boundary_by_guess.true)

pub returns-else-is_boundary_by_guess : goal.returns-else-is_boundary_by_guess
returns-else-is_boundary_by_guess c = λ weak.
    let o : Coded = c.args.points.now in
    let inside : is_boundary (texts_of o) c.args.place ≡ false =
    ap (λ (e : Coded). is_boundary (texts_of e) c.args.place) (sym c.places.ensures) ∙ sym c.is_boundary_by_guess.ensures ∙ c.if-is_boundary_by_guess.false in
    inside_returns o c.args.place weak c.args.crossing c.returning_place.result (c.returning_place.ensures weak) inside c.in_ok-sym.sym c.in_ok-sym.was
