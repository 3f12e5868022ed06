use Rattle.std.proofs.Common.{true, false, sym, ap, ◌∙◌}
use Rattle.std.specs.Prelude.{is_some}
use Rattle.std.proofs.lemmas.Bool.{false≢true}
use Rattle.flow_defs.specs.Code.{point_at}
use Rattle.point_arrivals.proofs.Aims.{has_number}
use Rattle.point_edges.proofs.MarksWithin.{inner_within}
use Rattle.point_edges.proofs.into_functions.is_inner_point.Goals as goal

pub returns-in_default : goal.returns-in_default
returns-in_default c = absurd (false≢true (ap is_some c.in_default.ensures ∙ has_number c.args.places.now c.args.other ∙ c.requires.known))

pub returns-then-is_padding : goal.returns-then-is_padding
returns-then-is_padding c =
    c.if-is_padding.true ∙ inner_within c.args.places.now (point_at c.args.places.now c.args.n) c.args.other c.in-Some.to true (sym c.in-Some.ensures) c.if-is_padding.ensures

pub returns-else-is_padding : goal.returns-else-is_padding
returns-else-is_padding c =
    c.is_inner_place.ensures ∙ inner_within c.args.places.now (point_at c.args.places.now c.args.n) c.args.other c.in-Some.to false (sym c.in-Some.ensures) c.if-is_padding.ensures
