use Rattle.std.proofs.Common.{true, false, sym, ap, ◌∙◌}
use Rattle.std.specs.Prelude.{is_some}
use Rattle.std.proofs.lemmas.Bool.{false≢true}
use Rattle.flow_defs.specs.Code.{point_at}
use Rattle.point_arrivals.proofs.Aims.{has_number}
use Rattle.point_edges.proofs.Numbered.{padding_of_number}
use Rattle.point_edges.proofs.Within.{role_within}
use Rattle.point_edges.proofs.call_roles.call_within.Goals as goal

pub returns-in_default : goal.returns-in_default
returns-in_default c = absurd (false≢true (ap is_some c.in_default.ensures ∙ has_number c.args.places.now c.args.other ∙ c.requires.known))

pub returns-then-is_padding : goal.returns-then-is_padding
returns-then-is_padding c =
    role_within c.args.places.now (point_at c.args.places.now c.args.n) c.args.other true (c.if-is_padding.ensures ∙ padding_of_number c.args.places.now c.args.other c.in-Some.to (sym c.in-Some.ensures))

pub returns-else-is_padding : goal.returns-else-is_padding
returns-else-is_padding c =
    c.place_call.ensures
    ∙ role_within c.args.places.now (point_at c.args.places.now c.args.n) c.args.other false (c.if-is_padding.ensures ∙ padding_of_number c.args.places.now c.args.other c.in-Some.to (sym c.in-Some.ensures))
