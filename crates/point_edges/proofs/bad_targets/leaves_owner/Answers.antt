use Rattle.std.proofs.Common.{ℕ, Option, not, sym, ap, ◌∙◌}
use Rattle.std.specs.Prelude.{is_some}
use Rattle.std.proofs.lemmas.Bool.{false≢true}
use Rattle.flow_defs.specs.Coded.{Coded}
use Rattle.flow_defs.specs.Tables.{same_owner}
use Rattle.flow_defs.specs.Code.{point_at}
use Rattle.flow_defs.specs.Owners.{owner_of_point}
use Rattle.point_arrivals.proofs.Aims.{has_number}
use Rattle.point_edges.proofs.MarksWithin.{bad_within}
use Rattle.point_edges.proofs.bad_targets.leaves_owner.Goals as goal

pub returns-in-Some : goal.returns-in-Some
returns-in-Some c =
    let o : Coded = c.args.places.now in
    ap not (c.is_same_owner.ensures
    ∙ ap (λ (owner : Option ℕ). same_owner owner c.owner-in-Some.result) c.owner.ensures
    ∙ ap (same_owner (owner_of_point o (point_at o c.args.n))) c.owner-in-Some.ensures)
    ∙ bad_within o (point_at o c.args.n) c.args.other c.in-Some.to (sym c.in-Some.ensures)

pub returns-in-None : goal.returns-in-None
returns-in-None c = absurd (false≢true (ap is_some c.in-None.ensures ∙ has_number c.args.places.now c.args.other ∙ c.requires.known))
