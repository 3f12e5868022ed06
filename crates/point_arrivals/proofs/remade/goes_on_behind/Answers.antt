use Rattle.std.proofs.Common.{◌≡◌, false, get_or, Some, sym, ap, ◌∙◌}
use Rattle.std.proofs.lemmas.List.Folds.{list_all_at}
use Rattle.flow_defs.specs.Coded.{Coded}
use Rattle.flow_defs.specs.Tables.{same_owner}
use Rattle.point_arrivals.proofs.Ending.{has_owner, one_other}
use Rattle.point_arrivals.proofs.remade.goes_on_behind.Goals as goal

pub returns-then-not-is_owner : goal.returns-then-not-is_owner
returns-then-not-is_owner c =
    let o : Coded = c.args.places.now in
    let other : has_owner o c.args.owner (get_or c.args.next.now c.loop-q.q-index 0) ≡ false =
    sym (ap (λ x. same_owner x (Some c.args.owner)) c.owner.ensures) ∙ sym c.is_owner.ensures ∙ c.if-not-is_owner.true in
    λ p. one_other o p c.args.owner c.args.next.now (list_all_at (has_owner o c.args.owner) c.args.next.now c.loop-q.q-index 0 c.loop-q-test.true other)
