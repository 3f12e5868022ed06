-- By the role, and by the edges.
use Rattle.std.proofs.Common.{◌≡◌, true, sym, ◌∙◌, subst, arith}
use Rattle.std.proofs.lemmas.Result.{on_ok_weaker}
use Rattle.ot_base.specs.declared.place.Place.{Place}
use Rattle.machine_defs.specs.declared.flow.Role.{Role}
use Rattle.machine_defs.specs.Program.{IsPoint}
use Rattle.stack_rules.specs.Gains.{Gains}
use Rattle.stack_rules.proofs.GainsLemmas.{gains_both, gains_same}
use Rattle.entry_rules.specs.EntryWarns.{is_noinstr}
use Rattle.entry_rules.specs.PointWarns.{EdgesLeave, PointLeaves, RoleLeaves}
use Rattle.entry_rules.proofs.RuleWarnings.{point_leaves}
use Rattle.entry_rules.proofs.leaving.push_leaving_point.Goals as goal

pub returns : goal.returns
returns c = on_ok_weaker c.push_edges.result (λ h p facts knows.
    let n = c.args.n in
    let old = c.args.into.now.items in
    let mid = c.push_role.new.into.items in
    let new = c.push_edges.new.into.items in
    let point : IsPoint p n = omega (arith, c.requires, knows.tells.count) in
    let inside : is_noinstr p facts n ≡ true = sym (c.is_noinstr.ensures p facts knows) ∙ c.if-not-is_noinstr.false in
    let by_role : Gains old mid (RoleLeaves p facts (p.place n) (p.role n)) =
    subst (λ (place : Place). Gains old mid (RoleLeaves p facts place (p.role n))) (c.place.ensures p knows.tells)
    (subst (λ (r : Role). Gains old mid (RoleLeaves p facts c.place.result r)) (c.role.ensures p knows.tells) (c.in_ok-push_role.ensures p facts n knows point (sym (c.role.ensures p knows.tells)))) in
    gains_same old new _ (PointLeaves p facts n) (gains_both old mid new (RoleLeaves p facts (p.place n) (p.role n)) (EdgesLeave p facts n) by_role (h p facts knows))
    (λ w. (λ k. (inside, (point_leaves p facts n w).0 k), λ k. (point_leaves p facts n w).1 k.1))) c.push_edges.ensures
