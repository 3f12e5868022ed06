-- One rule after another.
use Rattle.std.proofs.Common.{◌≡◌, ◌≢◌, ◌↔◌, ℕ, false, Option, Some, IsTrue, subst}
use Rattle.std.proofs.lemmas.Result.{on_ok_weaker}
use Rattle.operation_defs.specs.declared.op.Op.TheVariants.{RetImm}
use Rattle.stack_rules.proofs.GainsLemmas.{gains_both, gains_for, by_rule}
use Rattle.stack_rules.proofs.exits.push_return.Goals as goal

pub returns : goal.returns
returns c = on_ok_weaker c.push_if-3.result (λ last consistent.
    gains_both _ _ _ _ _ (gains_for _ _ _ _ _ _ (c.depth_warning-modified.ensures consistent) (by_rule _ _ _ _ c.return_rule-broken.ensures c.is_rule.ensures) c.in_ok-push_if.ensures)
    (gains_both _ _ _ _ _ (gains_for _ _ _ _ _ _ (c.depth_warning-modified.ensures consistent) (subst (λ (o : Option ℕ). IsTrue c.is_allowed_drop.result ↔ (c.args.op ≡ RetImm × o ≢ Some 15)) c.return_rule-broken.ensures c.is_allowed_drop.ensures) c.in_ok-push_if-2.ensures)
    (gains_for _ _ _ _ _ _ c.bare_warning-unallowed.ensures (subst (λ (o : Option ℕ). IsTrue c.is_unallowed.result ↔ (o ≡ Some 15 × c.args.may_leave ≡ false)) c.return_rule-broken.ensures c.is_unallowed.ensures) last))) c.push_if-3.ensures
