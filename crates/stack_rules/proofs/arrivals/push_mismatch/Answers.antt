-- The state that is brought, against the one that is kept.
use Rattle.std.proofs.Common.{◌≡◌, IsTrue, ℤ, sym, ap, ◌∙◌}
use Rattle.std.proofs.lemmas.Result.{on_ok_weaker}
use Rattle.ot_base.specs.declared.warning.Warning.{Warning}
use Rattle.ot_base.specs.Warnings.{numbered_warning}
use Rattle.state_defs.specs.declared.state.State.{State}
use Rattle.state_defs.specs.Rules.{depth_number}
use Rattle.stack_rules.specs.PointWarns.{MismatchWarns}
use Rattle.stack_rules.proofs.GainsLemmas.{gains_same}
use Rattle.stack_rules.proofs.arrivals.push_mismatch.Goals as goal

pub returns-in-Some : goal.returns-in-Some
returns-in-Some c = on_ok_weaker c.push_if.result (λ h consistent brought.
    let other : State = c.in-Some.other in
    let kept : State = c.args.kept in
    let at : ℤ → ℤ → Warning = λ x y. numbered_warning c.args.place 4 x y in
    let told : c.depths_warning-warning.result ≡ at (depth_number kept) (depth_number other) = c.depths_warning-warning.ensures consistent (brought other c.in-Some.is) in
    gains_same _ _ (λ w. IsTrue c.is_other.result × w ≡ c.depths_warning-warning.result) (MismatchWarns c.args.place kept c.args.brought) h
    (λ w. (
      λ k. (other, (c.in-Some.is, c.is_other.ensures.0 k.0), k.1 ∙ told),
      λ (t, (e, ne), k). let same : t ≡ other = cc in
          (c.is_other.ensures.1 (λ x. ne (same ∙ x)), k ∙ (ap (λ (s : State). at (depth_number kept) (depth_number s)) same ∙ sym told)),
    ))) c.push_if.ensures
