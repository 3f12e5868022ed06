-- The rule of the refused move.
use Rattle.std.proofs.Common.{◌≡◌, ℕ, IsTrue, Err, sym, ap, ◌∙◌}
use Rattle.std.proofs.lemmas.Result.{on_ok_weaker}
use Rattle.ot_base.specs.Warnings.{bare_warning}
use Rattle.stack_rules.specs.PointWarns.{RefusalWarns}
use Rattle.stack_rules.proofs.GainsLemmas.{gains_same}
use Rattle.stack_rules.proofs.exits.push_refusal.Goals as goal

pub returns-in-Err : goal.returns-in-Err
returns-in-Err c = on_ok_weaker c.push_if.result (λ h.
    let refused : c.args.after ≡ Err c.in-Err.rule = c.in-Err.is in
    let told : c.bare_warning.result ≡ bare_warning c.args.place c.in-Err.rule = c.bare_warning.ensures in
    gains_same _ _ (λ w. IsTrue c.is_refused.result × w ≡ c.bare_warning.result) (RefusalWarns c.args.place c.args.after c.args.before_hint) h
    (λ w. (
      λ k. (c.in-Err.rule, (refused, c.is_refused.ensures.0 k.0), k.1 ∙ told),
      λ (rule, (other, allowed), e).
          let same : rule ≡ c.in-Err.rule = cc in
          (c.is_refused.ensures.1 (λ seven. allowed (same ∙ seven)), e ∙ (ap (λ (r : ℕ). bare_warning c.args.place r) same ∙ sym told)),
    ))) c.push_if.ensures
