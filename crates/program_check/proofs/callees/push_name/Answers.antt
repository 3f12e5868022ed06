-- A name that isn't listed.
use Rattle.std.proofs.Common.{◌≡◌, false, pos, rules, sym, ap, ◌∙◌, w64}
use Rattle.std.proofs.lemmas.Int.{to_z-of_z}
use Rattle.std.proofs.lemmas.Result.{on_ok_weaker}
use Rattle.stack_rules.proofs.GainsLemmas.{gains_same}
use Rattle.program_check.specs.PointWarns.{NameIsCalled, callee_warning}
use Rattle.program_check.proofs.callees.push_name.Goals as goal

pub returns : goal.returns
returns c = on_ok_weaker c.push.result (λ h allowed points a.
    let told : c.callee_warning.result ≡ callee_warning c.args.place (pos c.args.sym) = c.callee_warning.ensures ∙ ap (callee_warning c.args.place) (to_z-of_z w64 c.from.result (search rules) ∙ c.from.ensures) in
    let unsafe : allowed.safe_name c.args.sym ≡ false = sym (c.is_safe_name.ensures allowed points a) ∙ c.if-is_safe_name.false in
    gains_same _ _ (λ w. w ≡ c.callee_warning.result) (NameIsCalled allowed c.args.place c.args.sym) h (λ w. (λ e. (unsafe, e ∙ told), λ k. k.1 ∙ sym told))) c.push.ensures
