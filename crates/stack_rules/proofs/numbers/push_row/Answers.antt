-- The offset that doesn't fit.
use Rattle.std.proofs.Common.{◌≡◌, Some, ℤ, sym, ap, ◌∙◌, pos}
use Rattle.std.proofs.Common.{w64, rules}
use Rattle.std.proofs.lemmas.Int.{to_z-of_z}
use Rattle.std.proofs.lemmas.Result.{on_ok_weaker}
use Rattle.ot_base.specs.declared.warning.Warning.{Warning}
use Rattle.ot_base.specs.Warnings.{numbered_warning}
use Rattle.state_defs.specs.Row.{unfit_offset}
use Rattle.stack_rules.specs.PointWarns.{RowWarns}
use Rattle.stack_rules.proofs.GainsLemmas.{gains_same}
use Rattle.stack_rules.proofs.numbers.push_row.Goals as goal

pub returns-in-Some : goal.returns-in-Some
returns-in-Some c = on_ok_weaker c.push.result (λ h consistent.
    let at : ℤ → Warning = λ x. numbered_warning c.args.place 10 x (pos 0) in
    let told : c.offset_warning.result ≡ at c.in-Some.a = c.offset_warning.ensures ∙ ap at (to_z-of_z w64 c.in-Some.a (search rules)) in
    let unfit : unfit_offset c.args.state ≡ Some c.in-Some.a = sym (c.offset_number.ensures consistent) ∙ c.in-Some.is in
    gains_same _ _ (λ w. w ≡ c.offset_warning.result) (RowWarns c.args.place c.args.state) h
    (λ w. (λ e. (c.in-Some.a, unfit, e ∙ told), λ (a, other, e). let same : a ≡ c.in-Some.a = cc in e ∙ (ap at same ∙ sym told)))) c.push.ensures
