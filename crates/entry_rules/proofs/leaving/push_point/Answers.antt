use Rattle.std.proofs.Common.{◌≡◌, false, inl, inr, ℤ, pos, rules, w64, sym, ap, ◌∙◌}
use Rattle.std.proofs.lemmas.Int.{ints, to_z-of_z}
use Rattle.ot_base.specs.Warnings.{numbered_warning}
use Rattle.entry_rules.specs.EntryWarns.{is_noinstr}
use Rattle.ot_base.specs.declared.rules.TheConstants.{CALL_LEAVES_NOINSTR}
use Rattle.std.proofs.lemmas.Result.{on_ok_weaker}
use Rattle.entry_rules.proofs.leaving.push_point.Goals as goal

pub returns : goal.returns
returns c = on_ok_weaker c.push_callee.result (λ gains. λ p facts knows point w.
    let told = to_z-of_z w64 c.callee_of.result (search (rules, ints)) ∙ c.callee_of.ensures p facts c.args.flags.now knows in
    let out : is_noinstr p facts c.args.n ≡ false = sym (c.is_noinstr.ensures p facts knows) ∙ c.if-is_noinstr.false in (
      λ has. elim ((gains w).0 has) [
        | inl old ↦ inl old
        | inr e ↦ inr (out, e ∙ ap (λ (callee : ℤ). numbered_warning c.args.place CALL_LEAVES_NOINSTR callee (pos 0)) told)
      ],
      λ either. elim either [
        | inl old ↦ (gains w).1 (inl old)
        | inr h ↦ (gains w).1 (inr (h.1 ∙ ap (λ (callee : ℤ). numbered_warning c.args.place CALL_LEAVES_NOINSTR callee (pos 0)) (sym told)))
      ],
    )) c.push_callee.ensures
