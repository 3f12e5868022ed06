-- A point that is a return or an indirect jump, and no INT3 behind it.
use Rattle.std.proofs.Common.{◌≡◌, ℕ, Bool, true, false, IsTrue, List, inl, inr, sym, ap, ◌∙◌}
use Rattle.ot_base.specs.Warnings.{bare_warning}
use Rattle.ot_base.specs.declared.place.Place.{Place}
use Rattle.ot_base.specs.declared.rules.TheConstants.{JUMP_WITHOUT_INT3, RETURN_WITHOUT_INT3}
use Rattle.ot_base.specs.declared.warning.Warning.{Warning}
use Rattle.machine_defs.specs.Program.{Program}
use Rattle.stack_rules.specs.Gains.{Gains}
use Rattle.stack_rules.proofs.GainsLemmas.{gains_both, gains_for, gains_none}
use Rattle.entry_rules.specs.EntryWarns.{is_before_int3, is_indirect_jump, is_return}
use Rattle.entry_rules.specs.PointWarns.{PointIsBare}

module _ (p : Program) (n : ℕ) where
  -- another instruction
  pub none_otherwise : (old : List Warning) → is_return (p.insn n).op ≡ false → is_indirect_jump (p.insn n).op ≡ false → Gains old old (PointIsBare p n)
  none_otherwise old no_return no_jump = gains_none old (PointIsBare p n) (λ w k. elim k [
    | inl h ↦ let both : false ≡ true = sym no_return ∙ h.0.0 in let z : ⊥ = cc in z
    | inr h ↦ let both : false ≡ true = sym no_jump ∙ h.0.0 in let z : ⊥ = cc in z
  ])

  -- an INT3 behind it
  pub none_before_int3 : (old : List Warning) → is_before_int3 p n ≡ true → Gains old old (PointIsBare p n)
  none_before_int3 old stops = gains_none old (PointIsBare p n) (λ w k. elim k [
    | inl h ↦ let both : true ≡ false = sym stops ∙ h.0.1 in let z : ⊥ = cc in z
    | inr h ↦ let both : true ≡ false = sym stops ∙ h.0.1 in let z : ⊥ = cc in z
  ])

  -- none behind it
  pub one_bare : (old mid new : List Warning) (returns jumps : Bool) (place : Place) → is_before_int3 p n ≡ false → returns ≡ is_return (p.insn n).op → jumps ≡ is_indirect_jump (p.insn n).op → place ≡ p.place n
      → Gains old mid (λ w. IsTrue returns × w ≡ bare_warning place RETURN_WITHOUT_INT3) → Gains mid new (λ w. IsTrue jumps × w ≡ bare_warning place JUMP_WITHOUT_INT3) → Gains old new (PointIsBare p n)
  one_bare old mid new returns jumps place none is_one is_other at one other =
      gains_both old mid new _ _
      (gains_for old mid (IsTrue returns) (is_return (p.insn n).op ≡ true × is_before_int3 p n ≡ false) _ _ (ap (λ (x : Place). bare_warning x RETURN_WITHOUT_INT3) at) (λ h. (sym is_one ∙ h, none), λ k. is_one ∙ k.0) one)
      (gains_for mid new (IsTrue jumps) (is_indirect_jump (p.insn n).op ≡ true × is_before_int3 p n ≡ false) _ _ (ap (λ (x : Place). bare_warning x JUMP_WITHOUT_INT3) at) (λ h. (sym is_other ∙ h, none), λ k. is_other ∙ k.0) other)
