-- What is broken is what no option has to ask for, and what rules 14 and 21 give where they are asked for.
use Rattle.std.proofs.Common.{◌≡◌, ◌↔◌, ℕ, true, List, [], ◌⊎◌, inl, inr, Contains, ℤ, refl, sym, subst}
use Rattle.ot_base.specs.declared.options.Options.{Options}
use Rattle.ot_base.specs.declared.place.Place.{Place}
use Rattle.ot_base.specs.declared.warning.Warning.{Warning}
use Rattle.ot_base.specs.Warnings.{numbered_warning, bare_warning}
use Rattle.machine_defs.specs.Program.{Program}
use Rattle.machine_defs.specs.Broken.{IsAccepted, IsBroken, IsFirstUnreached, Warns, always, unreachable, without_frame}
use Rattle.unwinding_law.proofs.Lists.{nowhere}
use Rattle.stack_rules.specs.Gains.{Gains}
use Rattle.stack_rules.specs.Unframed.{IsUnframed}
use Rattle.stack_rules.proofs.GainsLemmas.{gains_both, gains_none, gains_same}
use Rattle.program_check.specs.Asked.{AreBroken, AreUnasked, UnframedWarns, UnreachedWarns}

module _ (p : Program) (options : Options) where
  -- a broken rule, by whether an option asks for it
  abbrev pub ByParts : Warning → Type 0
  ByParts w = Warns p w.place w.rule w.a w.b ⊎ (UnreachedWarns p options w ⊎ UnframedWarns p options w)

  by_parts : (place : Place) (rule : ℕ) (a b : ℤ) → IsBroken p options place rule a b → ByParts (numbered_warning place rule a b)
  by_parts place rule a b (always _ _ _ _ h) = inl h
  by_parts place rule a b (unreachable q asked accepted first) = inr (inl (q, asked, accepted, first, refl))
  by_parts place rule a b (without_frame q s asked kept call fentry unframed) = inr (inr (q, asked, (s, kept, call, fentry, unframed), refl))

  abbrev IsBrokenAt : Warning → Type 0
  IsBrokenAt w = IsBroken p options w.place w.rule w.a w.b

  unreached_is_broken : (w : Warning) → UnreachedWarns p options w → IsBrokenAt w
  unreached_is_broken w (q, asked, accepted, first, e) = subst (λ (x : Warning). IsBrokenAt x) (sym e) (unreachable q asked accepted first)

  unframed_is_broken : (w : Warning) → UnframedWarns p options w → IsBrokenAt w
  unframed_is_broken w (q, asked, (s, kept, call, fentry, unframed), e) = subst (λ (x : Warning). IsBrokenAt x) (sym e) (without_frame q s asked kept call fentry unframed)

  from_parts : (w : Warning) → ByParts w → IsBrokenAt w
  from_parts w (inl h) = always w.place w.rule w.a w.b h
  from_parts w (inr (inl h)) = unreached_is_broken w h
  from_parts w (inr (inr h)) = unframed_is_broken w h

  -- the warnings without options, then those of rule 14, then those of rule 21, and all of them in order
  pub all_broken : (unasked mid all sorted : List Warning) → AreUnasked p unasked → Gains unasked mid (UnreachedWarns p options) → Gains mid all (UnframedWarns p options) → ((w : Warning) → Contains sorted w ↔ Contains all w) → AreBroken p options sorted
  all_broken unasked mid all sorted are one two same w = (λ c. from_parts w (to ((both w).0 ((same w).0 c))), λ h. (same w).1 ((both w).1 (from (by_parts w.place w.rule w.a w.b h))))
    where
      both : Gains unasked all (λ w. UnreachedWarns p options w ⊎ UnframedWarns p options w)
      both = gains_both unasked mid all (UnreachedWarns p options) (UnframedWarns p options) one two

      to : Contains unasked w ⊎ (UnreachedWarns p options w ⊎ UnframedWarns p options w) → ByParts w
      to (inl c) = inl ((are w).0 c)
      to (inr h) = inr h

      from : ByParts w → Contains unasked w ⊎ (UnreachedWarns p options w ⊎ UnframedWarns p options w)
      from (inl h) = inl ((are w).1 h)
      from (inr h) = inr h

  -- where nothing warns, the program is accepted
  pub none_accepts : (warnings : List Warning) → warnings ≡ [] → AreUnasked p warnings → IsAccepted p
  none_accepts warnings e are place rule a b h =
      let w = numbered_warning place rule a b in
      nowhere w (subst (λ (xs : List Warning). Contains xs w) e ((are w).1 h))

  pub none_is_broken : (warnings : List Warning) → warnings ≡ [] → AreBroken p options warnings → (place : Place) (rule : ℕ) (a b : ℤ) → IsBroken p options place rule a b → ⊥
  none_is_broken warnings e are place rule a b h =
      let w = numbered_warning place rule a b in
      nowhere w (subst (λ (xs : List Warning). Contains xs w) e ((are w).1 h))

  -- so it is where nothing is broken
  pub nothing_accepts : (warnings : List Warning) → warnings ≡ [] → AreBroken p options warnings → IsAccepted p
  nothing_accepts warnings e are place rule a b h = none_is_broken warnings e are place rule a b (always place rule a b h)

  -- rule 14 where it is asked for and nothing warns
  pub unreached_told : (old new : List Warning) → options.unreachable ≡ true → IsAccepted p → Gains old new (λ w. (q : ℕ) × IsFirstUnreached p options q × (w ≡ bare_warning (p.place q) 14)) → Gains old new (UnreachedWarns p options)
  unreached_told old new asked accepted gains = gains_same old new (λ w. (q : ℕ) × IsFirstUnreached p options q × (w ≡ bare_warning (p.place q) 14)) (UnreachedWarns p options) gains (λ w. (λ (q, h, e). (q, asked, accepted, h, e), λ (q, asked, accepted, h, e). (q, h, e)))

  -- where something warns, it has none
  pub unreached_untold : (warnings : List Warning) (x : Warning) → Contains warnings x → AreUnasked p warnings → Gains warnings warnings (UnreachedWarns p options)
  unreached_untold warnings x c are = gains_none warnings (UnreachedWarns p options) (λ w (q, asked, accepted, h, e). accepted x.place x.rule x.a x.b ((are x).0 c))

  -- rule 21 where it is asked for
  pub unframed_told : (old new : List Warning) → options.fp ≡ true → Gains old new (λ w. (q : ℕ) × IsUnframed p q × (w ≡ bare_warning (p.place q) 21)) → Gains old new (UnframedWarns p options)
  unframed_told old new asked gains = gains_same old new (λ w. (q : ℕ) × IsUnframed p q × (w ≡ bare_warning (p.place q) 21)) (UnframedWarns p options) gains (λ w. (λ (q, h, e). (q, asked, h, e), λ (q, asked, h, e). (q, h, e)))
