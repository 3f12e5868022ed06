-- What is warned of is what breaks a rule of the stack, and what options ask for besides.
use Rattle.std.proofs.Common.{◌≡◌, ◌↔◌, ℕ, ◌<◌, List, [], ◌⊎◌, inl, inr, Contains, length, ℤ, refl, sym, subst, arith}
use Rattle.ot_base.specs.declared.options.Options.{Options}
use Rattle.ot_base.specs.declared.place.Place.{Place}
use Rattle.ot_base.specs.declared.warning.Warning.{Warning}
use Rattle.ot_base.specs.Warnings.{numbered_warning}
use Rattle.machine_defs.specs.Program.{Program}
use Rattle.machine_defs.specs.Broken.{IsBroken}
use Rattle.machine_defs.specs.Allowances.{Allowances}
use Rattle.machine_defs.specs.Asked.{IsClean, IsWarned, of_stack, indirect_branch, naked_return, of_access}
use Rattle.unwinding_law.proofs.Lists.{nowhere}
use Rattle.stack_rules.specs.Gains.{Gains}
use Rattle.program_check.specs.AskedRules.{AskedWarns}
use Rattle.program_check.specs.OptionVerdict.{AreWarned}

-- putting warnings in order leaves those that there are
pub gains_sorted : (old mid new : List Warning) (P : Warning → Type 0) → Gains old mid P → ((w : Warning) → Contains new w ↔ Contains mid w) → Gains old new P
gains_sorted old mid new P gains same w = (λ c. (gains w).0 ((same w).0 c), λ h. (same w).1 ((gains w).1 h))

-- a list with an element isn't empty
pub has_some : (xs : List Warning) (x : Warning) → Contains xs x → 0 < length xs
has_some xs x c = omega (arith, c.1)

module _ (p : Program) (allowed : Allowances) (options : Options) where
  -- a warning, by whether it is one of the stack
  abbrev pub ByParts : Warning → Type 0
  ByParts w = IsBroken p options w.place w.rule w.a w.b ⊎ AskedWarns p allowed options w

  by_parts : (place : Place) (rule : ℕ) (a b : ℤ) → IsWarned p allowed options place rule a b → ByParts (numbered_warning place rule a b)
  by_parts place rule a b (of_stack _ _ _ _ h) = inl h
  by_parts place rule a b (indirect_branch q asked point op unsafe later) = inr (inl (q, point, inl ((asked, op, unsafe, later), refl)))
  by_parts place rule a b (naked_return q asked point op unsafe later) = inr (inl (q, point, inr ((asked, op, unsafe, later), refl)))
  by_parts place rule a b (of_access _ _ _ _ asked h) = inr (inr (asked, h))

  abbrev IsWarnedAt : Warning → Type 0
  IsWarnedAt w = IsWarned p allowed options w.place w.rule w.a w.b

  from_parts : (w : Warning) → ByParts w → IsWarnedAt w
  from_parts w (inl h) = of_stack w.place w.rule w.a w.b h
  from_parts w (inr (inl (q, point, inl ((asked, op, unsafe, later), e)))) = subst (λ (x : Warning). IsWarnedAt x) (sym e) (indirect_branch q asked point op unsafe later)
  from_parts w (inr (inl (q, point, inr ((asked, op, unsafe, later), e)))) = subst (λ (x : Warning). IsWarnedAt x) (sym e) (naked_return q asked point op unsafe later)
  from_parts w (inr (inr (asked, h))) = of_access w.place w.rule w.a w.b asked h

  -- the warnings of the stack, and then those that options ask for besides
  pub all_warned : (stack all : List Warning) → ((w : Warning) → Contains stack w ↔ IsBroken p options w.place w.rule w.a w.b) → Gains stack all (AskedWarns p allowed options) → AreWarned p allowed options all
  all_warned stack all are gains w = (λ c. from_parts w (to ((gains w).0 c)), λ h. (gains w).1 (from (by_parts w.place w.rule w.a w.b h)))
    where
      to : Contains stack w ⊎ AskedWarns p allowed options w → ByParts w
      to (inl c) = inl ((are w).0 c)
      to (inr h) = inr h

      from : ByParts w → Contains stack w ⊎ AskedWarns p allowed options w
      from (inl h) = inl ((are w).1 h)
      from (inr h) = inr h

  -- where no rule of the stack is broken, the empty list has its warnings
  pub none_of_stack : ((place : Place) (rule : ℕ) (a b : ℤ) → IsBroken p options place rule a b → ⊥) → (w : Warning) → Contains [] w ↔ IsBroken p options w.place w.rule w.a w.b
  none_of_stack unbroken w = (λ c. absurd (nowhere w c), λ h. absurd (unbroken w.place w.rule w.a w.b h))

  -- where the list of all warnings is empty, nothing is warned of
  pub none_is_clean : (all : List Warning) → all ≡ [] → AreWarned p allowed options all → IsClean p allowed options
  none_is_clean all e are place rule a b h =
      let w = numbered_warning place rule a b in
      nowhere w (subst (λ (xs : List Warning). Contains xs w) e ((are w).1 h))
