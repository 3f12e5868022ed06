-- What a program that is clean under options doesn't do.
use Rattle.std.proofs.Common.{◌≡◌, ℕ, Bool, true, false, ℤ, refl}
use Rattle.ot_base.specs.declared.place.Place.{Place}
use Rattle.ot_base.specs.declared.options.Options.{Options}
use Rattle.machine_defs.specs.Program.{Program}
use Rattle.machine_defs.specs.Broken.{IsAccepted, always}
use Rattle.machine_defs.specs.Allowances.{Allowances}
use Rattle.machine_defs.specs.AccessRules.{AccessWarns}
use Rattle.machine_defs.specs.Asked.{IsClean, of_stack, of_access}

-- what isn't false is true
pub unless_false : (b : Bool) → (b ≡ false → ⊥) → b ≡ true
unless_false true h = refl
unless_false false h = absurd (h refl)

module _ (p : Program) (allowed : Allowances) (options : Options) (clean : IsClean p allowed options) where
  -- it is accepted
  pub accepted : IsAccepted p
  accepted place rule a b w = clean place rule a b (of_stack place rule a b (always place rule a b w))

  -- it breaks no rule of user access that is asked for
  pub keeps_access : options.uaccess ≡ true → (place : Place) (rule : ℕ) (a b : ℤ) → AccessWarns p allowed place rule a b → ⊥
  keeps_access asked place rule a b w = clean place rule a b (of_access place rule a b asked w)
