-- All that a check warns of under its options.
use Rattle.std.specs.Prelude.{◌≡◌, ℕ, Bool, true, false, ℤ, pos}
use Rattle.ot_base.specs.declared.place.Place.{Place}
use Rattle.ot_base.specs.declared.options.Options.{Options}
use Rattle.ot_base.specs.declared.rules.TheConstants.{INDIRECT_BRANCH, NAKED_RETURN}
use Rattle.operation_defs.specs.declared.op.Op.{Op}
use Rattle.operation_defs.specs.declared.op.Op.TheVariants.{CallInd, JmpInd, Ret, RetImm}
use Rattle.machine_defs.specs.Program.{Program, IsPoint}
use Rattle.machine_defs.specs.Broken.{IsBroken}
use Rattle.machine_defs.specs.Allowances.{Allowances}
use Rattle.machine_defs.specs.AccessRules.{AccessWarns}

-- the instruction is an indirect call or jump
abbrev pub is_indirect_branch : Op → Bool
is_indirect_branch CallInd = true
is_indirect_branch (JmpInd table) = true
is_indirect_branch _ = false

-- the instruction is a return
abbrev pub is_return : Op → Bool
is_return Ret = true
is_return RetImm = true
is_return _ = false

-- The warnings of a check under its options: those of the stack; and where an option asks for them, 31 an indirect branch and
-- 32 a return whose place isn't listed as safe, at any point, reached or not, whose code doesn't run before user space; and those
-- of user access.
pub data IsWarned (p : Program) (allowed : Allowances) (options : Options) : Place → ℕ → ℤ → ℤ → Type 0 where
  of_stack : (place : Place) (rule : ℕ) (a b : ℤ) → IsBroken p options place rule a b → IsWarned p allowed options place rule a b
  indirect_branch : (q : ℕ) → options.retpoline ≡ true → IsPoint p q → is_indirect_branch (p.insn q).op ≡ true → allowed.safe_branch q ≡ false → allowed.before_user_space q ≡ false
      → IsWarned p allowed options (p.place q) INDIRECT_BRANCH (pos 0) (pos 0)
  naked_return : (q : ℕ) → options.rethunk ≡ true → IsPoint p q → is_return (p.insn q).op ≡ true → allowed.safe_branch q ≡ false → allowed.before_user_space q ≡ false
      → IsWarned p allowed options (p.place q) NAKED_RETURN (pos 0) (pos 0)
  of_access : (place : Place) (rule : ℕ) (a b : ℤ) → options.uaccess ≡ true → AccessWarns p allowed place rule a b → IsWarned p allowed options place rule a b

-- a check warns of nothing under these options
abbrev pub IsClean : Program → Allowances → Options → Type 0
IsClean p allowed options = (place : Place) (rule : ℕ) (a b : ℤ) → IsWarned p allowed options place rule a b → ⊥
