-- The warnings of the rules 31 and 32, as far as they are asked for.
use Rattle.std.specs.Prelude.{◌≡◌, ℕ, ◌⊎◌, true, false}
use Rattle.ot_base.specs.declared.options.Options.{Options}
use Rattle.ot_base.specs.declared.warning.Warning.{Warning}
use Rattle.ot_base.specs.declared.rules.TheConstants.{INDIRECT_BRANCH, NAKED_RETURN}
use Rattle.ot_base.specs.Warnings.{bare_warning}
use Rattle.machine_defs.specs.Program.{Program, IsPoint}
use Rattle.machine_defs.specs.Allowances.{Allowances}
use Rattle.machine_defs.specs.Asked.{is_indirect_branch, is_return}

-- an indirect branch that isn't listed as safe, in code that doesn't run before user space, where `retpoline` asks for it
abbrev pub IsUnsafeBranch : Program → Allowances → Options → ℕ → Type 0
IsUnsafeBranch p allowed options q = options.retpoline ≡ true × is_indirect_branch (p.insn q).op ≡ true × allowed.safe_branch q ≡ false × allowed.before_user_space q ≡ false

-- a return that isn't, where `rethunk` does
abbrev pub IsUnsafeReturn : Program → Allowances → Options → ℕ → Type 0
IsUnsafeReturn p allowed options q = options.rethunk ≡ true × is_return (p.insn q).op ≡ true × allowed.safe_branch q ≡ false × allowed.before_user_space q ≡ false

-- 31, 32: either of them at a point
abbrev pub PointWarns : Program → Allowances → Options → ℕ → Warning → Type 0
PointWarns p allowed options q w =
    (IsUnsafeBranch p allowed options q × w ≡ bare_warning (p.place q) INDIRECT_BRANCH)
    ⊎ (IsUnsafeReturn p allowed options q × w ≡ bare_warning (p.place q) NAKED_RETURN)

-- at any point of the program
abbrev pub BranchWarns : Program → Allowances → Options → Warning → Type 0
BranchWarns p allowed options w = (q : ℕ) × IsPoint p q × PointWarns p allowed options q w
