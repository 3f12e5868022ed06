-- The promises of `retpoline` and `rethunk`: no run comes to an indirect branch, or to a return, that isn't listed as safe, but in
-- code that runs before user space does (`.init.text` of an object that is no part of a module).
use Rattle.std.specs.Prelude.{◌≡◌, true, false}
use Rattle.ot_base.specs.declared.options.Options.{Options}
use Rattle.machine_defs.specs.Program.{Program}
use Rattle.machine_defs.specs.IsProgram.{IsProgram}
use Rattle.machine_defs.specs.Machine.{Bases, IsPlacement, Machine, Wrecked, At}
use Rattle.machine_defs.specs.Run.{Run}
use Rattle.machine_defs.specs.Allowances.{Allowances}
use Rattle.machine_defs.specs.Asked.{IsClean, is_indirect_branch, is_return}

-- an indirect call or jump, or a return, at which the machine stands is listed as safe where an option asks for it, and the code
-- doesn't run before user space
abbrev pub BranchesSafely : Program → Allowances → Options → Machine → Type 0
BranchesSafely p allowed options Wrecked = ⊥
BranchesSafely p allowed options (At s) =
    (options.retpoline ≡ true → is_indirect_branch (p.insn s.point).op ≡ true → allowed.before_user_space s.point ≡ false → allowed.safe_branch s.point ≡ true)
    × (options.rethunk ≡ true → is_return (p.insn s.point).op ≡ true → allowed.before_user_space s.point ≡ false → allowed.safe_branch s.point ≡ true)

abbrev pub BranchLaw : Type 0
BranchLaw =
    (p : Program) (allowed : Allowances) (options : Options) (bases : Bases)
    → IsProgram p → IsPlacement p bases → IsClean p allowed options
    → (m : Machine) → Run p bases m → BranchesSafely p allowed options m
