-- No run comes to a branch that isn't listed as safe.
use Rattle.ot_base.specs.declared.options.Options.{Options}
use Rattle.machine_defs.specs.Program.{Program}
use Rattle.machine_defs.specs.Machine.{Machine, Wrecked, At, Bases}
use Rattle.machine_defs.specs.Law.{IsInOrder, UnwindingLaw}
use Rattle.machine_defs.specs.Allowances.{Allowances}
use Rattle.machine_defs.specs.Asked.{IsClean, indirect_branch, naked_return}
use Rattle.option_law.specs.Branches.{BranchesSafely, BranchLaw}
use Rattle.option_law.proofs.Clean.{unless_false, accepted}

in_order : (p : Program) (allowed : Allowances) (options : Options) (bases : Bases) → IsClean p allowed options → (m : Machine) → IsInOrder p bases m → BranchesSafely p allowed options m
in_order p allowed options bases clean Wrecked o = o
in_order p allowed options bases clean (At s) o = (
  λ asked branch early. unless_false (allowed.safe_branch s.point) (λ e. clean _ _ _ _ (indirect_branch s.point asked o.0.point branch e early)),
  λ asked branch early. unless_false (allowed.safe_branch s.point) (λ e. clean _ _ _ _ (naked_return s.point asked o.0.point branch e early)),
)

pub law_from : UnwindingLaw → BranchLaw
law_from law p allowed options bases is placed clean m r = in_order p allowed options bases clean m (law p bases is placed (accepted p allowed options clean) m r)
