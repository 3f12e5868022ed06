-- The promises of options, one by one, and that together they are those of the laws.
use Rattle.std.specs.Prelude.{◌≡◌, ◌↔◌, ℕ, Bool, true, false, List, ◌∷◌, Contains, IsTrue}
use Rattle.ot_base.specs.declared.options.Options.{Options}
use Rattle.machine_defs.specs.declared.flow.Edge.{Edge}
use Rattle.machine_defs.specs.declared.flow.EdgeKind.TheVariants.{Sibling}
use Rattle.state_defs.specs.Frame.{Frame}
use Rattle.machine_defs.specs.Program.{Program, edge}
use Rattle.machine_defs.specs.Machine.{Standing, At}
use Rattle.machine_defs.specs.Step.{may_go_back}
use Rattle.machine_defs.specs.Allowances.{Allowances, is_safe}
use Rattle.machine_defs.specs.Asked.{is_indirect_branch, is_return}
use Rattle.option_law.specs.Frames.{CallsWithFrame}
use Rattle.option_law.specs.Branches.{BranchesSafely}
use Rattle.option_law.specs.Access.{IsAccessKept, HasSafeTarget, top_of}
use Rattle.machine_model.specs.declared.promises.Promise.{Promise}
use Rattle.machine_model.specs.declared.promises.Promise.TheVariants.{FramePointer, SafeBranch, SafeReturn, SafeTarget, SafeTailCall, StaysOff, LeavesAsFound}

-- an edge to another function leads to a safe one
abbrev pub IsSafeSibling : Program → Allowances → Edge → Type 0
IsSafeSibling p allowed e = e.kind ≡ Sibling → is_safe p allowed e.to ≡ true

-- each other function to which the point jumps is safe
abbrev pub HasSafeSiblings : Program → Allowances → ℕ → Type 0
HasSafeSiblings p allowed q = (r : ℕ) → Contains (p.goes q) (edge r Sibling) → is_safe p allowed r ≡ true

-- a promise is kept where the machine stands, with these homes of its frames
abbrev pub IsKept : Program → Allowances → List Bool → Standing → Promise → Type 0
IsKept p allowed homes s FramePointer = CallsWithFrame p (At s)
IsKept p allowed homes s SafeBranch = is_indirect_branch (p.insn s.point).op ≡ true → allowed.before_user_space s.point ≡ false → allowed.safe_branch s.point ≡ true
IsKept p allowed homes s SafeReturn = is_return (p.insn s.point).op ≡ true → allowed.before_user_space s.point ≡ false → allowed.safe_branch s.point ≡ true
IsKept p allowed homes s SafeTarget = s.core.ac ≡ true → HasSafeTarget p allowed (p.role s.point)
IsKept p allowed homes s SafeTailCall = (r : ℕ) → s.core.ac ≡ true → Contains (p.goes s.point) (edge r Sibling) → is_safe p allowed r ≡ true
IsKept p allowed homes s StaysOff = (f : Frame) (fs : List Frame) → s.core.shadow ≡ f ∷ fs → top_of homes ≡ true → f.ac ≡ false → s.core.ac ≡ false
IsKept p allowed homes s LeavesAsFound = (f : Frame) (fs : List Frame) → s.core.shadow ≡ f ∷ fs → IsTrue (may_go_back p (p.role s.point)) → s.core.ac ≡ f.ac

-- the laws promise these, and no more
pub record ArePromised : Type 0 where
  pub branches : (p : Program) (allowed : Allowances) (options : Options) (homes : List Bool) (s : Standing)
      → BranchesSafely p allowed options (At s)
      ↔ ((options.retpoline ≡ true → IsKept p allowed homes s SafeBranch) × (options.rethunk ≡ true → IsKept p allowed homes s SafeReturn))
  pub access : (p : Program) (allowed : Allowances) (homes : List Bool) (s : Standing)
      → IsAccessKept p allowed homes (At s)
      ↔ (IsKept p allowed homes s SafeTarget × IsKept p allowed homes s SafeTailCall × IsKept p allowed homes s StaysOff × IsKept p allowed homes s LeavesAsFound)
