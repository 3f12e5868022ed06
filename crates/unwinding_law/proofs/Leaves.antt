-- A kept point that leaves its function has the initial state.
use Rattle.std.proofs.Common.{◌≡◌, ℕ, Bool, true, false, not, Some, None, if◌then◌else◌, ℤ, pos, refl, sym, ap}
use Rattle.operation_defs.specs.declared.op.Op.TheVariants.{Iret}
use Rattle.machine_defs.specs.declared.flow.Role.{Role}
use Rattle.machine_defs.specs.declared.flow.Role.TheVariants.{Return, JumpOut, JumpAny}
use Rattle.state_defs.specs.declared.state.Depth.TheVariants.{Known, AtLeast}
use Rattle.state_defs.specs.declared.state.BpHome.TheVariants.{Same, Saved}
use Rattle.state_defs.specs.declared.state.State.{State}
use Rattle.state_defs.specs.declared.state.State.TheVariants.{Live, Ended, Regs}
use Rattle.state_defs.specs.State.{initial, ended_by}
use Rattle.state_defs.specs.Move.{int_same}
use Rattle.state_defs.specs.Rules.{is_initial, return_rule, sibling_rule, iret_rule}
use Rattle.machine_defs.specs.Program.{Program}
use Rattle.machine_defs.specs.Ways.{may_leave}
use Rattle.machine_defs.specs.Step.{may_go_back}
use Rattle.machine_defs.specs.MayReturn.{MayReturn}
use Rattle.machine_defs.specs.MayReturn as may
use Rattle.machine_defs.specs.Kept.{Kept}
use Rattle.machine_defs.specs.Broken.{LeavesByJump, outside, anywhere, IsAccepted, modified_return, modified_sibling, unallowed_return, unallowed_sibling, unallowed_iret}
use Rattle.stack_state.proofs.Consistent.{int_same_is}
use Rattle.unwinding_law.proofs.WaysOn.{Allows}

initial_is : (s : State) → is_initial s ≡ true → s ≡ initial
initial_is (Live (Known n) None Same) e = ap (λ (x : ℤ). Live (Known x) None Same) (int_same_is n (pos 8) e)
initial_is (Live (Known n) None (Saved o)) e = absurd (let k : ⊥ = cc in k)
initial_is (Live (Known n) (Some m) b) e = absurd (let k : ⊥ = cc in k)
initial_is (Live (AtLeast n) m b) e = absurd (let k : ⊥ = cc in k)
initial_is (Ended k) e = absurd (let k : ⊥ = cc in k)
initial_is (Regs full d) e = absurd (let k : ⊥ = cc in k)

unruled : (b : Bool) (n : ℕ) → ((if b then None else Some n) ≡ Some n → ⊥) → b ≡ true
unruled true n h = refl
unruled false n h = absurd (h refl)

return_initial : (s : State) → (return_rule s ≡ Some 5 → ⊥) → (return_rule s ≡ Some 15 → ⊥) → s ≡ initial
return_initial (Live d m b) h k = initial_is (Live d m b) (unruled (is_initial (Live d m b)) 5 h)
return_initial (Ended e) h k = absurd (k refl)
return_initial (Regs full d) h k = absurd (k refl)

sibling_initial : (s : State) → (sibling_rule s ≡ Some 6 → ⊥) → (sibling_rule s ≡ Some 15 → ⊥) → s ≡ initial
sibling_initial (Live d m b) h k = initial_is (Live d m b) (unruled (is_initial (Live d m b)) 6 h)
sibling_initial (Ended e) h k = absurd (k refl)
sibling_initial (Regs full d) h k = absurd (k refl)

iret_partial : (s : State) → ended_by s ≡ None → (iret_rule s ≡ Some 15 → ⊥) → s ≡ Regs false (pos 0)
iret_partial (Live d m b) e h = absurd (h refl)
iret_partial (Ended k) e h = absurd (let k : ⊥ = cc in k)
iret_partial (Regs true d) e h = absurd (h refl)
iret_partial (Regs false d) e h = ap (λ (x : ℤ). Regs false x) (int_same_is d (pos 0) (unruled (int_same d (pos 0)) 15 h))

module _ (p : Program) (acc : IsAccepted p) (a : ℕ) (s : State) (kept : Kept p a s) where
  -- where code that may leave is allowed to by its state
  module _ (allowed : may_leave p a ≡ true → Allows s) where
    jump_allowed : LeavesByJump p a → (b : Bool) → may_leave p a ≡ b → sibling_rule s ≡ Some 15 → ⊥
    jump_allowed l true m e = (allowed m).jump e
    jump_allowed l false m e = acc _ _ _ _ (unallowed_sibling a s kept l e m)

    return_allowed : p.role a ≡ Return → (b : Bool) → may_leave p a ≡ b → return_rule s ≡ Some 15 → ⊥
    return_allowed r true m e = (allowed m).return e
    return_allowed r false m e = acc _ _ _ _ (unallowed_return a s kept r e m)

    pub at_jump : LeavesByJump p a → s ≡ initial
    at_jump l = sibling_initial s (λ e. acc _ _ _ _ (modified_sibling a s kept l e)) (jump_allowed l (may_leave p a) refl)

    pub at_leave : (r : Role) → p.role a ≡ r → may_go_back p r ≡ true → s ≡ initial
    at_leave Return e l = return_initial s (λ h. acc _ _ _ _ (modified_return a s kept e h)) (return_allowed e (may_leave p a) refl)
    at_leave JumpAny e l = at_jump (anywhere e)
    at_leave (JumpOut sym) e l = at_jump (outside sym e)
    at_leave _ e l = absurd (let k : ⊥ = cc in k)

  pub at_iret : (p.insn a).op ≡ Iret → ended_by s ≡ None → s ≡ Regs false (pos 0)
  at_iret e live = iret_partial s live (λ h. acc _ _ _ _ (unallowed_iret a s kept e h))

-- from where control leaves its function a return may come
pub leaves_may_return : (p : Program) (a : ℕ) (r : Role) → p.role a ≡ r → may_go_back p r ≡ true → MayReturn p a
leaves_may_return p a Return e l = may.returns a e
leaves_may_return p a JumpAny e l = may.jumps_anywhere a e
leaves_may_return p a (JumpOut sym) e l = may.jumps_out a sym e (returns (p.never_returns sym) l)
  where
    returns : (b : Bool) → not b ≡ true → b ≡ false
    returns true e = absurd (let k : ⊥ = cc in k)
    returns false e = refl
leaves_may_return p a _ e l = absurd (let k : ⊥ = cc in k)
