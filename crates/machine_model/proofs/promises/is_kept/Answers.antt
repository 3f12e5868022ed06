use Rattle.std.proofs.Common.{sym, subst}
use Rattle.std.specs.Prelude.{IsTrue}
use Rattle.machine_defs.specs.declared.flow.Role.{Role}
use Rattle.program_model.specs.Program.{program_of}
use Rattle.machine_model.specs.Standing.{standing_of}
use Rattle.option_law.specs.Access.{HasSafeTarget}
use Rattle.machine_model.specs.declared.promises.Promise.{Promise}
use Rattle.machine_model.specs.Allowed.{allowances_of}
use Rattle.machine_model.specs.Promise.{IsKept}
use Rattle.machine_model.proofs.promises.is_kept.Goals as goal

pub returns-in-FramePointer : goal.returns-in-FramePointer
returns-in-FramePointer c = λ set.
    subst (λ (x : Promise). (IsTrue c.calls_with_frame.result → IsKept (program_of c.args.p.now set) (allowances_of c.args.allowed.now) c.args.homes.now (standing_of c.args.s.now) x) × (IsKept (program_of c.args.p.now set) (allowances_of c.args.allowed.now) c.args.homes.now (standing_of c.args.s.now) x → IsTrue c.calls_with_frame.result)) (sym c.in-FramePointer.is)
    (c.calls_with_frame.ensures set)

pub returns-in-SafeTarget : goal.returns-in-SafeTarget
returns-in-SafeTarget c = λ set.
    let role = c.role-role.ensures in
    subst (λ (x : Promise). (IsTrue c.is_safe_with.result → IsKept (program_of c.args.p.now set) (allowances_of c.args.allowed.now) c.args.homes.now (standing_of c.args.s.now) x) × (IsKept (program_of c.args.p.now set) (allowances_of c.args.allowed.now) c.args.homes.now (standing_of c.args.s.now) x → IsTrue c.is_safe_with.result)) (sym c.in-SafeTarget.is) (
      λ h on. subst (λ (x : Role). HasSafeTarget (program_of c.args.p.now set) (allowances_of c.args.allowed.now) x) role ((c.has_safe_target.ensures set).0 (c.is_safe_with.ensures.0 h on)),
      λ h. c.is_safe_with.ensures.1 (λ on. (c.has_safe_target.ensures set).1 (subst (λ (x : Role). HasSafeTarget (program_of c.args.p.now set) (allowances_of c.args.allowed.now) x) (sym role) (h on))),
    )

pub returns-in-SafeTailCall : goal.returns-in-SafeTailCall
returns-in-SafeTailCall c = λ set.
    subst (λ (x : Promise). (IsTrue c.is_safe_with-in-SafeTailCall.result → IsKept (program_of c.args.p.now set) (allowances_of c.args.allowed.now) c.args.homes.now (standing_of c.args.s.now) x) × (IsKept (program_of c.args.p.now set) (allowances_of c.args.allowed.now) c.args.homes.now (standing_of c.args.s.now) x → IsTrue c.is_safe_with-in-SafeTailCall.result)) (sym c.in-SafeTailCall.is) (
      λ h r on held. (c.has_safe_siblings.ensures set).0 (c.is_safe_with-in-SafeTailCall.ensures.0 h on) r held,
      λ h. c.is_safe_with-in-SafeTailCall.ensures.1 (λ on. (c.has_safe_siblings.ensures set).1 (λ r held. h r on held)),
    )
