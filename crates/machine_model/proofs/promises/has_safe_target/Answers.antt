use Rattle.std.proofs.Common.{sym, ◌∙◌, subst}
use Rattle.std.specs.Prelude.{IsTrue}
use Rattle.machine_defs.specs.declared.flow.Role.{Role}
use Rattle.program_model.specs.Program.{program_of}
use Rattle.option_law.specs.Access.{HasSafeTarget}
use Rattle.machine_model.specs.Allowed.{allowances_of}
use Rattle.machine_model.proofs.promises.has_safe_target.Goals as goal

pub returns-in-CallIn : goal.returns-in-CallIn
returns-in-CallIn c = λ set.
    subst (λ (x : Role). (IsTrue c.is_safe.result → HasSafeTarget (program_of c.args.p.now set) (allowances_of c.args.allowed.now) x) × (HasSafeTarget (program_of c.args.p.now set) (allowances_of c.args.allowed.now) x → IsTrue c.is_safe.result)) (sym c.in-CallIn.is)
    (λ h. sym (c.is_safe.ensures set) ∙ h, λ h. c.is_safe.ensures set ∙ h)

pub returns-then-is_safe : goal.returns-then-is_safe
returns-then-is_safe c = λ set.
    subst (λ (x : Role). (IsTrue c.is_safe_name.result → HasSafeTarget (program_of c.args.p.now set) (allowances_of c.args.allowed.now) x) × (HasSafeTarget (program_of c.args.p.now set) (allowances_of c.args.allowed.now) x → IsTrue c.is_safe_name.result)) (sym c.in-CallEither.is)
    (λ h. (sym (c.is_safe-in-CallEither.ensures set) ∙ c.if-is_safe.true, sym c.is_safe_name.ensures ∙ h), λ h. c.is_safe_name.ensures ∙ h.1)

pub returns-else-is_safe : goal.returns-else-is_safe
returns-else-is_safe c = λ set.
    subst (λ (x : Role). (IsTrue c.is_safe-in-CallEither.result → HasSafeTarget (program_of c.args.p.now set) (allowances_of c.args.allowed.now) x) × (HasSafeTarget (program_of c.args.p.now set) (allowances_of c.args.allowed.now) x → IsTrue c.is_safe-in-CallEither.result)) (sym c.in-CallEither.is)
    (λ h. absurd (let fails = c.if-is_safe.false in let k : ⊥ = cc in k), λ h. c.is_safe-in-CallEither.ensures set ∙ h.0)
