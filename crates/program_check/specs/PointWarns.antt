-- The warnings of user access at a point, by the ways in which control comes there.
use Rattle.std.specs.Prelude.{◌≡◌, ℕ, ◌⊎◌, true, false, Option, IsSome, Contains, ℤ, pos, negsuc}
use Rattle.ot_base.specs.declared.place.Place.{Place}
use Rattle.ot_base.specs.declared.warning.Warning.{Warning}
use Rattle.ot_base.specs.declared.rules.TheConstants.{CALL_WITH_ACCESS, RETURN_WITH_ACCESS, RETURN_WITHOUT_ACCESS, ACCESS_ON_TWICE, ACCESS_OFF_TWICE, SAFE_FUNCTION_ACCESS_OFF, POPF_WITH_ACCESS_TRACKED}
use Rattle.ot_base.specs.Warnings.{numbered_warning, bare_warning}
use Rattle.operation_defs.specs.declared.op.Op.{Op}
use Rattle.operation_defs.specs.declared.op.Op.TheVariants.{Stac, Clac, Popf}
use Rattle.machine_defs.specs.declared.flow.Edge.{Edge}
use Rattle.machine_defs.specs.declared.flow.EdgeKind.TheVariants.{Sibling}
use Rattle.machine_defs.specs.declared.flow.Role.{Role}
use Rattle.machine_defs.specs.declared.flow.Role.TheVariants.{CallIn, CallEither, CallOut, CallAny, JumpOut, JumpAny}
use Rattle.machine_defs.specs.Program.{Program}
use Rattle.machine_defs.specs.Kept.{edges_of}
use Rattle.machine_defs.specs.Allowances.{Allowances, is_safe}
use Rattle.machine_defs.specs.AccessRules.{function_number, AccessWarns, CallsUnsafe, Leaves}
use Rattle.program_check.specs.declared.access_ways.Ways.{Ways}
use Rattle.program_check.specs.Ways.{IsOn, IsInSafe}

-- a warning that tells a callee
abbrev pub callee_warning : Place → ℤ → Warning
callee_warning place callee = numbered_warning place CALL_WITH_ACCESS callee (pos 0)

-- a point of a function that isn't safe is called, or of none, or a symbol whose name isn't listed
abbrev pub PointIsCalled : Program → Allowances → Place → ℕ → Warning → Type 0
PointIsCalled p allowed place r w = is_safe p allowed r ≡ false × w ≡ callee_warning place (function_number (p.function r))

abbrev pub NameIsCalled : Allowances → Place → ℕ → Warning → Type 0
NameIsCalled allowed place sym w = allowed.safe_name sym ≡ false × w ≡ callee_warning place (pos sym)

-- so a role calls, or jumps to another function
abbrev pub RoleCalls : Program → Allowances → Place → Role → Warning → Type 0
RoleCalls p allowed place (CallIn entry) w = PointIsCalled p allowed place entry w
RoleCalls p allowed place (CallEither entry sym) w = PointIsCalled p allowed place entry w ⊎ NameIsCalled allowed place sym w
RoleCalls p allowed place (CallOut sym) w = NameIsCalled allowed place sym w
RoleCalls p allowed place CallAny w = w ≡ callee_warning place (negsuc 0)
RoleCalls p allowed place (JumpOut sym) w = NameIsCalled allowed place sym w
RoleCalls p allowed place JumpAny w = w ≡ callee_warning place (negsuc 0)
RoleCalls p allowed place _ w = ⊥

-- and an edge
abbrev pub EdgeCalls : Program → Allowances → Place → Edge → Warning → Type 0
EdgeCalls p allowed place e w = e.kind ≡ Sibling × PointIsCalled p allowed place e.to w

abbrev pub EdgesCall : Program → Allowances → ℕ → Warning → Type 0
EdgesCall p allowed q w = (e : Edge) × Contains (edges_of p q) e × EdgeCalls p allowed (p.place q) e w

-- 41, with user access on
abbrev pub CallWarns : Program → Allowances → ℕ → Warning → Type 0
CallWarns p allowed q w = (callee : ℤ) × CallsUnsafe p allowed q callee × (w ≡ callee_warning (p.place q) callee)

-- 42, 43: the function is left
abbrev pub ExitWarns : Program → Ways → ℕ → Warning → Type 0
ExitWarns p ways q w =
    (ways.other_on ≡ true × Leaves p q) × w ≡ bare_warning (p.place q) RETURN_WITH_ACCESS
    ⊎ (ways.safe_off ≡ true × Leaves p q) × w ≡ bare_warning (p.place q) RETURN_WITHOUT_ACCESS

-- 44 to 47: the operation, in code of this function
abbrev pub OperationWarns : Place → Op → Option ℕ → Ways → Warning → Type 0
OperationWarns place op owner ways w =
    (op ≡ Stac × IsOn ways) × w ≡ bare_warning place ACCESS_ON_TWICE
    ⊎ ((op ≡ Clac × ways.other_off ≡ true × IsSome owner) × w ≡ bare_warning place ACCESS_OFF_TWICE)
    ⊎ ((op ≡ Clac × IsInSafe ways) × w ≡ bare_warning place SAFE_FUNCTION_ACCESS_OFF)
    ⊎ ((op ≡ Popf × IsOn ways) × w ≡ bare_warning place POPF_WITH_ACCESS_TRACKED)

-- all of them
abbrev pub PointWarns : Program → Allowances → Ways → ℕ → Warning → Type 0
PointWarns p allowed ways q w =
    (IsOn ways × CallWarns p allowed q w)
    ⊎ ExitWarns p ways q w
    ⊎ OperationWarns (p.place q) (p.insn q).op (p.owner q) ways w

-- the warnings of a program
abbrev pub IsAccessWarning : Program → Allowances → Warning → Type 0
IsAccessWarning p allowed w = AccessWarns p allowed w.place w.rule w.a w.b
