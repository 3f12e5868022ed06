-- Calls that rule 21 tells.
use Rattle.std.specs.Prelude.{◌≡◌, ℕ, true, false, Some}
use Rattle.ot_base.specs.declared.rules.TheConstants.{CALL_WITHOUT_FRAME}
use Rattle.state_defs.specs.declared.state.State.{State}
use Rattle.state_defs.specs.Rules.{call_rule}
use Rattle.machine_defs.specs.Program.{Program, is_call_op}
use Rattle.machine_defs.specs.Kept.{Kept}

-- the point is a call without a frame, but one of `__fentry__`
abbrev pub IsUnframed : Program → ℕ → Type 0
IsUnframed p q = (s : State) × Kept p q s × (is_call_op (p.insn q).op ≡ true) × (p.calls_fentry q ≡ false) × (call_rule s ≡ Some CALL_WITHOUT_FRAME)
