-- The rules that a state alone decides.
use Rattle.std.specs.Prelude.{ℕ, Bool, true, false, ◌&&◌, Option, Some, None, if◌then◌else◌, is_some, ℤ, pos, neg_ℤ}
use Rattle.ot_base.specs.declared.rules.TheConstants.{MODIFIED_RETURN, MODIFIED_SIBLING_CALL, OFFSET_OUT_OF_RANGE, EXIT_NOT_ALLOWED, CALL_WITHOUT_FRAME}
use Rattle.state_defs.specs.declared.state.Depth.TheVariants.{Known, AtLeast}
use Rattle.state_defs.specs.declared.state.BpHome.{BpHome}
use Rattle.state_defs.specs.declared.state.BpHome.TheVariants.{Same, Saved}
use Rattle.state_defs.specs.declared.state.State.{State}
use Rattle.state_defs.specs.declared.state.State.TheVariants.{Live, Ended, Regs}
use Rattle.state_defs.specs.Move.{int_same}
use Rattle.state_defs.specs.Row.{unfit_offset}

-- whether registers and memory are followed: in a call frame, or in an interrupt's
abbrev pub is_followed : State → Bool
is_followed (Live depth fp bp) = true
is_followed (Ended kind) = false
is_followed (Regs full depth) = true

-- whether a hint with this state tells how code of no function is called: in a call frame, or where the stack has ended
abbrev pub may_be_called : State → Bool
may_be_called (Live depth fp bp) = true
may_be_called (Ended kind) = true
may_be_called (Regs full depth) = false

-- whether the stack is as at the function's entry
abbrev pub is_initial : State → Bool
is_initial (Live (Known n) None Same) = int_same n (pos 8)
is_initial (Live (Known n) None (Saved o)) = false
is_initial (Live (Known n) (Some m) bp) = false
is_initial (Live (AtLeast n) fp bp) = false
is_initial (Ended kind) = false
is_initial (Regs full depth) = false

-- at a return
abbrev pub return_rule : State → Option ℕ
return_rule (Live depth fp bp) = if is_initial (Live depth fp bp) then None else Some MODIFIED_RETURN
return_rule (Ended kind) = Some EXIT_NOT_ALLOWED
return_rule (Regs full depth) = Some EXIT_NOT_ALLOWED

-- at a jump to another function
abbrev pub sibling_rule : State → Option ℕ
sibling_rule (Live depth fp bp) = if is_initial (Live depth fp bp) then None else Some MODIFIED_SIBLING_CALL
sibling_rule (Ended kind) = Some EXIT_NOT_ALLOWED
sibling_rule (Regs full depth) = Some EXIT_NOT_ALLOWED

-- at a far branch or a system call
abbrev pub switch_rule : State → Option ℕ
switch_rule (Live depth fp bp) = Some EXIT_NOT_ALLOWED
switch_rule (Ended kind) = None
switch_rule (Regs full depth) = Some EXIT_NOT_ALLOWED

-- at a return from an interrupt: rsp has to be at the saved ip
abbrev pub iret_rule : State → Option ℕ
iret_rule (Live depth fp bp) = Some EXIT_NOT_ALLOWED
iret_rule (Ended kind) = None
iret_rule (Regs true depth) = Some EXIT_NOT_ALLOWED
iret_rule (Regs false depth) = if int_same depth (pos 0) then None else Some EXIT_NOT_ALLOWED

-- whether a live state has rbp saved right below the return address, and rbp points there
abbrev pub has_frame : Option ℤ → BpHome → Bool
has_frame None bp = false
has_frame (Some m) Same = false
has_frame (Some m) (Saved o) = int_same m (pos 16) && int_same o (pos 16)

-- at a call, where frame pointers are asked for
abbrev pub call_rule : State → Option ℕ
call_rule (Live depth fp bp) = if has_frame fp bp then None else Some CALL_WITHOUT_FRAME
call_rule (Ended kind) = None
call_rule (Regs full depth) = None

-- at any point
abbrev pub fit_rule : State → Option ℕ
fit_rule s = if is_some (unfit_offset s) then Some OFFSET_OUT_OF_RANGE else None

-- the number that a warning tells of a state
abbrev pub depth_number : State → ℤ
depth_number (Live (Known n) fp bp) = n
depth_number (Live (AtLeast n) fp bp) = neg_ℤ n
depth_number (Ended kind) = pos 0
depth_number (Regs full depth) = depth
