-- How an operation moves a state, or which rule it breaks.
use Rattle.std.specs.Prelude.{ℕ, ◌^◌, Bool, true, false, ◌&&◌, Option, Some, None, Result, Ok, Err, if◌then◌else◌, ℤ, pos, negsuc, ◌+ℤ◌, ◌-ℤ◌, int_lt, int_le}
use Rattle.ot_base.specs.declared.rules.TheConstants.{UNSUPPORTED_SP_WRITE, BP_NOT_SAVED, STACK_POINTER_LOST, OFFSET_OUT_OF_RANGE, SAVED_SLOT_DROPPED, EXIT_NOT_ALLOWED}
use Rattle.operation_defs.specs.declared.op.Op.{Op}
use Rattle.operation_defs.specs.declared.op.Op.TheVariants.{Push, PushBp, Pop, PopBp, Popf, AddSp, AndSp, LeaSpBp, LeaBpSp, LeaBpRoom, SubSp, SpReg, StoreBp, LoadBp, Leave, SpOther, BpOther, Hop, IretNext}
use Rattle.state_defs.specs.declared.state.Depth.{Depth}
use Rattle.state_defs.specs.declared.state.Depth.TheVariants.{Known, AtLeast}
use Rattle.state_defs.specs.declared.state.BpHome.{BpHome}
use Rattle.state_defs.specs.declared.state.BpHome.TheVariants.{Same, Saved}
use Rattle.state_defs.specs.declared.state.State.{State}
use Rattle.state_defs.specs.declared.state.State.TheVariants.{Live, Ended, Regs}
use Rattle.state_defs.specs.State.{depth_of, with_depth}

-- whether two numbers are equal
abbrev pub int_same : ℤ → ℤ → Bool
int_same x y = int_le x y && int_le y x

-- whether a number is within a gigabyte of 0
abbrev pub is_near : ℤ → Bool
is_near n = int_le n (pos (2 ^ 30)) && int_le (pos 0) (n +ℤ pos (2 ^ 30))

abbrev pub is_fp_near : Option ℤ → Bool
is_fp_near None = true
is_fp_near (Some m) = is_near m

abbrev pub is_home_near : BpHome → Bool
is_home_near Same = true
is_home_near (Saved o) = is_near o

-- whether each number of a state is
abbrev pub has_near_numbers : State → Bool
has_near_numbers (Live depth fp bp) = is_near (depth_of depth) && (is_fp_near fp && is_home_near bp)
has_near_numbers (Ended kind) = true
has_near_numbers (Regs full depth) = is_near depth

-- a state that a move ends in, refused where one of its numbers is too large
abbrev pub to : State → Result State ℕ
to s = if has_near_numbers s then Ok s else Err OFFSET_OUT_OF_RANGE

-- the lowest depth that leaves everything that is still needed at or above rsp: the slot where rbp is
-- saved, else the return address
abbrev pub floor_of : BpHome → ℤ
floor_of Same = pos 8
floor_of (Saved o) = o

-- rsp rises by k (falls, where k is negative), within what the depth tells
abbrev pub raise : ℤ → Depth → Option ℤ → BpHome → Result State ℕ
raise k depth fp Same =
    if int_lt (depth_of depth -ℤ k) (pos 8) then Err STACK_POINTER_LOST else to (Live (with_depth depth (depth_of depth -ℤ k)) fp Same)
raise k (AtLeast n) fp (Saved o) =
    if int_lt (n -ℤ k) o then Err STACK_POINTER_LOST else to (Live (AtLeast (n -ℤ k)) fp (Saved o))
raise k (Known n) fp (Saved o) =
    if int_lt (n -ℤ k) o then Err SAVED_SLOT_DROPPED else to (Live (Known (n -ℤ k)) fp (Saved o))

-- rbp is popped from n bytes below the frame's top, where its slot is o bytes below it: the caller's
-- rbp comes back where that is the slot, and is still saved where rsp stays at or below it
abbrev pub pop_at : ℤ → ℤ → Result State ℕ
pop_at n o =
    if int_same n o then to (Live (Known (n -ℤ pos 8)) None Same)
    else (if int_le o (n -ℤ pos 8) then to (Live (Known (n -ℤ pos 8)) None (Saved o)) else Err SAVED_SLOT_DROPPED)

-- the moves of a live state, one for each kind of operation
abbrev pub push_bp : Depth → Option ℤ → BpHome → Result State ℕ
push_bp depth fp Same = to (Live (with_depth depth (depth_of depth +ℤ pos 8)) fp (Saved (depth_of depth +ℤ pos 8)))
push_bp depth fp (Saved o) = to (Live (with_depth depth (depth_of depth +ℤ pos 8)) fp (Saved o))

abbrev pub pop_bp : Depth → BpHome → Result State ℕ
pop_bp depth Same = Err BP_NOT_SAVED
pop_bp (AtLeast n) (Saved o) = Err STACK_POINTER_LOST
pop_bp (Known n) (Saved o) = pop_at n o

abbrev pub align : Depth → Option ℤ → BpHome → Result State ℕ
align depth None bp = Err STACK_POINTER_LOST
align depth (Some m) bp = to (Live (AtLeast (depth_of depth)) (Some m) bp)

abbrev pub rsp_from_bp : ℤ → Option ℤ → BpHome → Result State ℕ
rsp_from_bp k None bp = Err STACK_POINTER_LOST
rsp_from_bp k (Some m) bp = if int_lt (m -ℤ k) (floor_of bp) then Err SAVED_SLOT_DROPPED else to (Live (Known (m -ℤ k)) (Some m) bp)

-- rbp becomes the frame's base where it points at the word in which the caller's is saved
abbrev pub bp_from_rsp : ℤ → Depth → BpHome → Result State ℕ
bp_from_rsp k depth Same = Err BP_NOT_SAVED
bp_from_rsp k (AtLeast n) (Saved o) = Err STACK_POINTER_LOST
bp_from_rsp k (Known n) (Saved o) = if int_same (n -ℤ k) o then to (Live (Known n) (Some o) (Saved o)) else to (Live (Known n) None (Saved o))

-- rsp is lowered by a number that isn't known: the frame is found from its base alone
abbrev pub make_room : Depth → Option ℤ → BpHome → Result State ℕ
make_room depth None bp = Err UNSUPPORTED_SP_WRITE
make_room depth (Some m) bp = to (Live (AtLeast (depth_of depth)) (Some m) bp)

-- rbp becomes the frame's base over room: the depth is told as it is where room was made
abbrev pub base_over_room : ℤ → Depth → BpHome → Result State ℕ
base_over_room k depth Same = bp_from_rsp k depth Same
base_over_room k (AtLeast n) (Saved o) = bp_from_rsp k (AtLeast n) (Saved o)
base_over_room k (Known n) (Saved o) = if int_same (n -ℤ k) o then to (Live (AtLeast n) (Some o) (Saved o)) else bp_from_rsp k (Known n) (Saved o)

abbrev pub store_bp : ℤ → Depth → Option ℤ → BpHome → Result State ℕ
store_bp k depth fp Same =
    if int_le (pos 16) (depth_of depth -ℤ k) && int_le (depth_of depth -ℤ k) (depth_of depth)
    then to (Live depth fp (Saved (depth_of depth -ℤ k))) else to (Live depth fp Same)
store_bp k depth fp (Saved o) = to (Live depth fp (Saved o))

abbrev pub load_bp : ℤ → Depth → BpHome → Result State ℕ
load_bp k depth Same = Err BP_NOT_SAVED
load_bp k (AtLeast n) (Saved o) = Err STACK_POINTER_LOST
load_bp k (Known n) (Saved o) = if int_same (n -ℤ k) o then to (Live (Known n) None Same) else to (Live (Known n) None (Saved o))

abbrev pub leave : Option ℤ → BpHome → Result State ℕ
leave None bp = Err STACK_POINTER_LOST
leave (Some m) Same = Err SAVED_SLOT_DROPPED
leave (Some m) (Saved o) = pop_at m o

abbrev pub lose_bp : Depth → BpHome → Result State ℕ
lose_bp depth Same = Err BP_NOT_SAVED
lose_bp (AtLeast n) (Saved o) = Err STACK_POINTER_LOST
lose_bp (Known n) (Saved o) = to (Live (Known n) None (Saved o))

-- a return from an interrupt is allowed where the move that it makes is
abbrev pub where_allowed : Result State ℕ → Result State ℕ
where_allowed (Ok s) = Ok s
where_allowed (Err rule) = Err EXIT_NOT_ALLOWED

abbrev pub move_live : Depth → Option ℤ → BpHome → Op → Result State ℕ
move_live depth fp bp Push = to (Live (with_depth depth (depth_of depth +ℤ pos 8)) fp bp)
move_live depth fp bp Hop = to (Live (with_depth depth (depth_of depth +ℤ pos 8)) fp bp)
move_live depth fp bp PushBp = push_bp depth fp bp
move_live depth fp bp Pop = raise (pos 8) depth fp bp
move_live depth fp bp Popf = raise (pos 8) depth fp bp
move_live depth fp bp (AddSp by) = raise by depth fp bp
move_live depth fp bp PopBp = pop_bp depth bp
move_live depth fp bp (AndSp mask) = align depth fp bp
move_live depth fp bp (LeaSpBp by) = rsp_from_bp by fp bp
move_live depth fp bp (LeaBpSp by) = bp_from_rsp by depth bp
move_live depth fp bp (LeaBpRoom by) = base_over_room by depth bp
move_live depth fp bp SubSp = make_room depth fp bp
move_live depth fp bp SpReg = make_room depth fp bp
move_live depth fp bp (StoreBp at) = store_bp at depth fp bp
move_live depth fp bp (LoadBp at) = load_bp at depth bp
move_live depth fp bp Leave = leave fp bp
move_live depth fp bp BpOther = lose_bp depth bp
move_live depth fp bp SpOther = Err UNSUPPORTED_SP_WRITE
move_live depth fp bp IretNext = where_allowed (raise (pos 40) depth fp bp)
move_live depth fp bp _ = to (Live depth fp bp)

-- the lowest depth over saved registers: a full pt_regs may be popped up to its bp, at 32
abbrev pub regs_floor : Bool → ℤ
regs_floor true = negsuc 31
regs_floor false = pos 0

abbrev pub raise_regs : ℤ → Bool → ℤ → Result State ℕ
raise_regs k full depth = if int_lt (depth -ℤ k) (regs_floor full) then Err SAVED_SLOT_DROPPED else to (Regs full (depth -ℤ k))

-- where bp itself is popped from a full pt_regs, ip is 88 bytes above
abbrev pub pop_bp_regs : Bool → ℤ → Result State ℕ
pop_bp_regs false depth = Err BP_NOT_SAVED
pop_bp_regs true depth = if int_same depth (negsuc 31) then to (Regs false (pos 88)) else raise_regs (pos 8) true depth

-- rbp is written: it is still in a full pt_regs, and in no partial one
abbrev pub lose_bp_regs : Bool → ℤ → Result State ℕ
lose_bp_regs false depth = Err BP_NOT_SAVED
lose_bp_regs true depth = to (Regs true depth)

abbrev pub move_regs : Bool → ℤ → Op → Result State ℕ
move_regs full depth Push = to (Regs full (depth +ℤ pos 8))
move_regs full depth Hop = to (Regs full (depth +ℤ pos 8))
move_regs full depth PushBp = to (Regs full (depth +ℤ pos 8))
move_regs full depth Pop = raise_regs (pos 8) full depth
move_regs full depth Popf = raise_regs (pos 8) full depth
move_regs full depth (AddSp by) = raise_regs by full depth
move_regs full depth PopBp = pop_bp_regs full depth
move_regs full depth (LeaBpSp by) = lose_bp_regs full depth
move_regs full depth (LeaBpRoom by) = lose_bp_regs full depth
move_regs full depth (LoadBp at) = lose_bp_regs full depth
move_regs full depth BpOther = lose_bp_regs full depth
move_regs full depth (AndSp mask) = Err STACK_POINTER_LOST
move_regs full depth (LeaSpBp by) = Err STACK_POINTER_LOST
move_regs full depth Leave = Err STACK_POINTER_LOST
move_regs full depth SpOther = Err UNSUPPORTED_SP_WRITE
move_regs full depth SubSp = Err UNSUPPORTED_SP_WRITE
move_regs full depth SpReg = Err UNSUPPORTED_SP_WRITE
move_regs full depth IretNext = Err EXIT_NOT_ALLOWED
move_regs full depth _ = to (Regs full depth)

-- the state after an operation, or the rule that the operation breaks; an ended stack stays so
abbrev pub move : State → Op → Result State ℕ
move (Live depth fp bp) op = move_live depth fp bp op
move (Ended kind) op = Ok (Ended kind)
move (Regs full depth) op = move_regs full depth op
