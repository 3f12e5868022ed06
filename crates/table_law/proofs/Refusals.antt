-- The rules by which a move is refused.
use Rattle.std.proofs.Common.{◌≡◌, ℕ, ◌≤◌, Bool, true, false, if◌then◌else◌, Option, Some, None, ℤ, pos, ◌-ℤ◌, negsuc, subst, lit≤}
use Rattle.std.specs.Prelude.{Result, Ok, Err, int_lt, int_le, ◌&&◌}
use Rattle.operation_defs.specs.declared.op.Op.{Op}
use Rattle.operation_defs.specs.declared.op.Op.TheVariants.{PushBp, Pop, PopBp, Popf, AddSp, AndSp, LeaSpBp, LeaBpSp, LeaBpRoom, SubSp, SpReg, StoreBp, LoadBp, Leave, SpOther, BpOther, IretNext}
use Rattle.machine_defs.specs.Program.{Program}
use Rattle.machine_defs.specs.Kept.{loses_stack, loosened, moved_at}
use Rattle.state_defs.specs.declared.state.EndKind.TheVariants.{Undefined}
use Rattle.state_defs.specs.declared.state.Depth.{Depth}
use Rattle.state_defs.specs.declared.state.Depth.TheVariants.{Known, AtLeast}
use Rattle.state_defs.specs.declared.state.BpHome.{BpHome}
use Rattle.state_defs.specs.declared.state.BpHome.TheVariants.{Same, Saved}
use Rattle.state_defs.specs.declared.state.State.{State}
use Rattle.state_defs.specs.declared.state.State.TheVariants.{Live, Ended, Regs}
use Rattle.state_defs.specs.State.{depth_of}
use Rattle.state_defs.specs.Move.{int_same, has_near_numbers, to, floor_of, raise, pop_at, push_bp, pop_bp, align, rsp_from_bp, bp_from_rsp, make_room, base_over_room, store_bp, load_bp, leave, lose_bp, where_allowed, move_live, regs_floor, raise_regs, pop_bp_regs, lose_bp_regs, move_regs, move}

-- a state, or a refusal by a rule from 7 on
data IsMoved : Result State ℕ → Type 0 where
  moved : (s : State) → IsMoved (Ok s)
  refused : (rule : ℕ) → 7 ≤ rule → IsMoved (Err rule)

no : (rule : ℕ) → 7 ≤ rule → IsMoved (Err rule)
no rule h = refused rule h

either : (test : Bool) (one other : Result State ℕ) → IsMoved one → IsMoved other → IsMoved (if test then one else other)
either true one other f g = f
either false one other f g = g

near : (test : Bool) (s : State) → IsMoved (if test then Ok s else Err 10)
near test s = either test (Ok s) (Err 10) (moved s) (refused 10 (lit≤ tt))

raise_moved : (k : ℤ) (depth : Depth) (fp : Option ℤ) (bp : BpHome) → IsMoved (raise k depth fp bp)
raise_moved k depth fp Same = either (int_lt (depth_of depth -ℤ k) (pos 8)) _ _ (no _ (lit≤ tt)) (near _ _)
raise_moved k (AtLeast n) fp (Saved o) = either (int_lt (n -ℤ k) o) _ _ (no _ (lit≤ tt)) (near _ _)
raise_moved k (Known n) fp (Saved o) = either (int_lt (n -ℤ k) o) _ _ (no _ (lit≤ tt)) (near _ _)

pop_at_moved : (n o : ℤ) → IsMoved (pop_at n o)
pop_at_moved n o = either (int_same n o) _ _ (near _ _) (either (int_le o (n -ℤ pos 8)) _ _ (near _ _) (no _ (lit≤ tt)))

push_bp_moved : (depth : Depth) (fp : Option ℤ) (bp : BpHome) → IsMoved (push_bp depth fp bp)
push_bp_moved depth fp Same = near _ _
push_bp_moved depth fp (Saved o) = near _ _

pop_bp_moved : (depth : Depth) (bp : BpHome) → IsMoved (pop_bp depth bp)
pop_bp_moved depth Same = no _ (lit≤ tt)
pop_bp_moved (AtLeast n) (Saved o) = no _ (lit≤ tt)
pop_bp_moved (Known n) (Saved o) = pop_at_moved n o

align_moved : (depth : Depth) (fp : Option ℤ) (bp : BpHome) → IsMoved (align depth fp bp)
align_moved depth None bp = no _ (lit≤ tt)
align_moved depth (Some m) bp = near _ _

rsp_from_bp_moved : (k : ℤ) (fp : Option ℤ) (bp : BpHome) → IsMoved (rsp_from_bp k fp bp)
rsp_from_bp_moved k None bp = no _ (lit≤ tt)
rsp_from_bp_moved k (Some m) bp = either (int_lt (m -ℤ k) (floor_of bp)) _ _ (no _ (lit≤ tt)) (near _ _)

bp_from_rsp_moved : (k : ℤ) (depth : Depth) (bp : BpHome) → IsMoved (bp_from_rsp k depth bp)
bp_from_rsp_moved k depth Same = no _ (lit≤ tt)
bp_from_rsp_moved k (AtLeast n) (Saved o) = no _ (lit≤ tt)
bp_from_rsp_moved k (Known n) (Saved o) = either (int_same (n -ℤ k) o) _ _ (near _ _) (near _ _)

make_room_moved : (depth : Depth) (fp : Option ℤ) (bp : BpHome) → IsMoved (make_room depth fp bp)
make_room_moved depth None bp = no _ (lit≤ tt)
make_room_moved depth (Some m) bp = near _ _

base_over_room_moved : (k : ℤ) (depth : Depth) (bp : BpHome) → IsMoved (base_over_room k depth bp)
base_over_room_moved k depth Same = bp_from_rsp_moved k depth Same
base_over_room_moved k (AtLeast n) (Saved o) = bp_from_rsp_moved k (AtLeast n) (Saved o)
base_over_room_moved k (Known n) (Saved o) = either (int_same (n -ℤ k) o) _ _ (near _ _) (bp_from_rsp_moved k (Known n) (Saved o))

store_bp_moved : (k : ℤ) (depth : Depth) (fp : Option ℤ) (bp : BpHome) → IsMoved (store_bp k depth fp bp)
store_bp_moved k depth fp Same = either (int_le (pos 16) (depth_of depth -ℤ k) && int_le (depth_of depth -ℤ k) (depth_of depth)) _ _ (near _ _) (near _ _)
store_bp_moved k depth fp (Saved o) = near _ _

load_bp_moved : (k : ℤ) (depth : Depth) (bp : BpHome) → IsMoved (load_bp k depth bp)
load_bp_moved k depth Same = no _ (lit≤ tt)
load_bp_moved k (AtLeast n) (Saved o) = no _ (lit≤ tt)
load_bp_moved k (Known n) (Saved o) = either (int_same (n -ℤ k) o) _ _ (near _ _) (near _ _)

leave_moved : (fp : Option ℤ) (bp : BpHome) → IsMoved (leave fp bp)
leave_moved None bp = no _ (lit≤ tt)
leave_moved (Some m) Same = no _ (lit≤ tt)
leave_moved (Some m) (Saved o) = pop_at_moved m o

lose_bp_moved : (depth : Depth) (bp : BpHome) → IsMoved (lose_bp depth bp)
lose_bp_moved depth Same = no _ (lit≤ tt)
lose_bp_moved (AtLeast n) (Saved o) = no _ (lit≤ tt)
lose_bp_moved (Known n) (Saved o) = near _ _

allowed_moved : (r : Result State ℕ) → IsMoved r → IsMoved (where_allowed r)
allowed_moved (Ok s) h = moved s
allowed_moved (Err rule) h = no _ (lit≤ tt)

live_moved : (depth : Depth) (fp : Option ℤ) (bp : BpHome) (op : Op) → IsMoved (move_live depth fp bp op)
live_moved depth fp bp PushBp = push_bp_moved depth fp bp
live_moved depth fp bp Pop = raise_moved (pos 8) depth fp bp
live_moved depth fp bp Popf = raise_moved (pos 8) depth fp bp
live_moved depth fp bp (AddSp by) = raise_moved by depth fp bp
live_moved depth fp bp PopBp = pop_bp_moved depth bp
live_moved depth fp bp (AndSp mask) = align_moved depth fp bp
live_moved depth fp bp (LeaSpBp by) = rsp_from_bp_moved by fp bp
live_moved depth fp bp (LeaBpSp by) = bp_from_rsp_moved by depth bp
live_moved depth fp bp (LeaBpRoom by) = base_over_room_moved by depth bp
live_moved depth fp bp SubSp = make_room_moved depth fp bp
live_moved depth fp bp SpReg = make_room_moved depth fp bp
live_moved depth fp bp (StoreBp at) = store_bp_moved at depth fp bp
live_moved depth fp bp (LoadBp at) = load_bp_moved at depth bp
live_moved depth fp bp Leave = leave_moved fp bp
live_moved depth fp bp BpOther = lose_bp_moved depth bp
live_moved depth fp bp SpOther = no _ (lit≤ tt)
live_moved depth fp bp IretNext = allowed_moved (raise (pos 40) depth fp bp) (raise_moved (pos 40) depth fp bp)
live_moved depth fp bp _ = near _ _

raise_regs_moved : (k : ℤ) (full : Bool) (depth : ℤ) → IsMoved (raise_regs k full depth)
raise_regs_moved k full depth = either (int_lt (depth -ℤ k) (regs_floor full)) _ _ (no _ (lit≤ tt)) (near _ _)

pop_bp_regs_moved : (full : Bool) (depth : ℤ) → IsMoved (pop_bp_regs full depth)
pop_bp_regs_moved false depth = no _ (lit≤ tt)
pop_bp_regs_moved true depth = either (int_same depth (negsuc 31)) (to (Regs false (pos 88))) (raise_regs (pos 8) true depth) (near (has_near_numbers (Regs false (pos 88))) (Regs false (pos 88))) (raise_regs_moved (pos 8) true depth)

lose_bp_regs_moved : (full : Bool) (depth : ℤ) → IsMoved (lose_bp_regs full depth)
lose_bp_regs_moved false depth = no _ (lit≤ tt)
lose_bp_regs_moved true depth = near _ _

regs_moved : (full : Bool) (depth : ℤ) (op : Op) → IsMoved (move_regs full depth op)
regs_moved full depth Pop = raise_regs_moved (pos 8) full depth
regs_moved full depth Popf = raise_regs_moved (pos 8) full depth
regs_moved full depth (AddSp by) = raise_regs_moved by full depth
regs_moved full depth PopBp = pop_bp_regs_moved full depth
regs_moved full depth (LeaBpSp by) = lose_bp_regs_moved full depth
regs_moved full depth (LeaBpRoom by) = lose_bp_regs_moved full depth
regs_moved full depth (LoadBp at) = lose_bp_regs_moved full depth
regs_moved full depth BpOther = lose_bp_regs_moved full depth
regs_moved full depth (AndSp mask) = no _ (lit≤ tt)
regs_moved full depth (LeaSpBp by) = no _ (lit≤ tt)
regs_moved full depth Leave = no _ (lit≤ tt)
regs_moved full depth SpOther = no _ (lit≤ tt)
regs_moved full depth SubSp = no _ (lit≤ tt)
regs_moved full depth SpReg = no _ (lit≤ tt)
regs_moved full depth IretNext = no _ (lit≤ tt)
regs_moved full depth _ = near _ _

moved_or_refused : (s : State) (op : Op) → IsMoved (move s op)
moved_or_refused (Live depth fp bp) op = live_moved depth fp bp op
moved_or_refused (Ended kind) op = moved (Ended kind)
moved_or_refused (Regs full depth) op = regs_moved full depth op

-- a move is refused by a rule from 7 on
refusal : (s : State) (op : Op) (rule : ℕ) → move s op ≡ Err rule → 7 ≤ rule
refusal s op rule e = go (move s op) e (moved_or_refused s op)
  where
    go : (r : Result State ℕ) → r ≡ Err rule → IsMoved r → 7 ≤ rule
    go r e (moved s) = absurd (let k : ⊥ = cc in k)
    go r e (refused other h) = let k : other ≡ rule = cc in subst (λ (x : ℕ). 7 ≤ x) k h

-- in loose code, too
firmly : (loose : Bool) (r : Result State ℕ) (rule : ℕ) → loosened loose r ≡ Err rule → r ≡ Err rule
firmly false r rule e = e
firmly true (Ok s) rule e = e
firmly true (Err other) rule e = go (loses_stack other) e
  where
    go : (b : Bool) → if◌then◌else◌ {A = Result State ℕ} b (Ok (Ended Undefined)) (Err other) ≡ Err rule → ◌≡◌ {A = Result State ℕ} (Err other) (Err rule)
    go true e = absurd (let k : ⊥ = cc in k)
    go false e = e

pub refusal_at : (p : Program) (q : ℕ) (s : State) (rule : ℕ) → moved_at p q s ≡ Err rule → 7 ≤ rule
refusal_at p q s rule e = refusal s (p.insn q).op rule (firmly (p.loose q) (move s (p.insn q).op) rule e)
