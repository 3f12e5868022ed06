-- No move is refused for variants that disagree.
use Rattle.std.proofs.Common.{◌≡◌, ◌≢◌, ℕ, Bool, true, false, not, ◌&&◌, ◌==◌, Option, Some, None, Result, Ok, Err, if◌then◌else◌, ℤ, pos, refl, subst}
use Rattle.std.specs.Prelude.{negsuc, ◌+ℤ◌, ◌-ℤ◌, int_le, int_lt}
use Rattle.operation_defs.specs.declared.op.Op.{Op}
use Rattle.operation_defs.specs.declared.op.Op.TheVariants.{Push, PushBp, Pop, PopBp, Popf, AddSp, AndSp, LeaSpBp, LeaBpSp, LeaBpRoom, SubSp, SpReg, StoreBp, LoadBp, Leave, SpOther, BpOther, Hop, IretNext}
use Rattle.state_defs.specs.declared.state.Depth.{Depth}
use Rattle.state_defs.specs.declared.state.Depth.TheVariants.{Known, AtLeast}
use Rattle.state_defs.specs.declared.state.BpHome.{BpHome}
use Rattle.state_defs.specs.declared.state.BpHome.TheVariants.{Same, Saved}
use Rattle.state_defs.specs.declared.state.State.{State}
use Rattle.state_defs.specs.declared.state.State.TheVariants.{Live, Ended, Regs}
use Rattle.state_defs.specs.declared.state.EndKind.TheVariants.{Undefined}
use Rattle.machine_defs.specs.Program.{Program}
use Rattle.machine_defs.specs.Kept.{loosened, loses_stack, moved_at}
use Rattle.state_defs.specs.State.{depth_of, with_depth}
use Rattle.state_defs.specs.Move.{move, to, floor_of, has_near_numbers, int_same, regs_floor, raise, pop_at, push_bp, pop_bp, align, rsp_from_bp, bp_from_rsp, make_room, base_over_room, store_bp, load_bp, leave, lose_bp, where_allowed, move_live, raise_regs, pop_bp_regs, lose_bp_regs, move_regs}

-- it is done, or refused for another rule
abbrev other : Result State ℕ → Bool
other (Ok s) = true
other (Err rule) = not (rule == 12)

either : (b : Bool) (x y : Result State ℕ) → other x ≡ true → other y ≡ true → other (if b then x else y) ≡ true
either true x y h k = h
either false x y h k = k

to_other : (s : State) → other (to s) ≡ true
to_other s = either (has_near_numbers s) (Ok s) (Err 10) refl refl

refused_or : (b : Bool) (rule : ℕ) (s : State) → not (rule == 12) ≡ true → other (if b then Err rule else to s) ≡ true
refused_or b rule s h = either b (Err rule) (to s) h (to_other s)

one_of : (b : Bool) (s t : State) → other (if b then to s else to t) ≡ true
one_of b s t = either b (to s) (to t) (to_other s) (to_other t)

raise_other : (k : ℤ) (depth : Depth) (fp : Option ℤ) (home : BpHome) → other (raise k depth fp home) ≡ true
raise_other k depth fp Same = refused_or (int_lt (depth_of depth -ℤ k) (pos 8)) 9 (Live (with_depth depth (depth_of depth -ℤ k)) fp Same) refl
raise_other k (AtLeast n) fp (Saved o) = refused_or (int_lt (n -ℤ k) o) 9 (Live (AtLeast (n -ℤ k)) fp (Saved o)) refl
raise_other k (Known n) fp (Saved o) = refused_or (int_lt (n -ℤ k) o) 11 (Live (Known (n -ℤ k)) fp (Saved o)) refl

pop_at_other : (n o : ℤ) → other (pop_at n o) ≡ true
pop_at_other n o =
    let deep : State = Live (Known (n -ℤ pos 8)) None (Saved o) in
    let flat : State = Live (Known (n -ℤ pos 8)) None Same in
    either (int_same n o) (to flat) (if int_le o (n -ℤ pos 8) then to deep else Err 11) (to_other flat) (either (int_le o (n -ℤ pos 8)) (to deep) (Err 11) (to_other deep) refl)

push_bp_other : (depth : Depth) (fp : Option ℤ) (home : BpHome) → other (push_bp depth fp home) ≡ true
push_bp_other depth fp Same = to_other (Live (with_depth depth (depth_of depth +ℤ pos 8)) fp (Saved (depth_of depth +ℤ pos 8)))
push_bp_other depth fp (Saved o) = to_other (Live (with_depth depth (depth_of depth +ℤ pos 8)) fp (Saved o))

pop_bp_other : (depth : Depth) (home : BpHome) → other (pop_bp depth home) ≡ true
pop_bp_other depth Same = refl
pop_bp_other (AtLeast n) (Saved o) = refl
pop_bp_other (Known n) (Saved o) = pop_at_other n o

align_other : (depth : Depth) (fp : Option ℤ) (home : BpHome) → other (align depth fp home) ≡ true
align_other depth None home = refl
align_other depth (Some m) home = to_other (Live (AtLeast (depth_of depth)) (Some m) home)

rsp_from_bp_other : (k : ℤ) (fp : Option ℤ) (home : BpHome) → other (rsp_from_bp k fp home) ≡ true
rsp_from_bp_other k None home = refl
rsp_from_bp_other k (Some m) home = refused_or (int_lt (m -ℤ k) (floor_of home)) 11 (Live (Known (m -ℤ k)) (Some m) home) refl

bp_from_rsp_other : (k : ℤ) (depth : Depth) (home : BpHome) → other (bp_from_rsp k depth home) ≡ true
bp_from_rsp_other k depth Same = refl
bp_from_rsp_other k (AtLeast n) (Saved o) = refl
bp_from_rsp_other k (Known n) (Saved o) = one_of (int_same (n -ℤ k) o) (Live (Known n) (Some o) (Saved o)) (Live (Known n) None (Saved o))

make_room_other : (depth : Depth) (fp : Option ℤ) (home : BpHome) → other (make_room depth fp home) ≡ true
make_room_other depth None home = refl
make_room_other depth (Some m) home = to_other (Live (AtLeast (depth_of depth)) (Some m) home)

base_over_room_other : (k : ℤ) (depth : Depth) (home : BpHome) → other (base_over_room k depth home) ≡ true
base_over_room_other k depth Same = bp_from_rsp_other k depth Same
base_over_room_other k (AtLeast n) (Saved o) = bp_from_rsp_other k (AtLeast n) (Saved o)
base_over_room_other k (Known n) (Saved o) = either (int_same (n -ℤ k) o) (to (Live (AtLeast n) (Some o) (Saved o))) (bp_from_rsp k (Known n) (Saved o)) (to_other (Live (AtLeast n) (Some o) (Saved o))) (bp_from_rsp_other k (Known n) (Saved o))

store_bp_other : (k : ℤ) (depth : Depth) (fp : Option ℤ) (home : BpHome) → other (store_bp k depth fp home) ≡ true
store_bp_other k depth fp Same = one_of (int_le (pos 16) (depth_of depth -ℤ k) && int_le (depth_of depth -ℤ k) (depth_of depth)) (Live depth fp (Saved (depth_of depth -ℤ k))) (Live depth fp Same)
store_bp_other k depth fp (Saved o) = to_other (Live depth fp (Saved o))

load_bp_other : (k : ℤ) (depth : Depth) (home : BpHome) → other (load_bp k depth home) ≡ true
load_bp_other k depth Same = refl
load_bp_other k (AtLeast n) (Saved o) = refl
load_bp_other k (Known n) (Saved o) = one_of (int_same (n -ℤ k) o) (Live (Known n) None Same) (Live (Known n) None (Saved o))

leave_other : (fp : Option ℤ) (home : BpHome) → other (leave fp home) ≡ true
leave_other None home = refl
leave_other (Some m) Same = refl
leave_other (Some m) (Saved o) = pop_at_other m o

lose_bp_other : (depth : Depth) (home : BpHome) → other (lose_bp depth home) ≡ true
lose_bp_other depth Same = refl
lose_bp_other (AtLeast n) (Saved o) = refl
lose_bp_other (Known n) (Saved o) = to_other (Live (Known n) None (Saved o))

allowed_other : (r : Result State ℕ) → other (where_allowed r) ≡ true
allowed_other (Ok s) = refl
allowed_other (Err rule) = refl

live_other : (depth : Depth) (fp : Option ℤ) (home : BpHome) (op : Op) → other (move_live depth fp home op) ≡ true
live_other depth fp home Push = to_other (Live (with_depth depth (depth_of depth +ℤ pos 8)) fp home)
live_other depth fp home PushBp = push_bp_other depth fp home
live_other depth fp home Pop = raise_other (pos 8) depth fp home
live_other depth fp home Popf = raise_other (pos 8) depth fp home
live_other depth fp home (AddSp by) = raise_other by depth fp home
live_other depth fp home PopBp = pop_bp_other depth home
live_other depth fp home (AndSp mask) = align_other depth fp home
live_other depth fp home (LeaSpBp by) = rsp_from_bp_other by fp home
live_other depth fp home (LeaBpSp by) = bp_from_rsp_other by depth home
live_other depth fp home (LeaBpRoom by) = base_over_room_other by depth home
live_other depth fp home SubSp = make_room_other depth fp home
live_other depth fp home SpReg = make_room_other depth fp home
live_other depth fp home Hop = to_other (Live (with_depth depth (depth_of depth +ℤ pos 8)) fp home)
live_other depth fp home (StoreBp at) = store_bp_other at depth fp home
live_other depth fp home (LoadBp at) = load_bp_other at depth home
live_other depth fp home Leave = leave_other fp home
live_other depth fp home BpOther = lose_bp_other depth home
live_other depth fp home SpOther = refl
live_other depth fp home IretNext = allowed_other (raise (pos 40) depth fp home)
live_other depth fp home _ = to_other (Live depth fp home)

raise_regs_other : (k : ℤ) (full : Bool) (depth : ℤ) → other (raise_regs k full depth) ≡ true
raise_regs_other k full depth = refused_or (int_lt (depth -ℤ k) (regs_floor full)) 11 (Regs full (depth -ℤ k)) refl

pop_bp_regs_other : (full : Bool) (depth : ℤ) → other (pop_bp_regs full depth) ≡ true
pop_bp_regs_other false depth = refl
pop_bp_regs_other true depth = either (int_same depth (negsuc 31)) (to (Regs false (pos 88))) (raise_regs (pos 8) true depth) (to_other (Regs false (pos 88))) (raise_regs_other (pos 8) true depth)

lose_bp_regs_other : (full : Bool) (depth : ℤ) → other (lose_bp_regs full depth) ≡ true
lose_bp_regs_other false depth = refl
lose_bp_regs_other true depth = to_other (Regs true depth)

regs_other : (full : Bool) (depth : ℤ) (op : Op) → other (move_regs full depth op) ≡ true
regs_other full depth Push = to_other (Regs full (depth +ℤ pos 8))
regs_other full depth PushBp = to_other (Regs full (depth +ℤ pos 8))
regs_other full depth Pop = raise_regs_other (pos 8) full depth
regs_other full depth Popf = raise_regs_other (pos 8) full depth
regs_other full depth (AddSp by) = raise_regs_other by full depth
regs_other full depth PopBp = pop_bp_regs_other full depth
regs_other full depth (LeaBpSp by) = lose_bp_regs_other full depth
regs_other full depth (LeaBpRoom by) = lose_bp_regs_other full depth
regs_other full depth SubSp = refl
regs_other full depth SpReg = refl
regs_other full depth Hop = to_other (Regs full (depth +ℤ pos 8))
regs_other full depth (LoadBp at) = lose_bp_regs_other full depth
regs_other full depth BpOther = lose_bp_regs_other full depth
regs_other full depth (AndSp mask) = refl
regs_other full depth (LeaSpBp by) = refl
regs_other full depth Leave = refl
regs_other full depth SpOther = refl
regs_other full depth IretNext = refl
regs_other full depth _ = to_other (Regs full depth)

move_other : (s : State) (op : Op) → other (move s op) ≡ true
move_other (Live depth fp home) op = live_other depth fp home op
move_other (Ended kind) op = refl
move_other (Regs full depth) op = regs_other full depth op

isnt_twelve : (rule : ℕ) → not (rule == 12) ≡ true → rule ≢ 12
isnt_twelve rule h e = let k : not (12 == 12) ≡ true = subst (λ (n : ℕ). not (n == 12) ≡ true) e h in let z : ⊥ = cc in z

refused_by : (r : Result State ℕ) (rule : ℕ) (b : Bool) → (if b then Ok (Ended Undefined) else r) ≡ Err rule → r ≡ Err rule
refused_by r rule true e = absurd (let z : ⊥ = cc in z)
refused_by r rule false e = e

refused_at : (loose : Bool) (r : Result State ℕ) (rule : ℕ) → loosened loose r ≡ Err rule → r ≡ Err rule
refused_at false r rule e = e
refused_at true (Ok s) rule e = e
refused_at true (Err n) rule e = refused_by (Err n) rule (loses_stack n) e

pub refused_otherwise : (p : Program) (q : ℕ) (s : State) (rule : ℕ) → moved_at p q s ≡ Err rule → rule ≢ 12
refused_otherwise p q s rule e = isnt_twelve rule (subst (λ (r : Result State ℕ). other r ≡ true) (refused_at (p.loose q) (move s (p.insn q).op) rule e) (move_other s (p.insn q).op))
