-- A move keeps states consistent.
use Rattle.std.proofs.Common.{◌≡◌, Bool, true, false, ◌&&◌, ℤ, pos, negsuc, ◌+ℤ◌, ◌-ℤ◌, ◌≤ℤ◌, arith, refl, sym, ap, subst}
use Rattle.std.specs.Prelude.{Option, Some, None, Ok, IsSome, int_le, int_lt}
use Rattle.std.proofs.lemmas.Int.{ints}
use Rattle.std.proofs.lemmas.Bool.{and_parts}
use Rattle.operation_defs.specs.declared.op.Op.{Op}
use Rattle.operation_defs.specs.declared.op.Op.TheVariants.{Push, PushBp, Pop, PopBp, Popf, AddSp, AndSp, LeaSpBp, LeaBpSp, LeaBpRoom, SubSp, SpReg, StoreBp, LoadBp, Leave, SpOther, BpOther, Hop, IretNext}
use Rattle.state_defs.specs.declared.state.Depth.{Depth}
use Rattle.state_defs.specs.declared.state.Depth.TheVariants.{Known, AtLeast}
use Rattle.state_defs.specs.declared.state.BpHome.{BpHome}
use Rattle.state_defs.specs.declared.state.BpHome.TheVariants.{Same, Saved}
use Rattle.state_defs.specs.declared.state.State.{State}
use Rattle.state_defs.specs.declared.state.State.TheVariants.{Live, Ended, Regs}
use Rattle.state_defs.specs.State.{depth_of, with_depth, ended_by, IsConsistent, IsConsistentLive}
use Rattle.state_defs.specs.Move.{int_same, has_near_numbers, to, raise, pop_at, push_bp, pop_bp, align, rsp_from_bp, bp_from_rsp, make_room, base_over_room, store_bp, load_bp, leave, lose_bp, move_live, regs_floor, raise_regs, pop_bp_regs, lose_bp_regs, move_regs}
use Rattle.state_defs.specs.Sound.{MoveIsConsistent}
use Rattle.stack_state.proofs.Results.{to_then, unless_then, pick_then, refused_then, allowed_is}

-- where rbp is the frame's base, it points at its home
abbrev pub PointsHome : Option ℤ → BpHome → Type 0
PointsHome fp home = (m : ℤ) → fp ≡ Some m → home ≡ Saved m

no_base : (home : BpHome) → PointsHome None home
no_base home m e = absurd (cc)

base_at_home : (o : ℤ) → PointsHome (Some o) (Saved o)
base_at_home o m e = let same : o ≡ m = cc in ap (λ (x : ℤ). Saved x) same

same_has_no_base : (depth : Depth) (fp : Option ℤ) (o : ℤ) → IsConsistentLive depth fp Same → PointsHome fp (Saved o)
same_has_no_base depth fp o c m e = absurd (let no : Same ≡ Saved m = c.fp m e in cc)

-- rbp is saved o bytes below the frame's top
pub saved_known : (n o : ℤ) (fp : Option ℤ) → PointsHome fp (Saved o) → pos 16 ≤ℤ o → o ≤ℤ n → IsConsistentLive (Known n) fp (Saved o)
saved_known n o fp base low high = record {
  fp = base;
  aligned = λ a. cc;
  saved = λ p e. let same : o ≡ p = cc in subst (λ (x : ℤ). (pos 16 ≤ℤ x) × (x ≤ℤ n)) same (low, high);
  same = λ e. absurd (cc);
}

pub saved_at_least : (n o m : ℤ) → PointsHome (Some m) (Saved o) → pos 16 ≤ℤ o → o ≤ℤ n → IsConsistentLive (AtLeast n) (Some m) (Saved o)
saved_at_least n o m base low high = record {
  fp = base;
  aligned = λ a. refl;
  saved = λ p e. let same : o ≡ p = cc in subst (λ (x : ℤ). (pos 16 ≤ℤ x) × (x ≤ℤ n)) same (low, high);
  same = λ e. absurd (cc);
}

pub unsaved_known : (n : ℤ) → pos 8 ≤ℤ n → IsConsistentLive (Known n) None Same
unsaved_known n high = record {
  fp = no_base Same;
  aligned = λ a. absurd (cc);
  saved = λ p e. absurd (cc);
  same = λ e. high;
}

-- what a consistent state says of its parts
pub same_depth : (depth : Depth) (fp : Option ℤ) → IsConsistentLive depth fp Same → pos 8 ≤ℤ depth_of depth
same_depth depth fp c = c.same refl

pub same_has_no_pointer : (depth : Depth) (m : ℤ) → IsConsistentLive depth (Some m) Same → ⊥
same_has_no_pointer depth m c = let no : Same ≡ Saved m = c.fp m refl in cc

pub same_is_known : (n : ℤ) (fp : Option ℤ) → IsConsistentLive (AtLeast n) fp Same → ⊥
same_is_known n None c = let e : IsSome {T = ℤ} None = c.aligned refl in cc
same_is_known n (Some m) c = same_has_no_pointer (AtLeast n) m c

pub at_least_has_pointer : (n : ℤ) (home : BpHome) → IsConsistentLive (AtLeast n) None home → ⊥
at_least_has_pointer n home c = let e : IsSome {T = ℤ} None = c.aligned refl in cc

pub saved_bounds : (depth : Depth) (fp : Option ℤ) (o : ℤ) → IsConsistentLive depth fp (Saved o) → (pos 16 ≤ℤ o) × (o ≤ℤ depth_of depth)
saved_bounds depth fp o c = c.saved o refl

-- the depth changes, and rbp is saved in it
pub saved_deeper : (depth : Depth) (n o : ℤ) (fp : Option ℤ) (home : BpHome) → IsConsistentLive depth fp home → PointsHome fp (Saved o) → pos 16 ≤ℤ o → o ≤ℤ n
    → IsConsistentLive (with_depth depth n) fp (Saved o)
saved_deeper (Known k) n o fp home c base low high = saved_known n o fp base low high
saved_deeper (AtLeast k) n o None home c base low high = absurd (at_least_has_pointer k home c)
saved_deeper (AtLeast k) n o (Some m) home c base low high = saved_at_least n o m base low high

pub same_deeper : (depth : Depth) (n : ℤ) (fp : Option ℤ) → IsConsistentLive depth fp Same → pos 8 ≤ℤ n → IsConsistentLive (with_depth depth n) fp Same
same_deeper (AtLeast k) n fp c high = absurd (same_is_known k fp c)
same_deeper (Known k) n None c high = unsaved_known n high
same_deeper (Known k) n (Some m) c high = absurd (same_has_no_pointer (Known k) m c)

-- the state stays consistent, and live
abbrev StaysLive : State → Type 0
StaysLive t = IsConsistent t × (ended_by t ≡ None)

to_live : (depth : Depth) (fp : Option ℤ) (home : BpHome) (t : State) → IsConsistentLive depth fp home → to (Live depth fp home) ≡ Ok t → StaysLive t
to_live depth fp home t c e = to_then StaysLive (has_near_numbers (Live depth fp home)) _ (Live depth fp home) t (λ near. (c, refl)) e

push_stays : (depth : Depth) (fp : Option ℤ) (home : BpHome) (t : State) → IsConsistentLive depth fp home
    → to (Live (with_depth depth (depth_of depth +ℤ pos 8)) fp home) ≡ Ok t → StaysLive t
push_stays depth fp Same t c e =
    let low : pos 8 ≤ℤ depth_of depth = same_depth depth fp c in
    to_live _ _ _ t (same_deeper depth (depth_of depth +ℤ pos 8) fp c (omega (arith, ints))) e
push_stays depth fp (Saved o) t c e =
    let bounds : (pos 16 ≤ℤ o) × (o ≤ℤ depth_of depth) = saved_bounds depth fp o c in
    to_live _ _ _ t (saved_deeper depth (depth_of depth +ℤ pos 8) o fp (Saved o) c c.fp bounds.0 (omega (arith, ints))) e

push_bp_stays : (depth : Depth) (fp : Option ℤ) (home : BpHome) (t : State) → IsConsistentLive depth fp home → push_bp depth fp home ≡ Ok t → StaysLive t
push_bp_stays depth fp Same t c e =
    let low : pos 8 ≤ℤ depth_of depth = same_depth depth fp c in
    to_live _ _ _ t (saved_deeper depth (depth_of depth +ℤ pos 8) (depth_of depth +ℤ pos 8) fp Same c (same_has_no_base depth fp _ c) (omega (arith, ints)) (omega (arith, ints))) e
push_bp_stays depth fp (Saved o) t c e = push_stays depth fp (Saved o) t c e

raise_stays : (k : ℤ) (depth : Depth) (fp : Option ℤ) (home : BpHome) (t : State) → IsConsistentLive depth fp home → raise k depth fp home ≡ Ok t → StaysLive t
raise_stays k depth fp Same t c e =
    unless_then (StaysLive t) (int_lt (depth_of depth -ℤ k) (pos 8)) _ _ t
    (λ high d. to_live _ _ _ t (same_deeper depth (depth_of depth -ℤ k) fp c (omega (arith, ints, high))) d) e
raise_stays k (AtLeast n) fp (Saved o) t c e =
    let bounds : (pos 16 ≤ℤ o) × (o ≤ℤ n) = saved_bounds (AtLeast n) fp o c in
    unless_then (StaysLive t) (int_lt (n -ℤ k) o) _ _ t
    (λ high d. to_live _ _ _ t (saved_deeper (AtLeast n) (n -ℤ k) o fp (Saved o) c c.fp bounds.0 (omega (arith, ints, high))) d) e
raise_stays k (Known n) fp (Saved o) t c e =
    let bounds : (pos 16 ≤ℤ o) × (o ≤ℤ n) = saved_bounds (Known n) fp o c in
    unless_then (StaysLive t) (int_lt (n -ℤ k) o) _ _ t
    (λ high d. to_live _ _ _ t (saved_known (n -ℤ k) o fp c.fp bounds.0 (omega (arith, ints, high))) d) e

pub int_same_is : (x y : ℤ) → int_same x y ≡ true → x ≡ y
int_same_is x y e =
    let both : (int_le x y ≡ true) × (int_le y x ≡ true) = and_parts _ _ e in
    omega (arith, ints, both.0, both.1)

pub int_same_not : (x y : ℤ) → int_same x y ≡ false → x ≡ y → ⊥
int_same_not x y e same =
    let yes : int_same x x ≡ true = grind (arith, ints) in
    let no : int_same x x ≡ false = subst (λ (z : ℤ). int_same x z ≡ false) (sym same) e in
    cc

pop_at_stays : (n o : ℤ) (t : State) → pos 16 ≤ℤ o → pop_at n o ≡ Ok t → StaysLive t
pop_at_stays n o t low e =
    pick_then (StaysLive t) (int_same n o) _ _ t
    (λ same d. let is : n ≡ o = int_same_is n o same in to_live _ _ _ t (unsaved_known (n -ℤ pos 8) (omega (arith, ints))) d)
    (λ other d. pick_then (StaysLive t) (int_le o (n -ℤ pos 8)) _ _ t
    (λ high b. to_live _ _ _ t (saved_known (n -ℤ pos 8) o None (no_base (Saved o)) low (omega (arith, ints, high))) b)
    (λ less b. refused_then (StaysLive t) _ t b) d)
    e

pop_bp_stays : (depth : Depth) (fp : Option ℤ) (home : BpHome) (t : State) → IsConsistentLive depth fp home → pop_bp depth home ≡ Ok t → StaysLive t
pop_bp_stays depth fp Same t c e = refused_then (StaysLive t) _ t e
pop_bp_stays (AtLeast n) fp (Saved o) t c e = refused_then (StaysLive t) _ t e
pop_bp_stays (Known n) fp (Saved o) t c e = pop_at_stays n o t (saved_bounds (Known n) fp o c).0 e

leave_stays : (depth : Depth) (fp : Option ℤ) (home : BpHome) (t : State) → IsConsistentLive depth fp home → leave fp home ≡ Ok t → StaysLive t
leave_stays depth None home t c e = refused_then (StaysLive t) _ t e
leave_stays depth (Some m) Same t c e = refused_then (StaysLive t) _ t e
leave_stays depth (Some m) (Saved o) t c e = pop_at_stays m o t (saved_bounds depth (Some m) o c).0 e

align_stays : (depth : Depth) (fp : Option ℤ) (home : BpHome) (t : State) → IsConsistentLive depth fp home → align depth fp home ≡ Ok t → StaysLive t
align_stays depth None home t c e = refused_then (StaysLive t) _ t e
align_stays depth (Some m) Same t c e = absurd (same_has_no_pointer depth m c)
align_stays depth (Some m) (Saved o) t c e =
    let bounds : (pos 16 ≤ℤ o) × (o ≤ℤ depth_of depth) = saved_bounds depth (Some m) o c in
    to_live _ _ _ t (saved_at_least (depth_of depth) o m c.fp bounds.0 bounds.1) e

rsp_from_bp_stays : (k : ℤ) (depth : Depth) (fp : Option ℤ) (home : BpHome) (t : State) → IsConsistentLive depth fp home → rsp_from_bp k fp home ≡ Ok t → StaysLive t
rsp_from_bp_stays k depth None home t c e = refused_then (StaysLive t) _ t e
rsp_from_bp_stays k depth (Some m) Same t c e = absurd (same_has_no_pointer depth m c)
rsp_from_bp_stays k depth (Some m) (Saved o) t c e =
    unless_then (StaysLive t) (int_lt (m -ℤ k) o) _ _ t
    (λ high d. to_live _ _ _ t (saved_known (m -ℤ k) o (Some m) c.fp (saved_bounds depth (Some m) o c).0 (omega (arith, ints, high))) d) e

bp_from_rsp_stays : (k : ℤ) (depth : Depth) (fp : Option ℤ) (home : BpHome) (t : State) → IsConsistentLive depth fp home → bp_from_rsp k depth home ≡ Ok t → StaysLive t
bp_from_rsp_stays k depth fp Same t c e = refused_then (StaysLive t) _ t e
bp_from_rsp_stays k (AtLeast n) fp (Saved o) t c e = refused_then (StaysLive t) _ t e
bp_from_rsp_stays k (Known n) fp (Saved o) t c e =
    let bounds : (pos 16 ≤ℤ o) × (o ≤ℤ n) = saved_bounds (Known n) fp o c in
    pick_then (StaysLive t) (int_same (n -ℤ k) o) _ _ t
    (λ same d. to_live _ _ _ t (saved_known n o (Some o) (base_at_home o) bounds.0 bounds.1) d)
    (λ other d. to_live _ _ _ t (saved_known n o None (no_base (Saved o)) bounds.0 bounds.1) d)
    e

make_room_stays : (depth : Depth) (fp : Option ℤ) (home : BpHome) (t : State) → IsConsistentLive depth fp home → make_room depth fp home ≡ Ok t → StaysLive t
make_room_stays depth None home t c e = refused_then (StaysLive t) _ t e
make_room_stays depth (Some m) home t c e = align_stays depth (Some m) home t c e

base_over_room_stays : (k : ℤ) (depth : Depth) (fp : Option ℤ) (home : BpHome) (t : State) → IsConsistentLive depth fp home → base_over_room k depth home ≡ Ok t → StaysLive t
base_over_room_stays k depth fp Same t c e = bp_from_rsp_stays k depth fp Same t c e
base_over_room_stays k (AtLeast n) fp (Saved o) t c e = bp_from_rsp_stays k (AtLeast n) fp (Saved o) t c e
base_over_room_stays k (Known n) fp (Saved o) t c e =
    let bounds : (pos 16 ≤ℤ o) × (o ≤ℤ n) = saved_bounds (Known n) fp o c in
    pick_then (StaysLive t) (int_same (n -ℤ k) o) _ _ t
    (λ same d. to_live _ _ _ t (saved_at_least n o o (base_at_home o) bounds.0 bounds.1) d)
    (λ other d. bp_from_rsp_stays k (Known n) fp (Saved o) t c d)
    e

store_bp_stays : (k : ℤ) (depth : Depth) (fp : Option ℤ) (home : BpHome) (t : State) → IsConsistentLive depth fp home → store_bp k depth fp home ≡ Ok t → StaysLive t
store_bp_stays k depth fp (Saved o) t c e = to_live _ _ _ t c e
store_bp_stays k (AtLeast n) fp Same t c e = absurd (same_is_known n fp c)
store_bp_stays k (Known n) fp Same t c e =
    pick_then (StaysLive t) (int_le (pos 16) (n -ℤ k) && int_le (n -ℤ k) n) _ _ t
    (λ saves d.
    let both : (int_le (pos 16) (n -ℤ k) ≡ true) × (int_le (n -ℤ k) n ≡ true) = and_parts _ _ saves in
    to_live _ _ _ t (saved_known n (n -ℤ k) fp (same_has_no_base (Known n) fp (n -ℤ k) c) (omega (arith, ints, both.0)) (omega (arith, ints, both.1))) d)
    (λ other d. to_live _ _ _ t c d)
    e

load_bp_stays : (k : ℤ) (depth : Depth) (fp : Option ℤ) (home : BpHome) (t : State) → IsConsistentLive depth fp home → load_bp k depth home ≡ Ok t → StaysLive t
load_bp_stays k depth fp Same t c e = refused_then (StaysLive t) _ t e
load_bp_stays k (AtLeast n) fp (Saved o) t c e = refused_then (StaysLive t) _ t e
load_bp_stays k (Known n) fp (Saved o) t c e =
    let bounds : (pos 16 ≤ℤ o) × (o ≤ℤ n) = saved_bounds (Known n) fp o c in
    pick_then (StaysLive t) (int_same (n -ℤ k) o) _ _ t
    (λ same d. to_live _ _ _ t (unsaved_known n (omega (arith, ints))) d)
    (λ other d. to_live _ _ _ t (saved_known n o None (no_base (Saved o)) bounds.0 bounds.1) d)
    e

lose_bp_stays : (depth : Depth) (fp : Option ℤ) (home : BpHome) (t : State) → IsConsistentLive depth fp home → lose_bp depth home ≡ Ok t → StaysLive t
lose_bp_stays depth fp Same t c e = refused_then (StaysLive t) _ t e
lose_bp_stays (AtLeast n) fp (Saved o) t c e = refused_then (StaysLive t) _ t e
lose_bp_stays (Known n) fp (Saved o) t c e =
    let bounds : (pos 16 ≤ℤ o) × (o ≤ℤ n) = saved_bounds (Known n) fp o c in
    to_live _ _ _ t (saved_known n o None (no_base (Saved o)) bounds.0 bounds.1) e

live_stays : (depth : Depth) (fp : Option ℤ) (home : BpHome) (t : State) (op : Op) → IsConsistentLive depth fp home → move_live depth fp home op ≡ Ok t → StaysLive t
live_stays depth fp home t Push c e = push_stays depth fp home t c e
live_stays depth fp home t Hop c e = push_stays depth fp home t c e
live_stays depth fp home t PushBp c e = push_bp_stays depth fp home t c e
live_stays depth fp home t Pop c e = raise_stays (pos 8) depth fp home t c e
live_stays depth fp home t Popf c e = raise_stays (pos 8) depth fp home t c e
live_stays depth fp home t (AddSp by) c e = raise_stays by depth fp home t c e
live_stays depth fp home t PopBp c e = pop_bp_stays depth fp home t c e
live_stays depth fp home t (AndSp mask) c e = align_stays depth fp home t c e
live_stays depth fp home t (LeaSpBp by) c e = rsp_from_bp_stays by depth fp home t c e
live_stays depth fp home t (LeaBpSp by) c e = bp_from_rsp_stays by depth fp home t c e
live_stays depth fp home t (LeaBpRoom by) c e = base_over_room_stays by depth fp home t c e
live_stays depth fp home t SubSp c e = make_room_stays depth fp home t c e
live_stays depth fp home t SpReg c e = make_room_stays depth fp home t c e
live_stays depth fp home t (StoreBp at) c e = store_bp_stays at depth fp home t c e
live_stays depth fp home t (LoadBp at) c e = load_bp_stays at depth fp home t c e
live_stays depth fp home t Leave c e = leave_stays depth fp home t c e
live_stays depth fp home t BpOther c e = lose_bp_stays depth fp home t c e
live_stays depth fp home t SpOther c e = refused_then (StaysLive t) _ t e
live_stays depth fp home t IretNext c e = raise_stays (pos 40) depth fp home t c (allowed_is (raise (pos 40) depth fp home) t e)
live_stays depth fp home t _ c e = to_live depth fp home t c e

to_regs : (full : Bool) (depth : ℤ) (t : State) → IsConsistent (Regs full depth) → to (Regs full depth) ≡ Ok t → StaysLive t
to_regs full depth t c e = to_then StaysLive (has_near_numbers (Regs full depth)) _ (Regs full depth) t (λ near. (c, refl)) e

-- over saved registers the depth is at or above its floor
pub above_floor : (full : Bool) (depth : ℤ) → regs_floor full ≤ℤ depth → IsConsistent (Regs full depth)
above_floor true depth h = h
above_floor false depth h = h

pub floor_under : (full : Bool) (depth : ℤ) → IsConsistent (Regs full depth) → regs_floor full ≤ℤ depth
floor_under true depth h = h
floor_under false depth h = h

raise_regs_stays : (k : ℤ) (full : Bool) (depth : ℤ) (t : State) → raise_regs k full depth ≡ Ok t → StaysLive t
raise_regs_stays k full depth t e =
    unless_then (StaysLive t) (int_lt (depth -ℤ k) (regs_floor full)) _ _ t
    (λ high d. to_regs full (depth -ℤ k) t (above_floor full (depth -ℤ k) (omega (arith, ints, high))) d) e

push_regs_stays : (full : Bool) (depth : ℤ) (t : State) → IsConsistent (Regs full depth) → to (Regs full (depth +ℤ pos 8)) ≡ Ok t → StaysLive t
push_regs_stays full depth t c e =
    let low : regs_floor full ≤ℤ depth = floor_under full depth c in
    to_regs full (depth +ℤ pos 8) t (above_floor full (depth +ℤ pos 8) (omega (arith, ints))) e

pop_bp_regs_stays : (full : Bool) (depth : ℤ) (t : State) → pop_bp_regs full depth ≡ Ok t → StaysLive t
pop_bp_regs_stays false depth t e = refused_then (StaysLive t) _ t e
pop_bp_regs_stays true depth t e =
    pick_then (StaysLive t) (int_same depth (negsuc 31)) _ _ t
    (λ at_bp d. to_regs false (pos 88) t (above_floor false (pos 88) (omega (arith, ints))) d)
    (λ other d. raise_regs_stays (pos 8) true depth t d)
    e

lose_bp_regs_stays : (full : Bool) (depth : ℤ) (t : State) → IsConsistent (Regs full depth) → lose_bp_regs full depth ≡ Ok t → StaysLive t
lose_bp_regs_stays false depth t c e = refused_then (StaysLive t) _ t e
lose_bp_regs_stays true depth t c e = to_regs true depth t c e

regs_stays : (full : Bool) (depth : ℤ) (t : State) (op : Op) → IsConsistent (Regs full depth) → move_regs full depth op ≡ Ok t → StaysLive t
regs_stays full depth t Push c e = push_regs_stays full depth t c e
regs_stays full depth t Hop c e = push_regs_stays full depth t c e
regs_stays full depth t PushBp c e = push_regs_stays full depth t c e
regs_stays full depth t Pop c e = raise_regs_stays (pos 8) full depth t e
regs_stays full depth t Popf c e = raise_regs_stays (pos 8) full depth t e
regs_stays full depth t (AddSp by) c e = raise_regs_stays by full depth t e
regs_stays full depth t PopBp c e = pop_bp_regs_stays full depth t e
regs_stays full depth t (LeaBpSp by) c e = lose_bp_regs_stays full depth t c e
regs_stays full depth t (LeaBpRoom by) c e = lose_bp_regs_stays full depth t c e
regs_stays full depth t (LoadBp at) c e = lose_bp_regs_stays full depth t c e
regs_stays full depth t BpOther c e = lose_bp_regs_stays full depth t c e
regs_stays full depth t (AndSp mask) c e = refused_then (StaysLive t) _ t e
regs_stays full depth t (LeaSpBp by) c e = refused_then (StaysLive t) _ t e
regs_stays full depth t Leave c e = refused_then (StaysLive t) _ t e
regs_stays full depth t SpOther c e = refused_then (StaysLive t) _ t e
regs_stays full depth t SubSp c e = refused_then (StaysLive t) _ t e
regs_stays full depth t SpReg c e = refused_then (StaysLive t) _ t e
regs_stays full depth t IretNext c e = refused_then (StaysLive t) _ t e
regs_stays full depth t _ c e = to_regs full depth t c e

pub move_consistent : MoveIsConsistent
move_consistent (Live depth fp home) t op c e = live_stays depth fp home t op c e
move_consistent (Ended kind) t op c e =
    let same : Ended kind ≡ t = cc in
    subst (λ (s : State). IsConsistent s × (ended_by s ≡ Some kind)) same (tt, refl)
move_consistent (Regs full depth) t op c e = regs_stays full depth t op c e
