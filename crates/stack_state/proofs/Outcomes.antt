-- What is told after a move.
use Rattle.std.proofs.Common.{◌≡◌, ℕ, ◌+◌, ◌-◌, ◌^◌, ◌<◌, ◌≤◌, true, ◌&&◌, List, ◌∷◌, ℤ, pos, neg_ℤ, ◌+ℤ◌, ◌≤ℤ◌, arith, refl, sym, subst}
use Rattle.std.specs.Prelude.{Option, IfSome, All}
use Rattle.std.proofs.lemmas.Int.{ints}
use Rattle.std.proofs.lemmas.List.Elements.{All-weaker}
use Rattle.std.proofs.lemmas.Bool.{and_parts}
use Rattle.state_defs.specs.declared.state.Depth.{Depth}
use Rattle.state_defs.specs.declared.state.Depth.TheVariants.{Known, AtLeast}
use Rattle.state_defs.specs.declared.state.BpHome.{BpHome}
use Rattle.state_defs.specs.declared.state.BpHome.TheVariants.{Same, Saved}
use Rattle.state_defs.specs.declared.state.State.{State}
use Rattle.state_defs.specs.declared.state.State.TheVariants.{Live}
use Rattle.state_defs.specs.Address.{down, shifted}
use Rattle.state_defs.specs.Region.{Region, hi_of, Holds}
use Rattle.state_defs.specs.Frame.{Slot, Frame, Protected, protected_by, listed, LieAbove}
use Rattle.state_defs.specs.Effect.{Core, IsInStack}
use Rattle.state_defs.specs.State.{depth_of, IsConsistentLive, MeansDepth, MeansHome}
use Rattle.state_defs.specs.Move.{is_near, is_fp_near, is_home_near, has_near_numbers}
use Rattle.state_defs.specs.Sound.{IsTold, IsSameFrame}
use Rattle.stack_state.proofs.Addresses.{IsTurned, turned_from, plain_below, IsNear, near_from, down_plain}
use Rattle.stack_state.proofs.Slots.{Each, each_joined, each_top, each_below, one_slot, two_slots}

-- the stack is still told of, with the frames below as they were
abbrev pub Outcome : State → Core → Frame → List Frame → Type 0
Outcome t after f below = (g : Frame) × IsSameFrame f g × IsTold t after g below

-- a region that ends a gigabyte below the end of the address space, with rsp and the frame's top in it
pub record IsWithin (rsp cfa : ℕ) : Type 0 where
  pub low : rsp < 2 ^ 64 - 2 ^ 30
  pub high : cfa < 2 ^ 64 - 2 ^ 30

pub within : (core : Core) (cfa : ℕ) → IsInStack core → cfa ≤ hi_of core.region → IsWithin core.rsp cfa
within core cfa in_stack top = record {
  low = omega (arith, in_stack.below_hi, in_stack.region.below_end);
  high = omega (arith, top, in_stack.region.below_end);
}

-- the depth is plain room between rsp and the frame's top
pub room : (depth : Depth) (rsp cfa : ℕ) → IsWithin rsp cfa → IsNear (depth_of depth) → MeansDepth depth rsp cfa
    → (pos rsp +ℤ depth_of depth) ≤ℤ pos cfa
room (Known n) rsp cfa w near m =
    let plain : pos rsp +ℤ n ≡ pos cfa = plain_below rsp cfa n (turned_from rsp cfa (neg_ℤ n) m) near w.low w.high in
    omega (arith, ints)
room (AtLeast n) rsp cfa w near m = m

-- the place o bytes below the frame's top
pub place_below : (cfa : ℕ) (o : ℤ) → cfa < 2 ^ 64 → pos 0 ≤ℤ o → o ≤ℤ pos cfa → pos (shifted cfa (neg_ℤ o)) +ℤ o ≡ pos cfa
place_below cfa o short low high =
    let turned : IsTurned (shifted cfa (neg_ℤ o)) cfa (neg_ℤ o) = turned_from _ cfa (neg_ℤ o) refl in
    omega (arith, ints)

pub near_depth : (depth : Depth) (fp : Option ℤ) (home : BpHome) → has_near_numbers (Live depth fp home) ≡ true → IsNear (depth_of depth)
near_depth depth fp home e =
    let both : (is_near (depth_of depth) ≡ true) × ((is_fp_near fp && is_home_near home) ≡ true) = and_parts _ _ e in
    near_from _ both.0

-- the protected slots of the top frame lie at or above rsp
abbrev pub AllAbove : ℕ → Slot → Frame → Type 0
AllAbove rsp slot f = All (λ (s : Protected). rsp ≤ s.at) (protected_by slot f.ra f.cfa f.bp)

abbrev pub AllHeld : Region → Slot → Frame → Type 0
AllHeld r slot f = All (λ (s : Protected). Holds r s.at s.value) (protected_by slot f.ra f.cfa f.bp)

abbrev pub EachHeld : Region → List Frame → Type 0
EachHeld r frames = Each (λ (s : Protected). Holds r s.at s.value) frames

top_above : (depth : Depth) (fp : Option ℤ) (home : BpHome) (rsp rbp : ℕ) (slot : Slot) (f : Frame) → IsWithin rsp f.cfa
    → IsConsistentLive depth fp home → IsNear (depth_of depth) → MeansDepth depth rsp f.cfa → MeansHome home rbp f.cfa f.bp slot → AllAbove rsp slot f
top_above depth fp Same rsp rbp slot f w c near d h =
    let space : (pos rsp +ℤ depth_of depth) ≤ℤ pos f.cfa = room depth rsp f.cfa w near d in
    let deep : pos 8 ≤ℤ depth_of depth = c.same refl in
    let short : f.cfa < 2 ^ 64 = omega (arith, w.high) in
    let low : 8 ≤ f.cfa = omega (arith, ints, space, deep) in
    let ra : down f.cfa 8 + 8 ≡ f.cfa = down_plain f.cfa 8 short low in
    let ra_above : rsp ≤ down f.cfa 8 = omega (arith, ints, space, deep, ra) in
    subst (λ (s : Slot). AllAbove rsp s f) (sym h.0)
    (one_slot (λ (s : Protected). rsp ≤ s.at) (record { at = down f.cfa 8; value = f.ra }) ra_above)
top_above depth fp (Saved o) rsp rbp slot f w c near d h =
    let space : (pos rsp +ℤ depth_of depth) ≤ℤ pos f.cfa = room depth rsp f.cfa w near d in
    let bounds : (pos 16 ≤ℤ o) × (o ≤ℤ depth_of depth) = c.saved o refl in
    let short : f.cfa < 2 ^ 64 = omega (arith, w.high) in
    let low : 8 ≤ f.cfa = omega (arith, ints, space, bounds.0, bounds.1) in
    let ra : down f.cfa 8 + 8 ≡ f.cfa = down_plain f.cfa 8 short low in
    let ra_above : rsp ≤ down f.cfa 8 = omega (arith, ints, space, bounds.0, bounds.1, ra) in
    let place : pos (shifted f.cfa (neg_ℤ o)) +ℤ o ≡ pos f.cfa =
    place_below f.cfa o short (omega (arith, ints, bounds.0)) (omega (arith, ints, space, bounds.1)) in
    let bp_above : rsp ≤ shifted f.cfa (neg_ℤ o) = omega (arith, ints, space, bounds.1, place) in
    subst (λ (s : Slot). AllAbove rsp s f) (sym h)
    (two_slots (λ (s : Protected). rsp ≤ s.at) (record { at = down f.cfa 8; value = f.ra }) (record { at = shifted f.cfa (neg_ℤ o); value = f.bp }) ra_above bp_above)

-- what lies above the frame's top lies above rsp
pub lower_above : (rsp cfa : ℕ) (frames : List Frame) → rsp ≤ cfa → LieAbove cfa frames → LieAbove rsp frames
lower_above rsp cfa frames h above =
    All-weaker (λ (s : Protected). cfa ≤ s.at) (λ (s : Protected). rsp ≤ s.at) (λ s p. omega arith) _ above

rsp_below : (depth : Depth) (fp : Option ℤ) (home : BpHome) (rsp cfa : ℕ) → IsWithin rsp cfa
    → IsConsistentLive depth fp home → IsNear (depth_of depth) → MeansDepth depth rsp cfa → rsp ≤ cfa
rsp_below depth fp Same rsp cfa w c near d =
    let space : (pos rsp +ℤ depth_of depth) ≤ℤ pos cfa = room depth rsp cfa w near d in
    let deep : pos 8 ≤ℤ depth_of depth = c.same refl in
    omega (arith, ints, space, deep)
rsp_below depth fp (Saved o) rsp cfa w c near d =
    let space : (pos rsp +ℤ depth_of depth) ≤ℤ pos cfa = room depth rsp cfa w near d in
    let bounds : (pos 16 ≤ℤ o) × (o ≤ℤ depth_of depth) = c.saved o refl in
    omega (arith, ints, space, bounds.0, bounds.1)

-- a live state tells of what it means, where memory holds what it has to
pub live_outcome : (depth : Depth) (fp : Option ℤ) (home : BpHome) (f : Frame) (below : List Frame) (after : Core) (slot : Slot)
    → IsConsistentLive depth fp home → has_near_numbers (Live depth fp home) ≡ true → IsInStack after
    → after.shadow ≡ record f { slot = slot } ∷ below
    → MeansDepth depth after.rsp f.cfa → IfSome fp (λ m. after.rbp ≡ shifted f.cfa (neg_ℤ m)) → MeansHome home after.rbp f.cfa f.bp slot
    → f.cfa ≤ hi_of after.region → AllHeld after.region slot f → EachHeld after.region (listed f.ended_caller below)
    → LieAbove f.cfa (listed f.ended_caller below) → Outcome (Live depth fp home) after f below
live_outcome depth fp home f below after slot c near_numbers in_stack frames d p h top held_top held_lower above =
    let w : IsWithin after.rsp f.cfa = within after f.cfa in_stack top in
    let near : IsNear (depth_of depth) = near_depth depth fp home near_numbers in
    let g : Frame = record f { slot = slot } in
    let lower : List Frame = listed f.ended_caller below in (
      g,
      record { same = refl },
      record {
        frames = frames;
        means = record { depth = d; fp = p; bp = h };
        top = top;
        kept = record {
          above = each_joined (λ (s : Protected). after.rsp ≤ s.at) g lower
              (top_above depth fp home after.rsp after.rbp slot f w c near d h)
              (lower_above after.rsp f.cfa lower (rsp_below depth fp home after.rsp f.cfa w c near d) above);
          hold = each_joined (λ (s : Protected). Holds after.region s.at s.value) g lower held_top held_lower;
        };
        above = above;
      },
    )

pub held_at_top : (r : Region) (f : Frame) (frames : List Frame) → EachHeld r (f ∷ frames) → AllHeld r f.slot f
held_at_top r f frames h = each_top (λ (s : Protected). Holds r s.at s.value) f frames h

pub held_lower : (r : Region) (f : Frame) (frames : List Frame) → EachHeld r (f ∷ frames) → EachHeld r frames
held_lower r f frames h = each_below (λ (s : Protected). Holds r s.at s.value) f frames h
