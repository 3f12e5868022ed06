-- What is known where a move is followed, and what it leads to.
use Rattle.std.proofs.Common.{◌≡◌, ℕ, ◌≤◌, true, List, ◌∷◌, ℤ, neg_ℤ, arith, sym, ap, subst, ◌∙◌}
use Rattle.std.specs.Prelude.{Option, IfSome, Ok, ◌==◌}
use Rattle.state_defs.specs.declared.state.Depth.{Depth}
use Rattle.state_defs.specs.declared.state.BpHome.{BpHome}
use Rattle.state_defs.specs.declared.state.State.{State}
use Rattle.state_defs.specs.declared.state.State.TheVariants.{Live}
use Rattle.state_defs.specs.Address.{shifted}
use Rattle.state_defs.specs.Region.{Region, hi_of}
use Rattle.state_defs.specs.Frame.{Slot, Frame, listed, with_top_slot, after_save, saved_slot}
use Rattle.state_defs.specs.Effect.{Core, IsInStack}
use Rattle.state_defs.specs.State.{IsConsistent, IsConsistentLive, MeansDepth, MeansHome}
use Rattle.state_defs.specs.Move.{has_near_numbers, to}
use Rattle.state_defs.specs.Sound.{IsTold}
use Rattle.stack_state.proofs.Outcomes.{Outcome, EachHeld, AllHeld, live_outcome, held_at_top, held_lower}
use Rattle.stack_state.proofs.Results.{to_then}

-- a consistent state tells of registers and memory, and an operation leads from there into the stack
pub record Scene (s : State) (before after : Core) (f : Frame) (below : List Frame) : Type 0 where
  pub consistent : IsConsistent s
  pub first : IsInStack before
  pub told : IsTold s before f below
  pub last : IsInStack after

-- what is left to show of a moved state, which is consistent
abbrev pub Arrives : State → Core → Frame → List Frame → Type 0
Arrives t after f below = IsConsistent t → Outcome t after f below

-- where the move isn't refused, its state has near numbers
pub arrive : (s t : State) (after : Core) (f : Frame) (below : List Frame)
    → (has_near_numbers s ≡ true → Arrives s after f below) → to s ≡ Ok t → Arrives t after f below
arrive s t after f below h e = to_then (λ (u : State). Arrives u after f below) (has_near_numbers s) _ s t h e

-- the top frame stays as it is
pub same_frame : (s : State) (before after : Core) (f : Frame) (below : List Frame) → Scene s before after f below
    → (depth : Depth) (fp : Option ℤ) (home : BpHome) → IsConsistentLive depth fp home → has_near_numbers (Live depth fp home) ≡ true
    → after.shadow ≡ before.shadow → hi_of after.region ≡ hi_of before.region → EachHeld after.region (f ∷ listed f.ended_caller below)
    → MeansDepth depth after.rsp f.cfa → IfSome fp (λ m. after.rbp ≡ shifted f.cfa (neg_ℤ m)) → MeansHome home after.rbp f.cfa f.bp f.slot
    → Outcome (Live depth fp home) after f below
same_frame s before after f below scene depth fp home c near frames top held d p h =
    let lower : List Frame = listed f.ended_caller below in
    live_outcome depth fp home f below after f.slot c near scene.last (frames ∙ scene.told.frames) d p h (omega (arith, top, scene.told.top))
    (held_at_top after.region f lower held) (held_lower after.region f lower held) scene.told.above

-- the top frame's slot changes, and memory stays
pub new_slot : (s : State) (before after : Core) (f : Frame) (below : List Frame) → Scene s before after f below
    → (depth : Depth) (fp : Option ℤ) (home : BpHome) → IsConsistentLive depth fp home → has_near_numbers (Live depth fp home) ≡ true
    → (slot : Slot) → after.shadow ≡ record f { slot = slot } ∷ below → after.region ≡ before.region → AllHeld before.region slot f
    → MeansDepth depth after.rsp f.cfa → IfSome fp (λ m. after.rbp ≡ shifted f.cfa (neg_ℤ m)) → MeansHome home after.rbp f.cfa f.bp slot
    → Outcome (Live depth fp home) after f below
new_slot s before after f below scene depth fp home c near slot frames same held d p h =
    let lower : List Frame = listed f.ended_caller below in
    live_outcome depth fp home f below after slot c near scene.last frames d p h
    (subst (λ (r : Region). f.cfa ≤ hi_of r) (sym same) scene.told.top)
    (subst (λ (r : Region). AllHeld r slot f) (sym same) held)
    (subst (λ (r : Region). EachHeld r lower) (sym same) (held_lower before.region f lower scene.told.kept.hold))
    scene.told.above

-- the frames after the top slot changed
pub slot_changed : (change : Slot → Slot) (before after : List Frame) (f : Frame) (below : List Frame) (slot : Slot)
    → after ≡ with_top_slot change before → before ≡ f ∷ below → change f.slot ≡ slot → after ≡ record f { slot = slot } ∷ below
slot_changed change before after f below slot e frames d =
    e ∙ ap (λ (fs : List Frame). with_top_slot change fs) frames ∙ ap (λ (x : Slot). record f { slot = x } ∷ below) d

pub slot_saved : (rbp address : ℕ) (before after : List Frame) (f : Frame) (below : List Frame) (slot : Slot)
    → after ≡ after_save rbp address before → before ≡ f ∷ below → saved_slot (rbp == f.bp) address f.slot ≡ slot → after ≡ record f { slot = slot } ∷ below
slot_saved rbp address before after f below slot e frames d =
    e ∙ ap (λ (fs : List Frame). after_save rbp address fs) frames ∙ ap (λ (x : Slot). record f { slot = x } ∷ below) d
