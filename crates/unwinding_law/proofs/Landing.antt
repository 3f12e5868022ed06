-- A state that comes to a point is in order once the hint there has done its work.
use Rattle.std.proofs.Common.{◌≡◌, ℕ, ◌≤◌, Bool, true, false, List, [], ◌∷◌, Option, Some, None, refl, sym, ap, ◌∙◌, subst}
use Rattle.std.proofs.lemmas.List.Elements.{All-nil}
use Rattle.state_defs.specs.declared.state.State.{State}
use Rattle.state_defs.specs.declared.state.State.TheVariants.{Live, Ended, Regs}
use Rattle.state_defs.specs.declared.state.HintState.{HintState}
use Rattle.state_defs.specs.declared.state.HintState.TheVariants.{Set, Save, Restore}
use Rattle.state_defs.specs.Address.{shifted}
use Rattle.state_defs.specs.Region.{Region, Holds}
use Rattle.state_defs.specs.Frame.{Slot, is_of_call, Frame, Mark, AreKept, with_top_slot}
use Rattle.state_defs.specs.Effect.{Core, IsInStack}
use Rattle.state_defs.specs.State.{MeansTop}
use Rattle.machine_defs.specs.Program.{Program, IsPoint}
use Rattle.machine_defs.specs.Machine.{Bases, Standing, At}
use Rattle.machine_defs.specs.Hint.{KeepsSlots, IsInInterrupt, hinted_slot, SetsState, Restores, Hinted, Lands}
use Rattle.machine_defs.specs.Kept.{is_free}
use Rattle.machine_defs.specs.Law.{marked, IsMarkKept, AreMarksKept, HasRunInvariant, HasFrameInvariant, IsInOrder}
use Rattle.unwinding_law.proofs.Shadow.{IsSlotChange, no_frame, top}
use Rattle.unwinding_law.proofs.Frames.{marked_same, frame_invariant}
use Rattle.unwinding_law.proofs.KeptStates.{set_kept, restored}

-- what holds when control comes to a point, before the hint there
pub record IsComing (p : Program) (bases : Bases) (t : Standing) : Type 0 where
  pub point : IsPoint p t.point
  pub checked : p.unchecked t.point ≡ false
  pub frames : HasFrameInvariant p bases t
  pub told : is_free (p.hint t.point) ≡ true → HasRunInvariant p t

pub no_slots : (rsp : ℕ) (region : Region) → AreKept rsp region []
no_slots rsp region = record { above = All-nil (λ slot. rsp ≤ slot.at); hold = All-nil (λ slot. Holds region slot.at slot.value) }

hinted_kind : (full : Bool) (address : ℕ) → is_of_call (hinted_slot full address) ≡ false
hinted_kind true address = refl
hinted_kind false address = refl

hinted_change : (full : Bool) (address : ℕ) (fs : List Frame) → IsInInterrupt fs → IsSlotChange fs (with_top_slot (λ _. hinted_slot full address) fs)
hinted_change full address [] h = no_frame
hinted_change full address (f ∷ fs) h = top f fs (hinted_slot full address) (hinted_kind full address ∙ sym h)

module _ (p : Program) (bases : Bases) (t u : Standing) (c : IsComing p bases t) where
  at_set : (s : State) → p.hint t.point ≡ Some (Set s) → SetsState s t u → IsInOrder p bases (At u)
  at_set (Live d m b) h e =
      let v : Standing = record t { ended = None } in
      let slots : KeepsSlots v = subst KeepsSlots e.0 e.2 in
      subst (λ (x : Standing). IsInOrder p bases (At x)) (sym e.0) (
        record { point = c.point; state = Live d m b; kept = set_kept p t.point (Live d m b) c.checked h; ended = refl; means = e.1; slots = slots },
        record { frames = c.frames.frames; below_hi = c.frames.below_hi; mark = c.frames.mark },
      )
  at_set (Ended k) h e =
      subst (λ (x : Standing). IsInOrder p bases (At x)) (sym e) (
        record { point = c.point; state = Ended k; kept = set_kept p t.point (Ended k) c.checked h; ended = refl; means = tt; slots = no_slots t.core.rsp t.core.region },
        record { frames = c.frames.frames; below_hi = c.frames.below_hi; mark = c.frames.mark },
      )
  at_set (Regs full d) h e =
      let slot : Slot = hinted_slot full (shifted t.core.rsp d) in
      let v : Standing = record t { core = record t.core { shadow = with_top_slot (λ _. slot) t.core.shadow }; ended = None } in
      let slots : KeepsSlots v = subst KeepsSlots e.0 e.3 in
      let means : MeansTop (Regs full d) v.core.rsp v.core.rbp v.core.shadow = subst (λ (x : Standing). MeansTop (Regs full d) x.core.rsp x.core.rbp x.core.shadow) e.0 e.2 in
      subst (λ (x : Standing). IsInOrder p bases (At x)) (sym e.0) (
        record { point = c.point; state = Regs full d; kept = set_kept p t.point (Regs full d) c.checked h; ended = refl; means = means; slots = slots },
        frame_invariant p bases t v (hinted_change full (shifted t.core.rsp d) t.core.shadow e.1) refl refl (λ x. x) c.frames,
      )

  at_restore : p.hint t.point ≡ Some Restore → Restores (p.save_of t.point) t u → IsInOrder p bases (At u)
  at_restore h e =
      let k : IsMarkKept p e.mark t.core.shadow = subst (λ (x : Option Mark). AreMarksKept p x t.core.shadow) e.last c.frames.mark in
      let v : Standing = record t { ended = e.mark.ended } in
      let slots : KeepsSlots v = subst KeepsSlots e.after e.slots in
      let shadow : marked e.mark.slot t.core.shadow ≡ t.core.shadow = ap (λ (x : Option Slot). marked x t.core.shadow) (sym e.slot) ∙ marked_same t.core.shadow in
      let one : MeansTop k.state e.mark.rsp e.mark.rbp t.core.shadow = subst (λ (x : List Frame). MeansTop k.state e.mark.rsp e.mark.rbp x) shadow k.means in
      let two : MeansTop k.state t.core.rsp e.mark.rbp t.core.shadow = subst (λ (x : ℕ). MeansTop k.state x e.mark.rbp t.core.shadow) (sym e.rsp) one in
      let means : MeansTop k.state t.core.rsp t.core.rbp t.core.shadow = subst (λ (x : ℕ). MeansTop k.state t.core.rsp x t.core.shadow) (sym e.rbp) two in
      subst (λ (x : Standing). IsInOrder p bases (At x)) (sym e.after) (
        record { point = c.point; state = k.state; kept = restored p t.point e.mark.point k.state h e.meant c.checked k.kept; ended = k.ended; means = means; slots = slots },
        record { frames = c.frames.frames; below_hi = c.frames.below_hi; mark = c.frames.mark },
      )

  at_hint : (h : Option HintState) → p.hint t.point ≡ h → Hinted h (p.save_of t.point) t u → IsInOrder p bases (At u)
  at_hint None h e = subst (λ (x : Standing). IsInOrder p bases (At x)) (sym e) (c.told (ap is_free h), c.frames)
  at_hint (Some (Set s)) h e = at_set s h e
  at_hint (Some Save) h e =
      let r = c.told (ap is_free h) in
      subst (λ (x : Standing). IsInOrder p bases (At x)) (sym e) (
        record { point = r.point; state = r.state; kept = r.kept; ended = r.ended; means = r.means; slots = r.slots },
        record {
          frames = c.frames.frames;
          below_hi = c.frames.below_hi;
          mark = record { state = r.state; kept = r.kept; ended = r.ended; means = subst (λ (x : List Frame). MeansTop r.state t.core.rsp t.core.rbp x) (sym (marked_same t.core.shadow)) r.means };
        },
      )
  at_hint (Some Restore) h e = at_restore h e

  pub landed : Lands p t u → IsInOrder p bases (At u)
  landed e = at_hint (p.hint t.point) refl e

-- a hint moves neither rsp nor the stack
module _ (t u : Standing) where
  set_stack : (s : State) → SetsState s t u → IsInStack u.core → IsInStack t.core
  set_stack (Live d m b) e h = subst (λ (x : Standing). IsInStack x.core) e.0 h
  set_stack (Ended k) e h = subst (λ (x : Standing). IsInStack x.core) e h
  set_stack (Regs full d) e h =
      let v : Core = record t.core { shadow = with_top_slot (λ _. hinted_slot full (shifted t.core.rsp d)) t.core.shadow } in
      let k : IsInStack v = subst (λ (x : Standing). IsInStack x.core) e.0 h in
      record { rbp = k.rbp; region = k.region; above_lo = k.above_lo; below_hi = k.below_hi }

  hint_stack : (h : Option HintState) (save : Option ℕ) → Hinted h save t u → IsInStack u.core → IsInStack t.core
  hint_stack None save e h = subst (λ (x : Standing). IsInStack x.core) e h
  hint_stack (Some (Set s)) save e h = set_stack s e h
  hint_stack (Some Save) save e h = subst (λ (x : Standing). IsInStack x.core) e h
  hint_stack (Some Restore) save e h = subst (λ (x : Standing). IsInStack x.core) e.after h

pub landed_stack : (p : Program) (t u : Standing) → Lands p t u → IsInStack u.core → IsInStack t.core
landed_stack p t u e h = hint_stack t u (p.hint t.point) (p.save_of t.point) e h
