-- How the frames of a state stay in order.
use Rattle.std.proofs.Common.{◌≡◌, ℕ, ◌≤◌, Bool, true, false, List, [], ◌∷◌, Option, Some, None, MatchBool, All, refl, sym, ◌∙◌, subst, inl, inr}
use Rattle.std.proofs.lemmas.List.Elements.{All-nil, All-cons, All-head, All-tail}
use Rattle.state_defs.specs.declared.state.State.{State}
use Rattle.state_defs.specs.declared.state.State.TheVariants.{Live, Ended, Regs}
use Rattle.state_defs.specs.Address.{down}
use Rattle.state_defs.specs.Region.{hi_of}
use Rattle.state_defs.specs.Frame.{Slot, Frame, Mark, listed, LieAbove, top_slot}
use Rattle.state_defs.specs.State.{ended_by, Means, MeansTop}
use Rattle.machine_defs.specs.Program.{Program, IsPoint, is_call}
use Rattle.machine_defs.specs.Machine.{Bases, Standing, IsOutside, point_address, return_address}
use Rattle.machine_defs.specs.MayReturn.{MayReturn}
use Rattle.machine_defs.specs.IsProgram.{IsProgram}
use Rattle.machine_defs.specs.Law.{IsCallKept, CallReturns, marked, AreMarksKept, AreFrames, HasFrameInvariant}
use Rattle.machine_defs.specs.Law as law
use Rattle.unwinding_law.proofs.Shadow.{IsSlotChange, no_frame, top}

-- a state that isn't ended has a top frame, which it means
pub record HasTop (s : State) (rsp rbp : ℕ) (frames : List Frame) : Type 0 where
  pub frame : Frame
  pub below : List Frame
  pub is : frames ≡ frame ∷ below
  pub means : Means s rsp rbp frame

pub has_top : (s : State) (rsp rbp : ℕ) (frames : List Frame) → ended_by s ≡ None → MeansTop s rsp rbp frames → HasTop s rsp rbp frames
has_top (Live d m b) rsp rbp [] e h = absurd h
has_top (Live d m b) rsp rbp (f ∷ fs) e h = record { frame = f; below = fs; is = refl; means = h }
has_top (Ended k) rsp rbp fs e h = absurd (let k : ⊥ = cc in k)
has_top (Regs full d) rsp rbp [] e h = absurd h
has_top (Regs full d) rsp rbp (f ∷ fs) e h = record { frame = f; below = fs; is = refl; means = h }

pub means_top : (s : State) (rsp rbp : ℕ) (f : Frame) (fs : List Frame) → Means s rsp rbp f → MeansTop s rsp rbp (f ∷ fs)
means_top (Live d m b) rsp rbp f fs h = h
means_top (Ended k) rsp rbp f fs h = tt
means_top (Regs full d) rsp rbp f fs h = h

-- setting the top slot to what it is changes nothing
pub marked_same : (frames : List Frame) → marked (top_slot frames) frames ≡ frames
marked_same [] = refl
marked_same (f ∷ fs) = refl

module _ (p : Program) (bases : Bases) where
  returns_elsewhere : (call a b : ℕ) → (p.may_return a ≡ false → p.may_return b ≡ false) → CallReturns p call a → CallReturns p call b
  returns_elsewhere call a b f (inl h) = inl h
  returns_elsewhere call a b f (inr (inl h)) = inr (inl h)
  returns_elsewhere call a b f (inr (inr h)) = inr (inr (elim h [ inl k ↦ inl k | inr k ↦ inr (f k) ]))

  -- the frames stay in order where the top one stands at another point
  pub frames_elsewhere : (a b : ℕ) (fs : List Frame) → (p.may_return a ≡ false → p.may_return b ≡ false) → AreFrames p bases a fs → AreFrames p bases b fs
  frames_elsewhere a b fs f (law.none at) = law.none b
  frames_elsewhere a b fs f (law.outermost at g rest call h) = law.outermost b g rest call h
  frames_elsewhere a b fs f (law.inner at from g rest call h below) =
      law.inner b from g rest call (record { point = h.point; call_kept = h.call_kept; comes_back = λ k. returns_elsewhere from a b f (h.comes_back k); mark_kept = h.mark_kept; goes_back = h.goes_back }) below

  -- and where its slot changes
  same_call : (call : ℕ) (f : Frame) (slot : Slot) (fs : List Frame) → IsCallKept p call f fs → IsCallKept p call (record f { slot = slot }) fs
  same_call call f slot fs k = record { state = k.state; kept = k.kept; ended = k.ended; means = k.means; slots = k.slots }

  pub frames_changed : (q : ℕ) (fs gs : List Frame) → IsSlotChange fs gs → AreFrames p bases q fs → AreFrames p bases q gs
  frames_changed q fs gs no_frame h = law.none q
  frames_changed q fs gs (top f rest slot e) (law.outermost at g others call h) =
      law.outermost q (record f { slot = slot }) rest call (record { last = h.last; ended = h.ended; goes_out = subst (λ (b : Bool). MatchBool b (IsOutside p bases (down f.ra 1)) (IsOutside p bases f.ra)) (sym e) h.goes_out })
  frames_changed q fs gs (top f rest slot e) (law.inner at from g others call h below) =
      law.inner q from (record f { slot = slot }) rest call (record {
        point = h.point;
        call_kept = same_call from f slot rest h.call_kept;
        comes_back = λ k. h.comes_back (sym e ∙ k);
        mark_kept = h.mark_kept;
        goes_back = subst (λ (b : Bool). MatchBool b ((f.ra ≡ return_address p bases from) × (is_call (p.role from) ≡ true)) (f.ra ≡ point_address p bases from)) (sym e) h.goes_back;
      }) below

  marked_changed : (slot : Option Slot) (fs gs : List Frame) → IsSlotChange fs gs → marked slot gs ≡ marked slot fs
  marked_changed None fs gs c = refl
  marked_changed (Some slot) fs gs no_frame = refl
  marked_changed (Some slot) fs gs (top f rest s e) = refl

  pub marks_changed : (mark : Option Mark) (fs gs : List Frame) → IsSlotChange fs gs → AreMarksKept p mark fs → AreMarksKept p mark gs
  marks_changed None fs gs c h = tt
  marks_changed (Some m) fs gs c h = record { state = h.state; kept = h.kept; ended = h.ended; means = subst (λ (x : List Frame). MeansTop h.state m.rsp m.rbp x) (sym (marked_changed m.slot fs gs c)) h.means }

  below_changed : (hi : ℕ) (fs gs : List Frame) → IsSlotChange fs gs → All (λ f. f.cfa ≤ hi) fs → All (λ f. f.cfa ≤ hi) gs
  below_changed hi fs gs no_frame h = h
  below_changed hi fs gs (top f rest s e) h = All-cons (λ f. f.cfa ≤ hi) (record f { slot = s }) rest (All-head (λ f. f.cfa ≤ hi) f rest h) (All-tail (λ f. f.cfa ≤ hi) f rest h)

  -- the frame invariant goes on from state to state
  pub frame_invariant : (s t : Standing) → IsSlotChange s.core.shadow t.core.shadow → hi_of t.core.region ≡ hi_of s.core.region → t.mark ≡ s.mark → (p.may_return s.point ≡ false → p.may_return t.point ≡ false) → HasFrameInvariant p bases s → HasFrameInvariant p bases t
  frame_invariant s t c hi mark f h = record {
    frames = frames_elsewhere s.point t.point t.core.shadow f (frames_changed s.point s.core.shadow t.core.shadow c h.frames);
    below_hi = subst (λ (x : ℕ). All (λ f. f.cfa ≤ x) t.core.shadow) (sym hi) (below_changed (hi_of s.core.region) s.core.shadow t.core.shadow c h.below_hi);
    mark = subst (λ (x : Option Mark). AreMarksKept p x t.core.shadow) (sym mark) (marks_changed s.mark s.core.shadow t.core.shadow c h.mark);
  }

  -- where a return may come only from there, it may not come from here
  pub stays_out : IsProgram p → (a b : ℕ) → IsPoint p a → IsPoint p b → (MayReturn p b → MayReturn p a) → p.may_return a ≡ false → p.may_return b ≡ false
  stays_out is a b pa pb f h = go (p.may_return b) refl
    where
      go : (x : Bool) → p.may_return b ≡ x → p.may_return b ≡ false
      go true e = let k : p.may_return a ≡ true = (is.may_return a pa).1 (f ((is.may_return b pb).0 e)) in absurd (let m : ⊥ = cc in m)
      go false e = e

-- the frames below the top one that a walk is to find lie above it
pub top_above : (p : Program) (bases : Bases) (q : ℕ) (f : Frame) (fs : List Frame) → AreFrames p bases q (f ∷ fs) → LieAbove f.cfa (listed f.ended_caller fs)
top_above p bases q f fs (law.outermost at g rest call h) = subst (λ (x : List Frame). LieAbove f.cfa (listed f.ended_caller x)) (sym h.last) (none f.ended_caller)
  where
    none : (e : Option _) → LieAbove f.cfa (listed e [])
    none None = All-nil (λ slot. f.cfa ≤ slot.at)
    none (Some k) = All-nil (λ slot. f.cfa ≤ slot.at)
top_above p bases q f fs (law.inner at from g rest call h below) = h.call_kept.slots
