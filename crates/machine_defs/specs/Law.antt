-- The unwinding law: an accepted program's stack can be told at every point of every run.
use Rattle.std.specs.Prelude.{◌≡◌, ℕ, ◌⊎◌, true, false, List, [], ◌∷◌, Option, Some, None, IfSome, MatchBool, All, ◌≤◌}
use Rattle.state_defs.specs.declared.state.State.{State}
use Rattle.state_defs.specs.Address.{down}
use Rattle.state_defs.specs.Region.{hi_of}
use Rattle.state_defs.specs.Frame.{Slot, is_of_call, Frame, Mark, listed, AreKept, LieAbove, with_top_slot}
use Rattle.state_defs.specs.State.{ended_by, MeansTop}
use Rattle.machine_defs.specs.Program.{Program, IsPoint, is_call}
use Rattle.machine_defs.specs.Machine.{Bases, IsPlacement, IsOutside, Standing, Machine, Wrecked, At, point_address, return_address}
use Rattle.machine_defs.specs.Run.{Run}
use Rattle.machine_defs.specs.MayReturn.{is_listed, target_may_return}
use Rattle.machine_defs.specs.Kept.{Kept}
use Rattle.machine_defs.specs.Broken.{IsAccepted}
use Rattle.machine_defs.specs.IsProgram.{IsProgram}

-- The run invariant. The point is kept; the stack has ended exactly where its state says so; a live
-- state, or one over saved registers, means rsp, rbp and the top frame; and the frames that a walk is
-- to find have their protected slots, at or above rsp, with their values.
pub record HasRunInvariant (p : Program) (s : Standing) : Type 0 where
  pub point : IsPoint p s.point
  pub state : State
  pub kept : Kept p s.point state
  pub ended : s.ended ≡ ended_by state
  pub means : MeansTop state s.core.rsp s.core.rbp s.core.shadow
  pub slots : AreKept s.core.rsp s.core.region (listed s.ended s.core.shadow)

-- The frame invariant, first part: the call that made a frame, or the point that was interrupted, is
-- kept, and its state means the frame below, where rsp and rbp are this frame's cfa and bp. The frames
-- below that a walk is to find have their slots at or above its cfa.
pub record IsCallKept (p : Program) (call : ℕ) (f : Frame) (fs : List Frame) : Type 0 where
  pub state : State
  pub kept : Kept p call state
  pub ended : f.ended_caller ≡ ended_by state
  pub means : MeansTop state f.cfa f.bp fs
  pub slots : LieAbove f.cfa (listed f.ended_caller fs)

-- Second part: past a call to which control may come back, the call may return. (It doesn't come back to a dead end or a listed
-- call; and a point where a frame stands from which no return comes needs none of this.)
abbrev pub CallReturns : Program → ℕ → ℕ → Type 0
CallReturns p call standing =
    (p.dead_end call ≡ true) ⊎ ((is_listed p call ≡ true) ⊎ ((target_may_return p call ≡ true) ⊎ (p.may_return standing ≡ false)))

-- the frames as they were at a mark
abbrev pub marked : Option Slot → List Frame → List Frame
marked None fs = []
marked (Some slot) fs = with_top_slot (λ _. slot) fs

-- Third part: the SAVE of a mark is kept, and its state means what the mark tells of the frames.
pub record IsMarkKept (p : Program) (mark : Mark) (fs : List Frame) : Type 0 where
  pub state : State
  pub kept : Kept p mark.point state
  pub ended : mark.ended ≡ ended_by state
  pub means : MeansTop state mark.rsp mark.rbp (marked mark.slot fs)

abbrev pub AreMarksKept : Program → Option Mark → List Frame → Type 0
AreMarksKept p mark fs = IfSome mark (λ m. IsMarkKept p m fs)

-- a frame goes back to where it came from: behind the call, which is one, or to the interrupted point
abbrev pub GoesBack : Program → Bases → ℕ → Slot → ℕ → Type 0
GoesBack p bases call slot ra = MatchBool (is_of_call slot) ((ra ≡ return_address p bases call) × (is_call (p.role call) ≡ true)) (ra ≡ point_address p bases call)

-- the outermost frame goes back to code outside
abbrev pub GoesOut : Program → Bases → Slot → ℕ → Type 0
GoesOut p bases slot ra = MatchBool (is_of_call slot) (IsOutside p bases (down ra 1)) (IsOutside p bases ra)

-- a frame that a call made, or an interrupt, with the point where it stands and the frames below
pub record IsInnerFrame (p : Program) (bases : Bases) (standing call : ℕ) (f : Frame) (fs : List Frame) : Type 0 where
  pub point : IsPoint p call
  pub call_kept : IsCallKept p call f fs
  pub comes_back : is_of_call f.slot ≡ true → CallReturns p call standing
  pub mark_kept : AreMarksKept p f.mark_caller fs
  pub goes_back : GoesBack p bases call f.slot f.ra

-- a frame that was there at the start: the last
pub record IsOutermostFrame (p : Program) (bases : Bases) (f : Frame) (fs : List Frame) : Type 0 where
  pub last : fs ≡ []
  pub ended : f.ended_caller ≡ None
  pub goes_out : GoesOut p bases f.slot f.ra

-- each frame is in order; the top one stands at this point, any other at the call of the one above it
pub data AreFrames (p : Program) (bases : Bases) : ℕ → List Frame → Type 0 where
  none : (standing : ℕ) → AreFrames p bases standing []
  outermost : (standing : ℕ) (f : Frame) (fs : List Frame) → f.call ≡ None → IsOutermostFrame p bases f fs → AreFrames p bases standing (f ∷ fs)
  inner : (standing call : ℕ) (f : Frame) (fs : List Frame) → f.call ≡ Some call → IsInnerFrame p bases standing call f fs → AreFrames p bases call fs
      → AreFrames p bases standing (f ∷ fs)

-- the frames and the mark are in order, and no frame ends above the stack
pub record HasFrameInvariant (p : Program) (bases : Bases) (s : Standing) : Type 0 where
  pub frames : AreFrames p bases s.point s.core.shadow
  pub below_hi : All (λ f. f.cfa ≤ hi_of s.core.region) s.core.shadow
  pub mark : AreMarksKept p s.mark s.core.shadow

-- what holds of a state of a run: both invariants, and its stack isn't wrecked
abbrev pub IsInOrder : Program → Bases → Machine → Type 0
IsInOrder p bases Wrecked = ⊥
IsInOrder p bases (At s) = HasRunInvariant p s × HasFrameInvariant p bases s

-- In every accepted program, wherever it is placed, every state of every run is in order.
abbrev pub UnwindingLaw : Type 0
UnwindingLaw =
    (p : Program) (bases : Bases) → IsProgram p → IsPlacement p bases → IsAccepted p
    → (m : Machine) → Run p bases m → IsInOrder p bases m

-- The walk law, in table_defs, follows from it: a table that has the row of the kept state at the address of each
-- point to which runs come, and of a call also at its last byte, walks in each state of each run to exactly `frames`.
