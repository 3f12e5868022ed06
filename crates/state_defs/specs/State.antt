-- What is known of the stack before an instruction, and what that means.
use Rattle.std.specs.Prelude.{◌≡◌, ℕ, ◌+◌, ◌≤◌, Bool, true, false, List, [], ◌∷◌, Option, Some, None, IfSome, IsSome, IsTrue, ℤ, pos, negsuc, neg_ℤ, ◌≤ℤ◌, ◌+ℤ◌}
use Rattle.state_defs.specs.declared.state.Depth.{Depth}
use Rattle.state_defs.specs.declared.state.Depth.TheVariants.{Known, AtLeast}
use Rattle.state_defs.specs.declared.state.BpHome.{BpHome}
use Rattle.state_defs.specs.declared.state.BpHome.TheVariants.{Same, Saved}
use Rattle.state_defs.specs.declared.state.EndKind.{EndKind}
use Rattle.state_defs.specs.declared.state.State.{State}
use Rattle.state_defs.specs.declared.state.State.TheVariants.{Live, Ended, Regs}
use Rattle.state_defs.specs.Address.{shifted}
use Rattle.state_defs.specs.Frame.{Slot, Unsaved, SavedAt, PartialAt, FullAt, Frame}

-- the number in a depth
abbrev pub depth_of : Depth → ℤ
depth_of (Known n) = n
depth_of (AtLeast n) = n

-- a depth of the same kind with another number
abbrev pub with_depth : Depth → ℤ → Depth
with_depth (Known n) m = Known m
with_depth (AtLeast n) m = AtLeast m

abbrev pub is_at_least : Depth → Bool
is_at_least (Known n) = false
is_at_least (AtLeast n) = true

-- the state at a function's entry: the return address was just pushed
abbrev pub initial : State
initial = Live (Known (pos 8)) None Same

-- how the stack has ended, if it has
abbrev pub ended_by : State → Option EndKind
ended_by (Live depth fp bp) = None
ended_by (Ended kind) = Some kind
ended_by (Regs full depth) = None

-- How rsp and rbp belong to a frame's top and its caller's rbp.

-- rsp is n, or at least n, bytes below the frame's top; the sum for the latter is plain
abbrev pub MeansDepth : Depth → ℕ → ℕ → Type 0
MeansDepth (Known n) rsp cfa = rsp ≡ shifted cfa (neg_ℤ n)
MeansDepth (AtLeast n) rsp cfa = (pos rsp +ℤ n) ≤ℤ pos cfa

-- the caller's rbp is in rbp, or in the slot o bytes below the frame's top
abbrev pub MeansHome : BpHome → ℕ → ℕ → ℕ → Slot → Type 0
MeansHome Same rbp cfa bp slot = (slot ≡ Unsaved) × (rbp ≡ bp)
MeansHome (Saved o) rbp cfa bp slot = slot ≡ SavedAt (shifted cfa (neg_ℤ o))

-- A live state means a call frame: its slot is that of one.
pub record MeansLive (n : Depth) (pointer : Option ℤ) (home : BpHome) (rsp rbp : ℕ) (f : Frame) : Type 0 where
  pub depth : MeansDepth n rsp f.cfa
  pub fp : IfSome pointer (λ m. rbp ≡ shifted f.cfa (neg_ℤ m))
  pub bp : MeansHome home rbp f.cfa f.bp f.slot

-- A state over saved registers means an interrupt frame whose registers stand d bytes above rsp,
-- below the interrupted rsp. Of a full one no more than bp, at 32, may have been popped; a partial one
-- is whole, and the interrupted rbp is back in rbp. The sums are plain.
pub record MeansFull (d : ℤ) (rsp : ℕ) (f : Frame) : Type 0 where
  pub at : ℕ
  pub slot : f.slot ≡ FullAt at
  pub depth : rsp ≡ shifted at (neg_ℤ d)
  pub floor : negsuc 31 ≤ℤ d
  pub below : at + 168 ≤ f.cfa

pub record MeansPartial (d : ℤ) (rsp rbp : ℕ) (f : Frame) : Type 0 where
  pub at : ℕ
  pub slot : f.slot ≡ PartialAt at
  pub depth : rsp ≡ shifted at (neg_ℤ d)
  pub floor : pos 0 ≤ℤ d
  pub bp : rbp ≡ f.bp
  pub below : at + 40 ≤ f.cfa

-- what a state says of rsp, rbp and a frame; an ended one says nothing
abbrev pub Means : State → ℕ → ℕ → Frame → Type 0
Means (Live depth fp bp) rsp rbp f = MeansLive depth fp bp rsp rbp f
Means (Ended kind) rsp rbp f = Unit {0}
Means (Regs true depth) rsp rbp f = MeansFull depth rsp f
Means (Regs false depth) rsp rbp f = MeansPartial depth rsp rbp f

-- what a state says of a stack of frames: a live one, or one over saved registers, has a top frame
abbrev pub MeansTop : State → ℕ → ℕ → List Frame → Type 0
MeansTop (Live depth fp bp) rsp rbp [] = ⊥
MeansTop (Live depth fp bp) rsp rbp (f ∷ fs) = Means (Live depth fp bp) rsp rbp f
MeansTop (Ended kind) rsp rbp frames = Unit {0}
MeansTop (Regs full depth) rsp rbp [] = ⊥
MeansTop (Regs full depth) rsp rbp (f ∷ fs) = Means (Regs full depth) rsp rbp f

-- What holds of the numbers in every state that occurs. In a live one the return address, and the
-- slot where rbp is saved, lie between rsp and the frame's top. Where rbp is the frame's base, it
-- points at that slot; where rsp fell by a number that isn't known, rbp is the frame's base.
pub record IsConsistentLive (depth : Depth) (pointer : Option ℤ) (home : BpHome) : Type 0 where
  pub fp : (m : ℤ) → pointer ≡ Some m → home ≡ Saved m
  pub aligned : IsTrue (is_at_least depth) → IsSome pointer
  pub saved : (o : ℤ) → home ≡ Saved o → (pos 16 ≤ℤ o) × (o ≤ℤ depth_of depth)
  pub same : home ≡ Same → pos 8 ≤ℤ depth_of depth

abbrev pub IsConsistent : State → Type 0
IsConsistent (Live depth fp bp) = IsConsistentLive depth fp bp
IsConsistent (Ended kind) = Unit {0}
IsConsistent (Regs true depth) = negsuc 31 ≤ℤ depth
IsConsistent (Regs false depth) = pos 0 ≤ℤ depth
