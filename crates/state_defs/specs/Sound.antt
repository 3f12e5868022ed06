-- What a move promises of the machine.
use Rattle.std.specs.Prelude.{◌≡◌, List, ◌∷◌, None, Ok, ◌≤◌}
use Rattle.operation_defs.specs.declared.op.Op.{Op}
use Rattle.state_defs.specs.declared.state.State.{State}
use Rattle.state_defs.specs.Region.{hi_of}
use Rattle.state_defs.specs.Frame.{Frame, listed, AreKept, LieAbove}
use Rattle.state_defs.specs.Effect.{Core, IsInStack, HasSignedNumber, Effect}
use Rattle.state_defs.specs.State.{ended_by, IsConsistent, Means}
use Rattle.state_defs.specs.Move.{move}

-- A state is true of registers and memory whose top frame is f, over the frames below: it means them;
-- the top frame ends in the stack; its protected slots lie at or above rsp and hold their values; those
-- of the frames below it that a walk is to find lie at or above its top, and hold theirs.
pub record IsTold (s : State) (core : Core) (f : Frame) (below : List Frame) : Type 0 where
  pub frames : core.shadow ≡ f ∷ below
  pub means : Means s core.rsp core.rbp f
  pub top : f.cfa ≤ hi_of core.region
  pub kept : AreKept core.rsp core.region (f ∷ listed f.ended_caller below)
  pub above : LieAbove f.cfa (listed f.ended_caller below)

-- nothing in a frame but its slot has changed
pub record IsSameFrame (before after : Frame) : Type 0 where
  pub same : after ≡ record before { slot = after.slot }

-- Moves are sound: from registers and memory that a consistent state is true of, in a stack that no
-- hint has ended, each effect of an operation that stays in the stack ends in ones that the moved state
-- is true of. The frames below are as they were, and so is the top frame but for its slot.
abbrev pub MoveIsSound : Type 0
MoveIsSound =
    (s t : State) (op : Op) (before after : Core) (f : Frame) (below : List Frame)
    → IsConsistent s → ended_by s ≡ None → HasSignedNumber op → move s op ≡ Ok t
    → IsInStack before → IsTold s before f below → Effect op before after → IsInStack after
    → (g : Frame) × IsSameFrame f g × IsTold t after g below

-- a move keeps states consistent, and from ended to ended
abbrev pub MoveIsConsistent : Type 0
MoveIsConsistent = (s t : State) (op : Op) → IsConsistent s → move s op ≡ Ok t → IsConsistent t × (ended_by t ≡ ended_by s)
