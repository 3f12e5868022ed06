-- What the model's hints find true where the machine stands.
use Rattle.std.specs.Prelude.{◌≡◌, Bool, ℤ, None, option_map}
use Rattle.state_defs.specs.declared.state.State.{State}
use Rattle.state_defs.specs.Address.{shifted}
use Rattle.state_defs.specs.Frame.{top_slot, with_top_slot}
use Rattle.state_defs.specs.State.{MeansTop}
use Rattle.machine_defs.specs.Machine.{Standing as DefinedStanding}
use Rattle.machine_defs.specs.Hint.{KeepsSlots, hinted_slot}
use Rattle.machine_model.specs.declared.frame.Mark.{Mark}
use Rattle.machine_model.specs.declared.standing.Standing.{Standing}
use Rattle.machine_model.specs.Slot.{slot_of}
use Rattle.machine_model.specs.Frame.{frames_of}
use Rattle.machine_model.specs.Standing.{standing_of}

-- the frames that a walk is to find keep their protected slots
pub record IsKeptAt (s t : Standing) : Type 0 where
  pub same : t ≡ s
  pub slots : KeepsSlots (standing_of s)

-- and the state is true
pub record IsToldAt (state : State) (s t : Standing) : Type 0 where
  pub same : t ≡ s
  pub means : MeansTop state s.core.rsp s.core.rbp (frames_of s.core.shadow.items)
  pub slots : KeepsSlots (standing_of s)

-- rsp, rbp and the top frame's slot are what they were at a mark
pub record IsAtMark (s : Standing) (mark : Mark) : Type 0 where
  pub rsp : s.core.rsp ≡ mark.rsp
  pub rbp : s.core.rbp ≡ mark.rbp
  pub slot : top_slot (frames_of s.core.shadow.items) ≡ option_map slot_of mark.slot

-- with the top frame's slot set where a hint says that saved registers stand, on a stack that hasn't ended
abbrev pub with_regs : Bool → ℤ → DefinedStanding → DefinedStanding
with_regs full depth s = record s { core = record s.core { shadow = with_top_slot (λ _. hinted_slot full (shifted s.core.rsp depth)) s.core.shadow }; ended = None }
