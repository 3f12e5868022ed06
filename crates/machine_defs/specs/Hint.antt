-- What unwind hints say, when they are true, and what they do.
use Rattle.std.specs.Prelude.{◌≡◌, ℕ, Bool, false, List, [], ◌∷◌, Option, Some, None, if◌then◌else◌}
use Rattle.state_defs.specs.declared.state.State.{State}
use Rattle.state_defs.specs.declared.state.State.TheVariants.{Live, Ended, Regs}
use Rattle.state_defs.specs.declared.state.HintState.{HintState}
use Rattle.state_defs.specs.declared.state.HintState.TheVariants.{Set, Save, Restore}
use Rattle.state_defs.specs.Address.{shifted}
use Rattle.state_defs.specs.Frame.{Slot, PartialAt, FullAt, is_of_call, Frame, Mark, top_slot, listed, AreKept, with_top_slot}
use Rattle.state_defs.specs.State.{MeansTop}
use Rattle.machine_defs.specs.Program.{Program}
use Rattle.machine_defs.specs.Machine.{Standing}

-- the frames that a walk is to find keep their protected slots
abbrev pub KeepsSlots : Standing → Type 0
KeepsSlots s = AreKept s.core.rsp s.core.region (listed s.ended s.core.shadow)

-- the top frame is an interrupt's
abbrev pub IsInInterrupt : List Frame → Type 0
IsInInterrupt [] = ⊥
IsInInterrupt (f ∷ fs) = is_of_call f.slot ≡ false

-- where a hint says that saved registers stand
abbrev pub hinted_slot : Bool → ℕ → Slot
hinted_slot full address = if full then FullAt address else PartialAt address

-- what rsp, rbp, the top frame's slot and the end of the stack are here
abbrev pub mark_at : Standing → Mark
mark_at s = record { point = s.point; rsp = s.core.rsp; rbp = s.core.rbp; slot = top_slot s.core.shadow; ended = s.ended }

-- a hint's state is true where it is what rsp, rbp and the frames mean; of saved registers, with the
-- top frame's slot set where the hint says
abbrev pub SetsState : State → Standing → Standing → Type 0
SetsState (Live depth fp bp) s t =
    (t ≡ record s { ended = None }) × MeansTop (Live depth fp bp) s.core.rsp s.core.rbp s.core.shadow × KeepsSlots t
SetsState (Ended kind) s t = t ≡ record s { ended = Some kind }
SetsState (Regs full depth) s t =
    (t ≡ record s { core = record s.core { shadow = with_top_slot (λ _. hinted_slot full (shifted s.core.rsp depth)) s.core.shadow }; ended = None })
    × IsInInterrupt s.core.shadow
    × MeansTop (Regs full depth) t.core.rsp t.core.rbp t.core.shadow
    × KeepsSlots t

-- a RESTORE is true where the last SAVE is the one that it means, and rsp, rbp and the top frame's
-- slot are what they were there
pub record Restores (save : Option ℕ) (s t : Standing) : Type 0 where
  pub mark : Mark
  pub last : s.mark ≡ Some mark
  pub meant : save ≡ Some mark.point
  pub rsp : s.core.rsp ≡ mark.rsp
  pub rbp : s.core.rbp ≡ mark.rbp
  pub slot : top_slot s.core.shadow ≡ mark.slot
  pub after : t ≡ record s { ended = mark.ended }
  pub slots : KeepsSlots t

-- The machine has come to a point, and the hint there, if there is one, is true and does its work:
-- from the state before the hint to the one after it.
abbrev pub Hinted : Option HintState → Option ℕ → Standing → Standing → Type 0
Hinted None save s t = t ≡ s
Hinted (Some (Set state)) save s t = SetsState state s t
Hinted (Some Save) save s t = t ≡ record s { mark = Some (mark_at s) }
Hinted (Some Restore) save s t = Restores save s t

abbrev pub Lands : Program → Standing → Standing → Type 0
Lands p s t = Hinted (p.hint s.point) (p.save_of s.point) s t
