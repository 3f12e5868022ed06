-- Worked moves and rows: the states of the code 55 48 89 E5 5D C3 (push rbp; mov rsp to rbp; pop rbp;
-- ret), and of code over saved registers.
use Rattle.std.specs.Prelude.{◌≡◌, true, false, [], ◌∷◌, Some, None, Ok, Err, pos, negsuc}
use Rattle.ot_base.specs.declared.rules.TheConstants.{MODIFIED_RETURN, UNSUPPORTED_SP_WRITE, BP_NOT_SAVED, STACK_POINTER_LOST, OFFSET_OUT_OF_RANGE, SAVED_SLOT_DROPPED, EXIT_NOT_ALLOWED}
use Rattle.ot_base.specs.declared.codes.TheConstants.{REG_UNDEFINED, REG_PREV_SP, REG_BP, REG_SP, KIND_CALL, KIND_REGS_PARTIAL}
use Rattle.operation_defs.specs.declared.op.Op.TheVariants.{PushBp, Pop, PopBp, LeaBpSp, LeaBpRoom, SubSp, SpReg, BpOther, AddSp, Leave, Hop, IretNext}
use Rattle.state_defs.specs.declared.state.Depth.TheVariants.{Known, AtLeast}
use Rattle.state_defs.specs.declared.state.BpHome.TheVariants.{Same, Saved}
use Rattle.state_defs.specs.declared.state.State.TheVariants.{Live, Regs}
use Rattle.state_defs.specs.State.{initial}
use Rattle.state_defs.specs.Move.{move}
use Rattle.state_defs.specs.Row.{row_of, unfit_offset}
use Rattle.state_defs.specs.Order.{least}
use Rattle.state_defs.specs.Rules.{return_rule, iret_rule}

pub record HasWorkedMoves : Type 0 where
  -- a function with a frame pointer
  pub push_bp : move initial PushBp ≡ Ok (Live (Known (pos 16)) None (Saved (pos 16)))
  pub set_bp : move (Live (Known (pos 16)) None (Saved (pos 16))) (LeaBpSp (pos 0)) ≡ Ok (Live (Known (pos 16)) (Some (pos 16)) (Saved (pos 16)))
  -- rbp that points elsewhere isn't the frame's base
  pub set_bp_elsewhere : move (Live (Known (pos 24)) None (Saved (pos 16))) (LeaBpSp (pos 0)) ≡ Ok (Live (Known (pos 24)) None (Saved (pos 16)))
  pub set_bp_from_below : move (Live (Known (pos 24)) None (Saved (pos 16))) (LeaBpSp (pos 8)) ≡ Ok (Live (Known (pos 24)) (Some (pos 16)) (Saved (pos 16)))
  pub pop_bp : move (Live (Known (pos 16)) (Some (pos 16)) (Saved (pos 16))) PopBp ≡ Ok initial
  -- the return address mustn't be popped, and rbp not be written before it is saved
  pub pop_ra : move initial Pop ≡ Err STACK_POINTER_LOST
  pub clobbered : move initial BpOther ≡ Err BP_NOT_SAVED
  pub slot_dropped : move (Live (Known (pos 16)) None (Saved (pos 16))) Pop ≡ Err SAVED_SLOT_DROPPED
  pub too_deep : move initial (AddSp (negsuc 1073741823)) ≡ Err OFFSET_OUT_OF_RANGE
  -- no slot is made up for a state that doesn't occur
  pub leaves_unsaved : move (Live (Known (pos 24)) (Some (pos 24)) Same) Leave ≡ Err SAVED_SLOT_DROPPED
  -- five words are pushed, then an iret goes on behind itself
  pub iret_next : move (Live (Known (pos 48)) None Same) IretNext ≡ Ok initial
  pub iret_too_high : move (Live (Known (pos 40)) None Same) IretNext ≡ Err EXIT_NOT_ALLOWED
  -- a call within the function is a push
  pub hop : move initial Hop ≡ Ok (Live (Known (pos 16)) None Same)
  pub regs_hop : move (Regs false (pos 0)) Hop ≡ Ok (Regs false (pos 8))
  -- room is made under a frame's base, and leave undoes it; where room is made rbp is set as the base over it
  pub room : move (Live (Known (pos 24)) (Some (pos 16)) (Saved (pos 16))) SubSp ≡ Ok (Live (AtLeast (pos 24)) (Some (pos 16)) (Saved (pos 16)))
  pub room_by_register : move (Live (AtLeast (pos 24)) (Some (pos 16)) (Saved (pos 16))) SpReg ≡ Ok (Live (AtLeast (pos 24)) (Some (pos 16)) (Saved (pos 16)))
  pub room_without_base : move (Live (Known (pos 24)) None (Saved (pos 16))) SubSp ≡ Err UNSUPPORTED_SP_WRITE
  pub room_over_regs : move (Regs true (pos 0)) SpReg ≡ Err UNSUPPORTED_SP_WRITE
  pub set_bp_over_room : move (Live (Known (pos 16)) None (Saved (pos 16))) (LeaBpRoom (pos 0)) ≡ Ok (Live (AtLeast (pos 16)) (Some (pos 16)) (Saved (pos 16)))
  pub set_bp_elsewhere_over_room : move (Live (Known (pos 24)) None (Saved (pos 16))) (LeaBpRoom (pos 0)) ≡ Ok (Live (Known (pos 24)) None (Saved (pos 16)))
  pub leaves_room : move (Live (AtLeast (pos 24)) (Some (pos 16)) (Saved (pos 16))) Leave ≡ Ok initial
  -- bp is popped from a pt_regs: ip is 88 bytes above
  pub regs_pop_bp : move (Regs true (negsuc 31)) PopBp ≡ Ok (Regs false (pos 88))
  pub regs_pop_ip : move (Regs false (pos 0)) Pop ≡ Err SAVED_SLOT_DROPPED

pub record HasWorkedRows : Type 0 where
  pub framed : row_of (Live (Known (pos 40)) (Some (pos 16)) (Saved (pos 16))) ≡ record { sp_offset = pos 16; bp_offset = negsuc 15; sp_reg = REG_BP; bp_reg = REG_PREV_SP; kind = KIND_CALL; signal = false }
  pub partial : row_of (Regs false (pos 8)) ≡ record { sp_offset = pos 8; bp_offset = pos 0; sp_reg = REG_SP; bp_reg = REG_UNDEFINED; kind = KIND_REGS_PARTIAL; signal = true }
  pub too_far : unfit_offset (Live (Known (pos 40008)) None Same) ≡ Some (pos 40008)
  pub returns : return_rule initial ≡ None
  pub returns_deep : return_rule (Live (Known (pos 16)) None Same) ≡ Some MODIFIED_RETURN
  pub iret : iret_rule (Regs false (pos 0)) ≡ None
  -- of two depths the lesser one's state is kept, in whichever order they come
  pub least_is_first : least (initial ∷ Live (Known (pos 16)) None Same ∷ []) ≡ Some initial
  pub least_is_last : least (Live (Known (pos 16)) None Same ∷ initial ∷ []) ≡ Some initial
