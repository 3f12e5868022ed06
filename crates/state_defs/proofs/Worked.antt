-- The worked moves and rows come out by computing.
use Rattle.std.proofs.Common.{refl}
use Rattle.state_defs.specs.Worked.{HasWorkedMoves, HasWorkedRows}

pub worked_moves : HasWorkedMoves
worked_moves = record {
  push_bp = refl;
  set_bp = refl;
  set_bp_elsewhere = refl;
  set_bp_from_below = refl;
  pop_bp = refl;
  pop_ra = refl;
  clobbered = refl;
  slot_dropped = refl;
  too_deep = refl;
  leaves_unsaved = refl;
  iret_next = refl;
  iret_too_high = refl;
  hop = refl;
  regs_hop = refl;
  room = refl;
  room_by_register = refl;
  room_without_base = refl;
  room_over_regs = refl;
  set_bp_over_room = refl;
  set_bp_elsewhere_over_room = refl;
  leaves_room = refl;
  regs_pop_bp = refl;
  regs_pop_ip = refl;
}

pub worked_rows : HasWorkedRows
worked_rows = record {
  framed = refl;
  partial = refl;
  too_far = refl;
  returns = refl;
  returns_deep = refl;
  iret = refl;
  least_is_first = refl;
  least_is_last = refl;
}
