-- Points from which control goes straight on.
use Rattle.std.specs.Prelude.{◌≡◌, ◌+◌, ◌<◌, ◌&&◌, not, is_some, nat_lt, ℕ, Bool, true, false, [], ◌∷◌, length}
use Rattle.ot_base.specs.declared.place.Place.{Place}
use Rattle.operation_defs.specs.declared.op.Op.{Op}
use Rattle.operation_defs.specs.declared.op.Op.TheVariants.{Call, CallInd, Hop, Jmp, Jcc, JmpInd, Ret, RetImm, Iret, Switch, Ud2}
use Rattle.flow_defs.specs.Coded.{Coded}
use Rattle.flow_defs.specs.Marks.{has_relocated_offset}
use Rattle.alternatives.specs.declared.point.Point.{Point}
use Rattle.alternatives.specs.Texts.{behind}
use Rattle.flow_defs.specs.Arrival.{after, decoded_insn, insn_of_object, is_at_end, is_short_nop, place_behind}
use Rattle.flow_defs.specs.Roles.{table_of_point}
use Rattle.flow_defs.specs.Code.{alternatives_of, is_plain, plain_point, point_at, points_of_object, same_point}
use Rattle.flow_defs.specs.Sites.{site_holding}
use Rattle.object_points.specs.Places.{is_among}
use Rattle.point_arrivals.specs.Lists.{original_places_of}
use Rattle.point_arrivals.specs.Marks.{is_listed}

-- an operation that neither calls, jumps nor returns, neither leaves the code nor stops
abbrev pub is_straight_op : Op → Bool
is_straight_op (Call rel) = false
is_straight_op CallInd = false
is_straight_op Hop = false
is_straight_op (Jmp rel wide) = false
is_straight_op (Jcc rel wide) = false
is_straight_op (JmpInd table) = false
is_straight_op Ret = false
is_straight_op RetImm = false
is_straight_op Iret = false
is_straight_op Switch = false
is_straight_op Ud2 = false
is_straight_op _ = true

-- the point with the next number is the plain one at a place
abbrev pub is_next_at : Coded → ℕ → Place → Bool
is_next_at o n place = nat_lt (n + 1) (length (points_of_object o)) && same_point (point_at o (n + 1)) (plain_point place)

-- where the instruction of the point with a number ends
abbrev pub end_of : Coded → ℕ → Place
end_of o n = let p = point_at o n in behind p.place (decoded_insn o p).len

-- the point with a number is plain, its operation is straight, and no relocation changes a number of the stack there
abbrev pub is_straight_insn : Coded → ℕ → Bool
is_straight_insn o n =
    let p = point_at o n in
    is_plain p && (is_straight_op (decoded_insn o p).op && not (has_relocated_offset o p (decoded_insn o p)))

-- a run of no-ops may begin at a point: it is one of the single byte 90, in a site
abbrev pub may_begin_run : Coded → Point → Bool
may_begin_run o p = is_short_nop (decoded_insn o p) && is_some (site_holding o p.place)

-- the plain point where it ends has the next number, and no site starts there
abbrev pub is_before_next : Coded → ℕ → Bool
is_before_next o n = is_next_at o n (end_of o n) && not (is_among (original_places_of (alternatives_of o)) (end_of o n))

-- it is plain, begins no run of no-ops, and is right before the next
abbrev pub ends_at_next : Coded → ℕ → Bool
ends_at_next o n = is_plain (point_at o n) && (not (may_begin_run o (point_at o n)) && is_before_next o n)

-- its instruction is straight, it begins no run of no-ops, and is right before the next
abbrev pub goes_straight : Coded → ℕ → Bool
goes_straight o n = is_straight_insn o n && (not (may_begin_run o (point_at o n)) && is_before_next o n)

-- besides, no list says anything of it: control goes straight on
abbrev pub is_straight : Coded → ℕ → Bool
is_straight o n = not (is_listed o (point_at o n)) && goes_straight o n

-- What is so where control goes straight on from the point with a number: it is plain, its operation in the program is
-- straight, it has no jump table, no relocation changes a number of the stack there, no list says anything of it, control comes
-- behind it where it ends, and the plain point there, which has the next number, alone follows it.
pub record IsStraight (o : Coded) (n : ℕ) : Type 0 where
  pub plain : is_plain (point_at o n) ≡ true
  pub straight : is_straight_op (insn_of_object o (point_at o n)).op ≡ true
  pub tableless : table_of_point o (point_at o n) ≡ []
  pub unrelocated : has_relocated_offset o (point_at o n) (insn_of_object o (point_at o n)) ≡ false
  pub unlisted : is_listed o (point_at o n) ≡ false
  pub inside : n + 1 < length (points_of_object o)
  pub ends : place_behind o (point_at o n) ≡ end_of o n
  pub next : point_at o (n + 1) ≡ plain_point (place_behind o (point_at o n))
  pub follows : after o (point_at o n) ≡ (n + 1) ∷ []
  pub goes_on : is_at_end o (point_at o n) ≡ false
