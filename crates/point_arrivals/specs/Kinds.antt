-- Kinds of points.
use Rattle.std.specs.Prelude.{◌≡◌, ◌<◌, ℕ, Bool, true, false, List, length, slice_index_or, if◌then◌else◌}
use Rattle.flow_defs.specs.Coded.{Coded}
use Rattle.flow_defs.specs.Code.{point_at}
use Rattle.point_arrivals.specs.Marks.{is_listed}
use Rattle.point_arrivals.specs.Straight.{ends_at_next, is_straight_insn}
use Rattle.point_arrivals.specs.declared.course.Course.{Course}
use Rattle.point_arrivals.specs.declared.course.Course.TheVariants as course
use Rattle.point_arrivals.specs.declared.kind.Kind.{Kind}
use Rattle.point_arrivals.specs.declared.kind.Kind.TheVariants.{Straight, Followed, Unlisted, Listed}

-- of which kind the point with a number is
abbrev pub kind_of : Coded → ℕ → Kind
kind_of o n =
    if is_listed o (point_at o n) then Listed
    else if ends_at_next o n then (if is_straight_insn o n then Straight else Followed)
    else Unlisted

abbrev pub is_straight_kind : Kind → Bool
is_straight_kind Straight = true
is_straight_kind _ = false

abbrev pub is_followed_kind : Kind → Bool
is_followed_kind Straight = true
is_followed_kind Followed = true
is_followed_kind _ = false

abbrev pub is_listed_kind : Kind → Bool
is_listed_kind Listed = true
is_listed_kind _ = false

-- that of a point with a course, where the next one alone follows it and no list says anything of it
abbrev pub IsFollowedKind : Course → Kind → Type 0
IsFollowedKind course.Straight kind = kind ≡ Straight
IsFollowedKind course.Idle kind = kind ≡ Straight
IsFollowedKind course.Turn kind = kind ≡ Followed
IsFollowedKind _ kind = ⊥

-- those of the first points
pub record AreKinds (o : Coded) (kinds : List Kind) (n : ℕ) : Type 0 where
  pub each : length kinds ≡ n
  pub told : (k : ℕ) → k < n → slice_index_or kinds k Listed ≡ kind_of o k
