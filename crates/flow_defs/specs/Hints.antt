-- The unwind hints of points, and the SAVE that a RESTORE means.
use Rattle.std.specs.Prelude.{ℕ, ◌==◌, ◌&&◌, ◌||◌, not, nat_lt, Bool, true, false, List, find, filter, Option, Some, None, option_and_then, if◌then◌else◌}
use Rattle.std.specs.List.{list_any}
use Rattle.flow_defs.specs.Coded.{Coded}
use Rattle.state_defs.specs.declared.state.HintState.{HintState}
use Rattle.state_defs.specs.declared.state.HintState.TheVariants.{Set, Save, Restore}
use Rattle.alternatives.specs.declared.point.Point.{Point}
use Rattle.alternatives.specs.Points.{address_of_point}
use Rattle.flow_defs.specs.Tables.{same_owner}
use Rattle.flow_defs.specs.Code.{alternatives_of, points_of_object, number_of}
use Rattle.flow_defs.specs.Owners.{owner_of_point}
pub use Rattle.flow_defs.specs.Arrival.{hint_of, own_hint_of}

abbrev pub is_save : Option HintState → Bool
is_save (Some Save) = true
is_save (Some Restore) = false
is_save (Some (Set s)) = false
is_save None = false

abbrev pub is_restore : Option HintState → Bool
is_restore (Some Restore) = true
is_restore (Some Save) = false
is_restore (Some (Set s)) = false
is_restore None = false

-- a SAVE comes before a point: it has the same owner, and runs at a lower address of the same section
abbrev pub is_save_before : Coded → Point → Point → Bool
is_save_before o point other =
    let here = address_of_point (alternatives_of o) point in
    let there = address_of_point (alternatives_of o) other in
    is_save (hint_of o other)
    && (same_owner (owner_of_point o point) (owner_of_point o other)
    && ((there.sec == here.sec) && nat_lt there.off here.off))

abbrev pub saves_before : Coded → Point → List Point
saves_before o point = filter (is_save_before o point) (points_of_object o)

-- of two, one is nearer: it runs at a greater address, or at the same one and in a lower variant
abbrev pub is_nearer : Coded → Point → Point → Bool
is_nearer o one other =
    let here = address_of_point (alternatives_of o) one in
    let there = address_of_point (alternatives_of o) other in
    nat_lt there.off here.off || ((here.off == there.off) && nat_lt one.variant other.variant)

-- the nearest of some: none is nearer
abbrev pub nearest : Coded → List Point → Option Point
nearest o points = find (λ one. not (list_any (λ other. is_nearer o other one) points)) points

-- the SAVE that a RESTORE means
unfoldable pub save_of : Coded → Point → Option ℕ
save_of o point = if is_restore (hint_of o point) then option_and_then (number_of o) (nearest o (saves_before o point)) else None
