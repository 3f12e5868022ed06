-- Places, and their order.
use Rattle.std.specs.Prelude.{ℕ, ◌+◌, ◌==◌, ◌&&◌, nat_le, nat_lt, Bool}
use Rattle.std.specs.Ordering.{nat_cmp, ordering_then, is_lt}
use Rattle.std.specs.declared.cmp.Ordering.{Ordering}
use Rattle.ot_base.specs.declared.place.Place.{Place}

-- two places are one
abbrev pub same_place : Place → Place → Bool
same_place p q = p.sec == q.sec && p.off == q.off

-- places are ordered by section, and then by offset
abbrev pub place_cmp : Place → Place → Ordering
place_cmp p q = ordering_then (nat_cmp p.sec q.sec) (nat_cmp p.off q.off)

-- a place is before another: in an earlier section, or in the same one at a lower offset
abbrev pub is_before : Place → Place → Bool
is_before p q = is_lt (place_cmp p q)

-- a place is one of so many bytes from another on
abbrev pub is_within : Place → ℕ → Place → Bool
is_within start len place = (start.sec == place.sec) && (nat_le start.off place.off && nat_lt place.off (start.off + len))
