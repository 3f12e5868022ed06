-- The ways in which control comes to a point.
use Rattle.std.specs.Prelude.{◌≡◌, ℕ, ◌+◌, Bool, true, false, List, slice_index_or}
use Rattle.program_check.specs.declared.access_ways.Ways.{Ways}

abbrev pub no_ways : Ways
no_ways = record { safe_on = false; safe_off = false; other_on = false; other_off = false }

-- whether control comes with this user access, and this home
abbrev pub comes : Ways → Bool → Bool → Bool
comes ways true true = ways.safe_on
comes ways false true = ways.safe_off
comes ways true false = ways.other_on
comes ways false false = ways.other_off

-- and in one way more
abbrev pub with_way : Ways → Bool → Bool → Ways
with_way ways true true = record ways { safe_on = true }
with_way ways false true = record ways { safe_off = true }
with_way ways true false = record ways { other_on = true }
with_way ways false false = record ways { other_off = true }

-- control comes with user access on, or in a safe function
abbrev pub IsOn : Ways → Type 0
IsOn ways = (home : Bool) × (comes ways true home ≡ true)

abbrev pub IsInSafe : Ways → Type 0
IsInSafe ways = (access : Bool) × (comes ways access true ≡ true)

-- in how many ways control doesn't come
abbrev pub one_if_not : Bool → ℕ
one_if_not true = 0
one_if_not false = 1

abbrev pub ways_left : Ways → ℕ
ways_left ways = one_if_not ways.safe_on + one_if_not ways.safe_off + one_if_not ways.other_on + one_if_not ways.other_off

-- the ways of a point in a list
abbrev pub ways_at : List Ways → ℕ → Ways
ways_at list q = slice_index_or list q no_ways
