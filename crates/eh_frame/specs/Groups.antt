-- Numbers of variable length, LEB128 (DWARF 4, section 7.6): groups of seven bits, a group a byte, the lowest group first, and
-- bit 7 set in each byte but the last.
use Rattle.std.specs.Prelude.{ℕ, ◌+◌, ◌-◌, ◌*◌, ◌/◌, ◌%◌, ◌<◌, ◌≤◌, Bool, true, false, List, [], ◌∷◌, nat_lt, if◌then◌else◌, ℤ, pos, negsuc}

-- A group of seven bits: as it is, or, in a number below zero, each bit turned over.
abbrev pub group : Bool → ℕ → ℕ
group false bits = bits
group true bits = 127 - bits

-- The shortest spelling of a number in groups. The last group is below a limit, which leaves bit 6 for the sign or doesn't; and
-- a number below the limit has no further group.
pub data Groups (limit : ℕ) (turned : Bool) : ℕ → List ℕ → Type 0 where
  last : (n : ℕ) → n < limit → Groups limit turned n (group turned n ∷ [])
  more : (low high : ℕ) (bytes : List ℕ) → low < 128 → limit ≤ low + 128 * high → Groups limit turned high bytes → Groups limit turned (low + 128 * high) ((128 + group turned low) ∷ bytes)

-- unsigned: all seven bits of the last group are the number's
abbrev pub IsUleb : ℕ → List ℕ → Type 0
IsUleb = Groups 128 false

-- signed, in two's complement: bit 6 of the last group is the sign, and -1 - n has the bits of n turned over
abbrev pub IsSleb : ℤ → List ℕ → Type 0
IsSleb (pos n) = Groups 64 false n
IsSleb (negsuc n) = Groups 64 true n

-- the groups of a number that three bytes hold
unfoldable pub in_groups : ℕ → ℕ → List ℕ
in_groups limit n =
    if nat_lt n limit
    then n ∷ []
    else (if nat_lt n (limit * 128)
    then (128 + n % 128) ∷ n / 128 ∷ []
    else (128 + n % 128) ∷ (128 + n / 128 % 128) ∷ n / 16384 ∷ [])
