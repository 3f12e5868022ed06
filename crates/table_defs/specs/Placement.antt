-- Where the text sections of an object lie in memory.
use Rattle.std.specs.Prelude.{ℕ, ◌+◌, ◌^◌, ◌<◌, Bool, ◌&&◌, List, map, Option, option_map, find, All, AllPairs, IsPermutation, IsTrue, ◌==◌, nat_le, nat_lt}
use Rattle.std.specs.List.{list_any}
use Rattle.ot_base.specs.declared.place.Place.{Place}
pub use Rattle.ot_base.specs.Section.{TextSection}
use Rattle.table_defs.specs.declared.range.Range.{Range}

-- the section that lies in a range
abbrev pub section_in : Range → TextSection
section_in range = record { sec = range.sec; size = range.size }

-- whether an address is that of one of the range's bytes
abbrev pub covers : Range → ℕ → Bool
covers range address = nat_le range.base address && nat_lt address (range.base + range.size)

-- whether some placed section has a byte at the address
abbrev pub is_inside : List Range → ℕ → Bool
is_inside ranges address = list_any (λ range. covers range address) ranges

-- the ranges are one for each of the text sections, in any order
pub record IsPlacement (texts : List TextSection) (ranges : List Range) : Type 0 where
  pub sections : IsPermutation texts (map section_in ranges)
  -- the address right behind a range is still a 64-bit number
  pub in_memory : All (λ range. range.base + range.size < 2 ^ 64) ranges
  -- no two ranges share an address
  pub apart : AllPairs (λ one other. (address : ℕ) → IsTrue (covers one address) → IsTrue (covers other address) → ⊥) ranges

-- the address of a place: its section's base and its offset, where that section is placed
abbrev pub address_of : List Range → Place → Option ℕ
address_of ranges place = option_map (λ range. range.base + place.off) (find (λ range. range.sec == place.sec) ranges)
