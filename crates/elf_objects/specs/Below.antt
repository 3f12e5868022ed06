-- Facts about each number below a bound, and the least number at which one fails.
use Rattle.std.specs.Prelude.{ℕ, zero, suc, ◌<◌, Bool, Option, Some, None, if◌then◌else◌}
use Rattle.elf_objects.specs.declared.fault.ElfFault.{ElfFault}

-- each number below n has it
abbrev pub AllBelow : (ℕ → Type 0) → ℕ → Type 0
AllBelow P n = (k : ℕ) → k < n → P k

-- the first of two that is there
abbrev pub first_of : Option ℕ → Option ℕ → Option ℕ
first_of (Some k) later = Some k
first_of None later = later

-- the least number below n that passes
unfoldable pub least_below : (ℕ → Bool) → ℕ → Option ℕ
least_below p zero = None
least_below p (suc n) = first_of (least_below p n) (if p n then Some n else None)

-- The fault e is that of the least index below n at which P fails: F i is what the faults of the index i
-- are, and says that P fails there.
pub record FirstBelow (P : ℕ → Type 0) (F : ℕ → ElfFault → Type 0) (n : ℕ) (e : ElfFault) : Type 0 where
  pub index : ℕ
  pub inside : index < n
  pub lower : AllBelow P index
  pub fault : F index e
