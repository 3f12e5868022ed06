-- The stack in memory: a region of addresses with one byte each.
use Rattle.std.specs.Prelude.{◌≡◌, ◌≢◌, ℕ, ◌+◌, ◌-◌, ◌*◌, ◌^◌, ◌<◌, Bool, ◌&&◌, List, [], ◌∷◌, Option, Some, None, length, take, drop, All, MatchOption, slice_get, nat_le, if◌then◌else◌}
use Rattle.state_defs.specs.Address.{up}

-- the addresses from lo on that have a byte of the stack
pub record Region : Type 0 where
  pub lo : ℕ
  pub bytes : List ℕ

-- the address behind the region's last byte
abbrev pub hi_of : Region → ℕ
hi_of r = r.lo + length r.bytes

-- Each byte is one, and the region stays clear of the address space's end by a gigabyte, more than
-- any offset that the states below hold.
pub record IsRegion (r : Region) : Type 0 where
  pub below_end : hi_of r < 2 ^ 64 - 2 ^ 30
  pub bytes : All (λ b. b < 256) r.bytes

-- the byte at an address, where the region has one
abbrev pub byte_at : Region → ℕ → Option ℕ
byte_at r address = if nat_le r.lo address then slice_get r.bytes (address - r.lo) else None

-- the number that these bytes are, the lowest first
abbrev pub little_endian : List ℕ → ℕ
little_endian [] = 0
little_endian (b ∷ bs) = b + 256 * little_endian bs

-- whether all eight bytes from an address on lie in the region
abbrev pub has_word : Region → ℕ → Bool
has_word r address = nat_le r.lo address && nat_le (address + 8) (hi_of r)

-- the word at an address: eight bytes, all of them in the region
abbrev pub word_at : Region → ℕ → Option ℕ
word_at r address = if has_word r address then Some (little_endian (take 8 (drop (address - r.lo) r.bytes))) else None

-- The word that an instruction reads at an address may be this one. One that doesn't lie wholly in
-- the region may be any.
abbrev pub Reads : Region → ℕ → ℕ → Type 0
Reads r address word = MatchOption (word_at r address) (word < 2 ^ 64) (λ held. word ≡ held)

-- the word at an address is in the region, and is this one
abbrev pub Holds : Region → ℕ → ℕ → Type 0
Holds r address word = word_at r address ≡ Some word

-- the address isn't among the size addresses from start on, which wrap
abbrev pub IsBeside : ℕ → ℕ → ℕ → Type 0
IsBeside start size address = (i : ℕ) → i < size → address ≢ up start i

-- the same addresses, each with a byte before and after
pub record SameAddresses (before after : Region) : Type 0 where
  pub lo : after.lo ≡ before.lo
  pub size : length after.bytes ≡ length before.bytes

-- memory before and after a write of size bytes from start on: every other byte stays
pub record WritesOnly (start size : ℕ) (before after : Region) : Type 0 where
  pub addresses : SameAddresses before after
  pub others : (address : ℕ) → IsBeside start size address → byte_at after address ≡ byte_at before address

-- memory before and after this word was written at an address
pub record WritesWord (address value : ℕ) (before after : Region) : Type 0 where
  pub only : WritesOnly address 8 before after
  pub word : Reads after address value

-- memory before and after stores that may give any value to any byte, but spare these words
pub record Stores (slots : List ℕ) (before after : Region) : Type 0 where
  pub addresses : SameAddresses before after
  pub spared : All (λ address. word_at after address ≡ word_at before address) slots
