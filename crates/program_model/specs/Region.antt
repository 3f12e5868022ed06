-- The model's stack in memory, as the definitions have it.
use Rattle.std.specs.Prelude.{◌≡◌, ℕ, ◌<◌, ◌≤◌, ◌^◌, List, Some, IsSome, slice_index}
use Rattle.state_defs.specs.Address.{up}
use Rattle.state_defs.specs.Region.{Region, hi_of, byte_at, WritesOnly, WritesWord, Stores}
use Rattle.program_model.specs.declared.region.Region.{Region as OwnRegion}

abbrev pub region_of : OwnRegion → Region
region_of r = record { lo = r.lo; bytes = r.bytes.items }

-- memory before and after the first n of these bytes were written from an address on
pub record WritesBytes (address n : ℕ) (bytes : List ℕ) (before after : Region) : Type 0 where
  pub only : WritesOnly address n before after
  pub there : (i : ℕ) → i < n → IsSome (byte_at before (up address i)) → byte_at after (up address i) ≡ Some (slice_index bytes i)

-- memory before and after this word was stored at an address, and these words were spared; the word
-- stands there where addresses don't wrap within the region
pub record StoresWord (address word : ℕ) (spared : List ℕ) (before after : Region) : Type 0 where
  pub stores : Stores spared before after
  pub written : hi_of before ≤ 2 ^ 64 → WritesWord address word before after
