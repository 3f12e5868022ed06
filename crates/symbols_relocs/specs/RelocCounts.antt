-- How many relocations are below an offset.
use Rattle.std.specs.Prelude.{◌≡◌, ◌<◌, ◌≤◌, ◌+◌, ◌*◌, ℕ, List, [], Some, length, slice_get, slice_index_or}
use Rattle.std.specs.List.Sorted.{IsNonDecreasingBy}
use Rattle.elf_objects.specs.declared.symbol.Reloc.{Reloc}
use Rattle.symbols_relocs.specs.Relocs.{at_offset}

-- the first so many are below an offset
pub record AreBelow (relocs : List Reloc) (count off : ℕ) : Type 0 where
  pub within : count ≤ length relocs
  pub below : (k : ℕ) (d : Reloc) → k < count → (slice_index_or relocs k d).offset < off

-- so many are, and no others
pub record IsCount (relocs : List Reloc) (off count : ℕ) : Type 0 where
  pub within : count ≤ length relocs
  pub below : (k : ℕ) (d : Reloc) → k < count → (slice_index_or relocs k d).offset < off
  pub above : (k : ℕ) (d : Reloc) → count ≤ k → k < length relocs → off ≤ (slice_index_or relocs k d).offset

-- for each block of 32 bytes so many are below its beginning
abbrev pub CountBlocks : List Reloc → List ℕ → Type 0
CountBlocks relocs near = (block count : ℕ) → slice_get near block ≡ Some count → AreBelow relocs count (32 * block)

-- relocations in the order of their offsets, counted by blocks
pub record AreCounted (relocs : List Reloc) (near : List ℕ) : Type 0 where
  pub sorted : IsNonDecreasingBy (λ r. r.offset) relocs
  pub blocks : CountBlocks relocs near

-- none is at one of so many bytes from an offset on
abbrev pub LackRelocs : List Reloc → ℕ → ℕ → Type 0
LackRelocs relocs off len = (k : ℕ) → k < len → at_offset (off + k) relocs ≡ []
