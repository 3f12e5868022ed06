-- What the code keeps of the relocations of `.eh_frame`: in the order of their offsets, those that no record was read for yet.
use Rattle.std.specs.Prelude.{◌≡◌, ◌↔◌, ℕ, ◌≤◌, nat_lt, Bool, true, false, ◌&&◌, not, if◌then◌else◌, List, [], ◌∷◌, filter, Option, Some, None}
use Rattle.elf_objects.specs.declared.symbol.Reloc.{Reloc}
use Rattle.eh_frame.specs.Records.{relocs_in, relocs_from}

-- those of some relocations below an offset
abbrev pub relocs_below : List Reloc → ℕ → List Reloc
relocs_below relocs end = filter (λ reloc. nat_lt reloc.offset end) relocs

-- whether the first of some relocations lies below an offset
abbrev pub begins_below : List Reloc → ℕ → Bool
begins_below [] end = false
begins_below (reloc ∷ relocs) end = nat_lt reloc.offset end

-- of relocations in order, the one below an offset
abbrev pub only_below : List Reloc → ℕ → Option Reloc
only_below [] end = None
only_below (reloc ∷ relocs) end = if nat_lt reloc.offset end && not (begins_below relocs end) then Some reloc else None

-- These are the relocations at an offset and behind it, as far as records ask.
pub record AreFrom (relocs : List Reloc) (at : ℕ) (left : List Reloc) : Type 0 where
  pub one : (end : ℕ) (reloc : Reloc) → relocs_below left end ≡ reloc ∷ [] → relocs_in relocs at end ≡ reloc ∷ []
  pub only : (end : ℕ) (reloc : Reloc) → relocs_in relocs at end ≡ reloc ∷ [] → relocs_below left end ≡ reloc ∷ []
  pub none : relocs_from relocs at ≡ [] ↔ left ≡ []
