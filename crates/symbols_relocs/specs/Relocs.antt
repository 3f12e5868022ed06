-- The relocations of a section by the offset of their field.
use Rattle.std.specs.Prelude.{◌≡◌, ℕ, ◌==◌, ◌||◌, not, Bool, List, filter, find, Option, slice_get}
use Rattle.std.specs.List.{list_any}
use Rattle.elf_objects.specs.declared.symbol.Reloc.{Reloc}
use Rattle.elf_objects.specs.declared.TheConstants.{R_X86_64_64, R_X86_64_PC32, R_X86_64_32, R_X86_64_32S}

-- a relocation of this type puts a place into its field: R_X86_64_64, R_X86_64_PC32, R_X86_64_32 and R_X86_64_32S
abbrev pub is_pointer_kind : ℕ → Bool
is_pointer_kind kind = (kind == R_X86_64_64) || (kind == R_X86_64_PC32) || (kind == R_X86_64_32) || (kind == R_X86_64_32S)

-- those whose field begins at an offset, in their order
abbrev pub at_offset : ℕ → List Reloc → List Reloc
at_offset off relocs = filter (λ r. r.offset == off) relocs

-- the first of them
abbrev pub first_at_offset : ℕ → List Reloc → Option Reloc
first_at_offset off relocs = slice_get (at_offset off relocs) 0

-- the first of them that puts a place into the field
abbrev pub first_pointer : ℕ → List Reloc → Option Reloc
first_pointer off relocs = find (λ r. is_pointer_kind r.kind) (at_offset off relocs)

-- a relocation of any type but 0, R_X86_64_NONE, changes its field
abbrev pub changes_field : Reloc → Bool
changes_field r = not (r.kind == 0)

-- one of those at an offset does
abbrev pub is_changed : ℕ → List Reloc → Bool
is_changed off relocs = list_any changes_field (at_offset off relocs)

-- the index has the relocations at each offset, in their order
pub record IsIndexOf (relocs index : List Reloc) : Type 0 where
  pub same : (off : ℕ) → at_offset off index ≡ at_offset off relocs
