-- What holds of the site lists of every object.
use Rattle.std.specs.Prelude.{◌^◌, ◌<◌, Some, slice_get, ◌≡◌, ℕ, ◌+◌, ◌*◌, List, map, length, take, drop, All}
use Rattle.std.specs.List.{range_with_len}
use Rattle.ot_base.specs.declared.place.Place.{Place}
use Rattle.elf_objects.specs.Elf.{Elf}
use Rattle.elf_objects.specs.Contents.{section_symbol_of}
use Rattle.orc_bytes.specs.Sections.{body_named, section_named}
use Rattle.elf_objects.specs.Table.{reloc_at}
use Rattle.site_lists.specs.Listed.{Listed}
use Rattle.site_lists.specs.Sections.{HoldsList, HoldsSites, IsSite, rela_section, slot_section}

-- the site lists of an object are one choice of lists at most
abbrev pub OneChoiceFits : Type 0
OneChoiceFits = (object : Elf) (one other : Listed) → HoldsSites object one → HoldsSites object other → one ≡ other

-- Where an object has the two bodies of a list of places, and the relocations of its section are those that stand in its file from
-- an offset on, the section holds these places.
abbrev pub BodiesAreHeld : Type 0
BodiesAreHeld = (object : Elf) (name : List ℕ) (places : List Place) (section at : ℕ)
    → All (IsSite object) places
    → length places < 2 ^ 32 → length object.symbols < 2 ^ 32
    → body_named object name ≡ Some (slot_section places)
    → section_named object name ≡ Some section
    → slice_get object.relocs section ≡ Some (map (λ k. reloc_at object.bytes (at + 24 * k)) (range_with_len 0 (length places)))
    → take (24 * length places) (drop at object.bytes) ≡ rela_section (section_symbol_of object) places
    → HoldsList object name places
