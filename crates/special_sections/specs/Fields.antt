-- The fields of entries: numbers that stand in the section, and places that relocations put there.
use Rattle.std.specs.Prelude.{ℕ, ◌%◌, ◌+◌, ◌==◌, ◌&&◌, not, nat_lt, nat_le, Bool, false, ◌∷◌, [], Option, Some, None, is_none, unwrap_or, length, bit_and}
use Rattle.ot_base.specs.declared.place.Place.{Place}
use Rattle.elf_objects.specs.Elf.{Elf}
use Rattle.elf_objects.specs.Contents.{is_text, section_at}
use Rattle.elf_objects.specs.declared.TheConstants.{SHF_COMPRESSED}
use Rattle.symbols_relocs.specs.NamedPlaces.{place_held_at, pointer_at}
use Rattle.special_sections.specs.declared.fault.Why.{Why}
use Rattle.special_sections.specs.declared.fault.Why.TheVariants.{Compressed, Size}
use Rattle.special_sections.specs.declared.fields.Bound.{Bound}
use Rattle.special_sections.specs.declared.fields.Bound.TheVariants.{BelowEnd, UpToEnd}
use Rattle.special_sections.specs.Reasons.{first_reason}

-- the place of the field at an offset of a section
abbrev pub field_at : ℕ → ℕ → Place
field_at sec at = record { sec = sec; off = at }

-- a place of no section: section 0 is none
abbrev pub nowhere : Place
nowhere = record { sec = 0; off = 0 }

abbrev pub or_nowhere : Option Place → Place
or_nowhere place = unwrap_or place nowhere

-- no relocation puts a place into the field
abbrev pub lacks_reloc : Elf → Place → Bool
lacks_reloc o field = is_none (pointer_at o field)

-- an offset stands up to a bound in a section of a size
abbrev pub stands_in : Bound → ℕ → ℕ → Bool
stands_in BelowEnd size off = nat_lt off size
stands_in UpToEnd size off = nat_le off size

-- the place is in a text section, up to a bound
abbrev pub is_text_place : Elf → Bound → Place → Bool
is_text_place o bound place =
    let s = section_at o place.sec in
    is_text s && stands_in bound s.size place.off

abbrev pub names_text : Elf → Bound → Option Place → Bool
names_text o bound None = false
names_text o bound (Some place) = is_text_place o bound place

-- so is the one that the field holds
abbrev pub holds_text_place : Elf → Bound → Place → Bool
holds_text_place o bound field = names_text o bound (place_held_at o field)

-- bytes from a place on leave its section
abbrev pub leaves_section : Elf → Place → ℕ → Bool
leaves_section o place len = nat_lt (section_at o place.sec).size (place.off + len)

abbrev pub is_compressed : Elf → ℕ → Bool
is_compressed o sec = not (bit_and (section_at o sec).flags SHF_COMPRESSED == 0)

-- why a section whose entries have a number of bytes each is refused
abbrev pub table_why : ℕ → Elf → ℕ → Option Why
table_why size o sec = first_reason
    ((is_compressed o sec, Compressed)
    ∷ (not (length (section_at o sec).body % size == 0), Size)
    ∷ [])
