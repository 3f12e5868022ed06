-- The fields of tables: what relocations say of them (x86-64 psABI, "Relocation").
use Rattle.std.specs.Prelude.{ℕ, pos, ◌+ℤ◌, ◌==◌, ◌||◌, Bool, true, false, List, length, take, find, bytes_eq, codes, Option, Some, None, option_map, option_and_then, if◌then◌else◌}
use Rattle.ot_base.specs.declared.place.Place.{Place}
use Rattle.alternatives.specs.Texts.{is_boundary}
use Rattle.elf_objects.specs.declared.symbol.Reloc.{Reloc}
use Rattle.elf_objects.specs.declared.TheConstants.{R_X86_64_64, R_X86_64_32S}
use Rattle.elf_objects.specs.Elf.{Elf}
use Rattle.elf_objects.specs.Contents.{relocs_at, section_at}
use Rattle.symbols_relocs.specs.Relocs.{at_offset}
use Rattle.symbols_relocs.specs.NamedPlaces.{offset_of, place_named}
use Rattle.alternatives.specs.declared.texts.SectionText.{SectionText}

-- the first relocation of a type whose field begins at a place, in the order of the file
abbrev pub reloc_of_kind : Elf → ℕ → Place → Option Reloc
reloc_of_kind o kind field = find (λ r. r.kind == kind) (at_offset field.off (relocs_at o field.sec))

-- the place that it names
abbrev pub named_by : Elf → ℕ → Place → Option Place
named_by o kind field = option_and_then (place_named o) (reloc_of_kind o kind field)

abbrev pub rodata : List ℕ
rodata = codes ".rodata"

abbrev pub data_rel_ro : List ℕ
data_rel_ro = codes ".data.rel.ro"

abbrev pub begins_with : List ℕ → List ℕ → Bool
begins_with name front = bytes_eq (take (length front) name) front

-- tables may stand at a place: the name of its section begins with `.rodata` or `.data.rel.ro`
abbrev pub may_hold_tables : Elf → Place → Bool
may_hold_tables o place = begins_with (section_at o place.sec).name rodata || begins_with (section_at o place.sec).name data_rel_ro

-- where the table begins whose address the field at a place holds: the place that its relocation R_X86_64_32S names, where
-- tables may stand there
abbrev pub table_named : Elf → Place → Option Place
table_named o field = option_and_then (λ table. if may_hold_tables o table then Some table else None) (named_by o R_X86_64_32S field)

-- the place so many bytes behind another, where 64 bits hold the offset
abbrev pub checked_behind : Place → ℕ → Option Place
checked_behind place n = option_map (λ off. record { sec = place.sec; off = off }) (offset_of (pos place.off +ℤ pos n))

-- the boundary that the relocation R_X86_64_64 of the field at a place names
abbrev pub boundary_named : Elf → List SectionText → Place → Option Place
boundary_named o texts field = option_and_then (λ place. if is_boundary texts place then Some place else None) (named_by o R_X86_64_64 field)

abbrev pub same_owner : Option ℕ → Option ℕ → Bool
same_owner (Some a) (Some b) = a == b
same_owner (Some a) None = false
same_owner None (Some b) = false
same_owner None None = true
