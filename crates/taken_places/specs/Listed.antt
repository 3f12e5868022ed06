-- The places whose addresses are taken, as they are listed: those of code, and those of data.
use Rattle.std.specs.Prelude.{ℕ, ◌&&◌, not, Bool, List, filter, filter_map, flat_map, length}
use Rattle.std.specs.List.{range_with_len}
use Rattle.ot_base.specs.declared.place.Place.{Place}
use Rattle.elf_objects.specs.Elf.{Elf}
use Rattle.elf_objects.specs.Contents.{is_text, relocs_at, section_at}
use Rattle.x86_text.specs.Code.{code_of}
use Rattle.alternatives.specs.declared.texts.SectionText.{SectionText}
use Rattle.flow_defs.specs.Code.{texts_of}
use Rattle.flow_defs.specs.Coded.{Coded}
use Rattle.taken_places.specs.Taken.{address_in_code, address_in_data, may_take_at}

-- the places that the relocations of a text section name, and those of another section
abbrev pub addresses_in_text : Elf → SectionText → List Place
addresses_in_text o t = filter_map (address_in_code o (code_of t.text)) (relocs_at o t.sec)

abbrev pub addresses_in_section : Elf → ℕ → List Place
addresses_in_section o sec = filter_map (address_in_data o) (relocs_at o sec)

abbrev pub is_data : Elf → ℕ → Bool
is_data o sec = may_take_at o sec && not (is_text (section_at o sec))

-- those of all texts, and of all other sections
unfoldable pub taken_by_code : Coded → List Place
taken_by_code o = flat_map (addresses_in_text o.elf) (texts_of o)

unfoldable pub taken_by_data : Elf → List Place
taken_by_data o = flat_map (addresses_in_section o) (filter (is_data o) (range_with_len 0 (length o.sections)))
