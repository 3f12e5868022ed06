-- The relocations of the places of a list: they are read back, and each lies in the list's section.
use Rattle.std.proofs.Common.{◌≡◌, ℕ, ◌*◌, ◌^◌, ◌<◌, ◌≤◌, List, length, Option, arith}
use Rattle.std.specs.Prelude.{All}
use Rattle.std.proofs.lemmas.List.Elements.{All-weaker}
use Rattle.ot_base.specs.declared.place.Place.{Place}
use Rattle.elf_objects.specs.Elf.{Elf}
use Rattle.elf_objects.specs.Contents.{section_symbol_of}
use Rattle.elf_write.specs.Added.{relocs_in}
use Rattle.orc_output.proofs.Behind.{length-each}
use Rattle.orc_output.proofs.Slots.{IsInside, IsNameable, length-relocs, place_slots_inside, relocs_of}
use Rattle.site_lists.specs.Sections.{IsSite, rela_section, slot_reloc, slot_relocs}

pub length-rela_section : (ss : ℕ → Option ℕ) (places : List Place) → length (rela_section ss places) ≡ 24 * length places
length-rela_section ss places =
    let a = length-relocs (slot_relocs ss places) in
    let b : length (slot_relocs ss places) ≡ length places = length-each (λ (entry : ℕ × Place). slot_reloc ss (4 * entry.0) entry.1) 0 places in
    omega arith

pub slots_inside : (o : Elf) (places : List Place) → length places < 2 ^ 32 → length o.symbols < 2 ^ 32 → All (IsSite o) places
    → All (IsInside o (4 * length places)) (slot_relocs (section_symbol_of o) places)
slots_inside o places few few_symbols all =
    place_slots_inside o (λ (place : Place). place) (length places) 0 places (omega arith) (omega arith) few_symbols
    (All-weaker (IsSite o) (IsNameable o) (λ place is. record { symbol = is.symbol; addend = is.addend }) places all)

pub relocs_back : (o : Elf) (places : List Place) → length places < 2 ^ 32 → length o.symbols ≤ 4194304 → All (IsSite o) places
    → relocs_in (rela_section (section_symbol_of o) places) ≡ slot_relocs (section_symbol_of o) places
relocs_back o places few few_symbols all =
    relocs_of o (4 * length places) (slot_relocs (section_symbol_of o) places) (slots_inside o places few (omega arith) all)
