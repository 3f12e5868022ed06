-- What ORC sections say that hold no rows: the first fault, in a fixed order.
use Rattle.std.specs.Prelude.{◌≡◌, ◌≢◌, ◌⊎◌, ℕ, ◌+◌, ◌*◌, ◌/◌, ◌%◌, ◌^◌, ◌<◌, ◌≤◌, ◌==◌, true, List, [], length, drop, Option, Some, None, slice_get, codes, pos}
use Rattle.std.specs.Int.{cast_signed, w16}
use Rattle.ot_base.specs.declared.place.Place.{Place}
use Rattle.ot_base.specs.declared.row.Row.{Row}
use Rattle.elf_objects.specs.declared.symbol.Reloc.{Reloc}
use Rattle.elf_objects.specs.Elf.{Elf, SectionEntry}
use Rattle.elf_objects.specs.Contents.{is_text, section_symbol_of}
use Rattle.elf_objects.specs.declared.TheConstants.{R_X86_64_PC32}
use Rattle.elf_objects.specs.Number.{half, word}
use Rattle.table_defs.specs.Fields.{HasKnownFields}
use Rattle.orc_bytes.specs.declared.fault.SlotWhy.{SlotWhy}
use Rattle.orc_bytes.specs.declared.fault.SlotWhy.TheVariants.{NoReloc, Kind, Offset, Symbol, Range, NotZero}
use Rattle.orc_bytes.specs.declared.fault.OrcFault.{OrcFault}
use Rattle.orc_bytes.specs.declared.fault.OrcFault.TheVariants.{NoSection, BadLength, Counts, BadBits, BadSlot, NoMemory}
use Rattle.orc_bytes.specs.Sections.{section_named, body_named, relocs_named}

-- the row in the first six of some bytes
abbrev pub row_in : List ℕ → Row
row_in bytes = record {
  sp_offset = cast_signed w16 (half bytes 0);
  bp_offset = cast_signed w16 (half bytes 2);
  sp_reg = half bytes 4 % 16;
  bp_reg = half bytes 4 / 16 % 16;
  kind = half bytes 4 / 256 % 8;
  signal = half bytes 4 / 2048 % 2 == 1;
}

-- those bytes are those of a row: its registers and kind are known, and bits 12 to 15 are zero
pub record HasRow (bytes : List ℕ) : Type 0 where
  pub fields : HasKnownFields (row_in bytes)
  pub unused : half bytes 4 < 2 ^ 12

-- what the ORC sections say: the body of `.orc_unwind`, and the body and the relocations of `.orc_unwind_ip`
pub record OrcParts : Type 0 where
  pub table : List ℕ
  pub ips : List ℕ
  pub relocs : List Reloc

pub record HasParts (object : Elf) (parts : OrcParts) : Type 0 where
  pub table : body_named object (codes ".orc_unwind") ≡ Some parts.table
  pub ips : body_named object (codes ".orc_unwind_ip") ≡ Some parts.ips
  pub relocs : relocs_named object (codes ".orc_unwind_ip") ≡ Some parts.relocs

-- how many rows there are
abbrev pub row_count : OrcParts → ℕ
row_count parts = length parts.table / 6

-- the symbol is the section symbol of this text section
pub record StandsForText (object : Elf) (sym sec : ℕ) (section : SectionEntry) : Type 0 where
  pub at : slice_get object.sections sec ≡ Some section
  pub text : is_text section ≡ true
  pub symbol : section_symbol_of object sec ≡ Some sym

-- Row number i has a relocation of its own, and none is left behind the last row.
pub record HasReloc (parts : OrcParts) (i : ℕ) (reloc : Reloc) : Type 0 where
  pub there : slice_get parts.relocs i ≡ Some reloc
  pub no_more : i + 1 ≡ row_count parts → length parts.relocs ≤ row_count parts

pub record IsAtRow (parts : OrcParts) (i : ℕ) (reloc : Reloc) : Type 0 where
  pub own : HasReloc parts i reloc
  pub kind : reloc.kind ≡ R_X86_64_PC32
  pub offset : reloc.offset ≡ 4 * i

-- The relocation tells a place of a text section: its offset, up to the section's size.
pub record TellsPlace (object : Elf) (reloc : Reloc) (place : Place) : Type 0 where
  pub section : SectionEntry
  pub symbol : StandsForText object reloc.sym place.sec section
  pub addend : reloc.addend ≡ pos place.off
  pub inside : place.off ≤ section.size

-- Row number i has this place: its relocation tells it, and its four bytes are zero.
pub record HasPlace (object : Elf) (parts : OrcParts) (i : ℕ) (place : Place) : Type 0 where
  pub slot : Reloc
  pub at : IsAtRow parts i slot
  pub told : TellsPlace object slot place
  pub zero : word parts.ips (4 * i) ≡ 0

-- What is wrong with the place of row number i. Each cause supposes that those before it aren't there.
pub data PlaceFault (object : Elf) (parts : OrcParts) (i : ℕ) : SlotWhy → Type 0 where
  no_reloc : slice_get parts.relocs i ≡ None → PlaceFault object parts i NoReloc
  more : i + 1 ≡ row_count parts → row_count parts < length parts.relocs → PlaceFault object parts i NoReloc
  kind : (reloc : Reloc) → HasReloc parts i reloc → reloc.kind ≢ R_X86_64_PC32 → PlaceFault object parts i Kind
  offset : (reloc : Reloc) → HasReloc parts i reloc → reloc.kind ≡ R_X86_64_PC32 → reloc.offset ≢ 4 * i → PlaceFault object parts i Offset
  symbol : (reloc : Reloc) → IsAtRow parts i reloc → ((sec : ℕ) (section : SectionEntry) → StandsForText object reloc.sym sec section → ⊥) → PlaceFault object parts i Symbol
  range : (reloc : Reloc) (sec : ℕ) (section : SectionEntry) → IsAtRow parts i reloc → StandsForText object reloc.sym sec section → ((off : ℕ) → reloc.addend ≡ pos off → section.size < off) → PlaceFault object parts i Range
  not_zero : (reloc : Reloc) (place : Place) → IsAtRow parts i reloc → TellsPlace object reloc place → word parts.ips (4 * i) ≢ 0 → PlaceFault object parts i NotZero

-- row number i is one, with a place
pub record IsRowAt (object : Elf) (parts : OrcParts) (i : ℕ) : Type 0 where
  pub row : HasRow (drop (6 * i) parts.table)
  pub place : Place
  pub told : HasPlace object parts i place

pub data RowFault (object : Elf) (parts : OrcParts) (i : ℕ) : OrcFault → Type 0 where
  bits : (HasRow (drop (6 * i) parts.table) → ⊥) → RowFault object parts i (BadBits i)
  slot : (why : SlotWhy) → HasRow (drop (6 * i) parts.table) → PlaceFault object parts i why → RowFault object parts i (BadSlot i why)

-- the bodies have whole rows and places, as many of each
pub record HasRowsAndPlaces (parts : OrcParts) : Type 0 where
  pub rows : length parts.table % 6 ≡ 0
  pub places : length parts.ips % 4 ≡ 0
  pub counts : length parts.table / 6 ≡ length parts.ips / 4

-- the first fault
pub data FirstFault (object : Elf) : OrcFault → Type 0 where
  no_table : section_named object (codes ".orc_unwind") ≡ None → FirstFault object (NoSection 0)
  no_ips : (table : List ℕ) → body_named object (codes ".orc_unwind") ≡ Some table → section_named object (codes ".orc_unwind_ip") ≡ None → FirstFault object (NoSection 1)
  table_length : (parts : OrcParts) → HasParts object parts → length parts.table % 6 ≢ 0 → FirstFault object (BadLength 0 (length parts.table))
  ips_length : (parts : OrcParts) → HasParts object parts → length parts.table % 6 ≡ 0 → length parts.ips % 4 ≢ 0 → FirstFault object (BadLength 1 (length parts.ips))
  counts : (parts : OrcParts) → HasParts object parts → length parts.table % 6 ≡ 0 → length parts.ips % 4 ≡ 0 → length parts.table / 6 ≢ length parts.ips / 4 → FirstFault object (Counts (length parts.table / 6) (length parts.ips / 4))
  row : (parts : OrcParts) (i : ℕ) (fault : OrcFault) → HasParts object parts → HasRowsAndPlaces parts → i < row_count parts → ((k : ℕ) → k < i → IsRowAt object parts k) → RowFault object parts i fault → FirstFault object fault
  without_rows : (parts : OrcParts) → HasParts object parts → HasRowsAndPlaces parts → row_count parts ≡ 0 → parts.relocs ≢ [] → FirstFault object (BadSlot 0 NoReloc)

-- why decoding refuses: the first fault, or want of memory
abbrev pub Refuses : Elf → OrcFault → Type 0
Refuses object fault = (fault ≡ NoMemory) ⊎ FirstFault object fault
