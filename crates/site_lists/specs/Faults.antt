-- What the sections of site lists say that hold no places: the first fault, in a fixed order.
use Rattle.std.specs.Prelude.{◌≡◌, ◌≢◌, ◌⊎◌, ℕ, ◌+◌, ◌*◌, ◌/◌, ◌%◌, ◌<◌, ◌≤◌, List, [], length, None, Some, slice_get, pos}
use Rattle.ot_base.specs.declared.place.Place.{Place}
use Rattle.elf_objects.specs.declared.symbol.Reloc.{Reloc}
use Rattle.elf_objects.specs.Elf.{Elf, SectionEntry}
use Rattle.elf_objects.specs.declared.TheConstants.{R_X86_64_PC32}
use Rattle.elf_objects.specs.Number.{word}
use Rattle.orc_bytes.specs.declared.fault.SlotWhy.{SlotWhy}
use Rattle.orc_bytes.specs.declared.fault.SlotWhy.TheVariants.{NoReloc, Kind, Offset, Symbol, Range, NotZero}
use Rattle.orc_bytes.specs.Faults.{StandsForText, TellsPlace}
use Rattle.orc_bytes.specs.Sections.{body_named, relocs_named, section_named}
use Rattle.site_lists.specs.declared.fault.SitesFault.{SitesFault}
use Rattle.site_lists.specs.declared.fault.SitesFault.TheVariants.{NoSection, BadLength, BadSlot, NoMemory}
use Rattle.site_lists.specs.Sections.{IsListOf, list_name}

-- what the section of a list says: its body, and the relocations of it
pub record ListParts : Type 0 where
  pub slots : List ℕ
  pub relocs : List Reloc

pub record HasList (object : Elf) (name : List ℕ) (parts : ListParts) : Type 0 where
  pub slots : body_named object name ≡ Some parts.slots
  pub relocs : relocs_named object name ≡ Some parts.relocs

-- how many slots there are
abbrev pub slot_count : ListParts → ℕ
slot_count parts = length parts.slots / 4

-- Slot number i has a relocation of its own, and none is left behind the last slot.
pub record HasReloc (parts : ListParts) (i : ℕ) (reloc : Reloc) : Type 0 where
  pub there : slice_get parts.relocs i ≡ Some reloc
  pub no_more : i + 1 ≡ slot_count parts → length parts.relocs ≤ slot_count parts

pub record IsAtSlot (parts : ListParts) (i : ℕ) (reloc : Reloc) : Type 0 where
  pub own : HasReloc parts i reloc
  pub kind : reloc.kind ≡ R_X86_64_PC32
  pub offset : reloc.offset ≡ 4 * i

-- Slot number i has this place: its relocation tells it, and its four bytes are zero.
pub record HasPlace (object : Elf) (parts : ListParts) (i : ℕ) (place : Place) : Type 0 where
  pub slot : Reloc
  pub at : IsAtSlot parts i slot
  pub told : TellsPlace object slot place
  pub zero : word parts.slots (4 * i) ≡ 0

-- What is wrong with slot number i. Each cause supposes that those before it aren't there.
pub data SlotFault (object : Elf) (parts : ListParts) (i : ℕ) : SlotWhy → Type 0 where
  no_reloc : slice_get parts.relocs i ≡ None → SlotFault object parts i NoReloc
  more : i + 1 ≡ slot_count parts → slot_count parts < length parts.relocs → SlotFault object parts i NoReloc
  kind : (reloc : Reloc) → HasReloc parts i reloc → reloc.kind ≢ R_X86_64_PC32 → SlotFault object parts i Kind
  offset : (reloc : Reloc) → HasReloc parts i reloc → reloc.kind ≡ R_X86_64_PC32 → reloc.offset ≢ 4 * i → SlotFault object parts i Offset
  symbol : (reloc : Reloc) → IsAtSlot parts i reloc → ((sec : ℕ) (section : SectionEntry) → StandsForText object reloc.sym sec section → ⊥) → SlotFault object parts i Symbol
  range : (reloc : Reloc) (sec : ℕ) (section : SectionEntry) → IsAtSlot parts i reloc → StandsForText object reloc.sym sec section → ((off : ℕ) → reloc.addend ≡ pos off → section.size < off) → SlotFault object parts i Range
  not_zero : (reloc : Reloc) (place : Place) → IsAtSlot parts i reloc → TellsPlace object reloc place → word parts.slots (4 * i) ≢ 0 → SlotFault object parts i NotZero

-- slot number i has a place
pub record IsSlot (object : Elf) (parts : ListParts) (i : ℕ) : Type 0 where
  pub place : Place
  pub told : HasPlace object parts i place

-- the first fault of the list with this number, which is there
pub data ListFault (object : Elf) (which : ℕ) : SitesFault → Type 0 where
  bad_length : (parts : ListParts) → HasList object (list_name which) parts → length parts.slots % 4 ≢ 0 → ListFault object which (BadLength which (length parts.slots))
  bad_slot : (parts : ListParts) (i : ℕ) (why : SlotWhy) → HasList object (list_name which) parts → length parts.slots % 4 ≡ 0 → i < slot_count parts → ((k : ℕ) → k < i → IsSlot object parts k) → SlotFault object parts i why → ListFault object which (BadSlot which i why)
  without_slots : (parts : ListParts) → HasList object (list_name which) parts → slot_count parts ≡ 0 → length parts.slots % 4 ≡ 0 → parts.relocs ≢ [] → ListFault object which (BadSlot which 0 NoReloc)

-- the list with this number is one of some places
pub record IsList (object : Elf) (which : ℕ) : Type 0 where
  pub places : List Place
  pub list : IsListOf object (list_name which) places

-- the first fault: that no list is there, or that of the first of the three lists that is none
pub data FirstFault (object : Elf) : SitesFault → Type 0 where
  no_lists : ((which : ℕ) → which < 3 → section_named object (list_name which) ≡ None) → FirstFault object (NoSection 0)
  in_list : {fault : SitesFault} (which : ℕ) → which < 3 → ((k : ℕ) → k < which → IsList object k) → ListFault object which fault → FirstFault object fault

-- why decoding refuses: the first fault, or want of memory
abbrev pub Refuses : Elf → SitesFault → Type 0
Refuses object fault = (fault ≡ NoMemory) ⊎ FirstFault object fault

-- the same of one list
abbrev pub RefusesList : Elf → ℕ → SitesFault → Type 0
RefusesList object which fault = (fault ≡ NoMemory) ⊎ ListFault object which fault
