-- The records of `.eh_frame` in this profile (DWARF 4, section 6.4.1; System V psABI, section 4.2.4 and LSB Core, `.eh_frame`).
use Rattle.std.specs.Prelude.{◌≡◌, ◌≢◌, ℕ, ◌+◌, ◌*◌, ◌%◌, ◌^◌, ◌<◌, ◌≤◌, true, ◌&&◌, nat_le, nat_lt, pos, List, [], ◌∷◌, ◌++◌, length, filter, flat_map, replicate, Option, Some, codes}
use Rattle.byteorder.specs.Endian.{little_bytes}
use Rattle.ot_base.specs.declared.place.Place.{Place}
use Rattle.elf_objects.specs.declared.symbol.Reloc.{Reloc}
use Rattle.elf_objects.specs.declared.TheConstants.{R_X86_64_PC32}
use Rattle.elf_objects.specs.Elf.{Elf, SectionEntry}
use Rattle.orc_bytes.specs.Faults.{StandsForText}
use Rattle.orc_bytes.specs.Sections.{body_named, relocs_named}
use Rattle.eh_frame.specs.declared.instruction.Instruction.{Instruction}
use Rattle.eh_frame.specs.declared.rule.CfaRule.{CfaRule}
use Rattle.eh_frame.specs.declared.rule.PlacedRule.{PlacedRule}
use Rattle.eh_frame.specs.Spelling.{SpellsAll}
use Rattle.eh_frame.specs.Rules.{moves_all, rule_at, listed}

-- The common information entry: 20 bytes follow; CIE id 0; version 1; augmentation "zR"; code alignment factor 1; data alignment
-- factor -1; return address in column 16; one byte of augmentation, 1B: addresses are of four bytes, signed and counted from
-- where they stand. Then DW_CFA_def_cfa of rsp and 8, DW_CFA_offset of column 16 at 8 below, and two DW_CFA_nop.
abbrev pub cie : List ℕ
cie =
    0x14 ∷ 0x00 ∷ 0x00 ∷ 0x00 ∷ 0x00 ∷ 0x00 ∷ 0x00 ∷ 0x00 ∷
    0x01 ∷ 0x7A ∷ 0x52 ∷ 0x00 ∷ 0x01 ∷ 0x7F ∷ 0x10 ∷ 0x01 ∷ 0x1B ∷
    0x0C ∷ 0x07 ∷ 0x08 ∷ 0x90 ∷ 0x08 ∷ 0x00 ∷ 0x00 ∷ []

-- A frame description entry that begins at an offset, for a section of this size: its length; the distance back to the CIE; the
-- section's address, which a relocation fills in; the section's size; no augmentation; the instructions.
unfoldable pub entry_bytes : ℕ → ℕ → List ℕ → List ℕ
entry_bytes at size spelled = little_bytes 4 (13 + length spelled) ++ (little_bytes 4 (at + 4) ++ (little_bytes 4 0 ++ (little_bytes 4 size ++ 0 ∷ spelled)))

-- a length of zero ends the section
abbrev pub terminator : List ℕ
terminator = 0 ∷ 0 ∷ 0 ∷ 0 ∷ []

-- Some bytes begin with an entry that takes a multiple of 8 bytes.
pub record IsEntry (at : ℕ) (bytes : List ℕ) (size : ℕ) (spelled behind : List ℕ) : Type 0 where
  pub whole : bytes ≡ entry_bytes at size spelled ++ behind
  pub aligned : (17 + length spelled) % 8 ≡ 0
  pub short : 17 + length spelled < 2 ^ 32
  pub fits : size < 2 ^ 32

-- the relocations whose offsets lie in a range
abbrev pub relocs_in : List Reloc → ℕ → ℕ → List Reloc
relocs_in relocs from to = filter (λ reloc. nat_le from reloc.offset && nat_lt reloc.offset to) relocs

-- those at an offset or behind it
abbrev pub relocs_from : List Reloc → ℕ → List Reloc
relocs_from relocs from = filter (λ reloc. nat_le from reloc.offset) relocs

-- A relocation puts the address of a text section into the entry at an offset, as a distance of four bytes, by its section symbol.
pub record PutsAddress (object : Elf) (reloc : Reloc) (at sec : ℕ) (section : SectionEntry) : Type 0 where
  pub offset : reloc.offset ≡ at + 8
  pub kind : reloc.kind ≡ R_X86_64_PC32
  pub addend : reloc.addend ≡ pos 0
  pub symbol : StandsForText object reloc.sym sec section

-- The one relocation of the record from an offset to another does so.
pub record NamesSection (object : Elf) (relocs : List Reloc) (at end sec : ℕ) (section : SectionEntry) : Type 0 where
  pub reloc : Reloc
  pub one : relocs_in relocs at end ≡ reloc ∷ []
  pub address : PutsAddress object reloc at sec section

-- What an entry says: the section that it is for, its size, and the instructions.
pub record Entry : Type 0 where
  pub sec : ℕ
  pub size : ℕ
  pub instructions : List Instruction

-- An entry of the object at an offset, and its instructions' bytes. Its section is none before the least that may come.
pub record EntryAt (object : Elf) (relocs : List Reloc) (at least : ℕ) (entry : Entry) (spelled : List ℕ) : Type 0 where
  pub section : SectionEntry
  pub names : NamesSection object relocs at (at + 17 + length spelled) entry.sec section
  pub size : entry.size ≡ section.size
  pub later : least ≤ entry.sec
  pub instructions : SpellsAll entry.instructions spelled
  pub inside : moves_all entry.instructions ≤ entry.size

-- Entries one behind the other from an offset on, and their bytes. Their sections ascend.
pub data Entries (object : Elf) (relocs : List Reloc) : ℕ → ℕ → List Entry → List ℕ → Type 0 where
  none : (at least : ℕ) → Entries object relocs at least [] []
  next : (at least : ℕ) (entry : Entry) (entries : List Entry) (spelled bytes behind : List ℕ) → IsEntry at bytes entry.size spelled behind → EntryAt object relocs at least entry spelled → Entries object relocs (at + 17 + length spelled) (entry.sec + 1) entries behind → Entries object relocs at least (entry ∷ entries) bytes

-- The object's `.eh_frame` is the CIE, these entries and the terminator, and no relocation is there but those of the entries.
pub record HoldsEntries (object : Elf) (entries : List Entry) : Type 0 where
  pub relocs : List Reloc
  pub told : relocs_named object (codes ".eh_frame") ≡ Some relocs
  pub bytes : List ℕ
  pub body : body_named object (codes ".eh_frame") ≡ Some (cie ++ (bytes ++ terminator))
  pub first : relocs_in relocs 0 24 ≡ []
  pub each : Entries object relocs 24 0 entries bytes
  pub last : relocs_from relocs (24 + length bytes) ≡ []

-- the rules of an entry
abbrev pub rules_of_entry : Entry → List PlacedRule
rules_of_entry entry = listed entry.sec entry.size (rule_at entry.instructions)

-- The object's `.eh_frame` says these rules: for each entry that at 0, and each that isn't the one before.
pub record HoldsRules (object : Elf) (rules : List PlacedRule) : Type 0 where
  pub entries : List Entry
  pub holds : HoldsEntries object entries
  pub told : rules ≡ flat_map rules_of_entry entries
