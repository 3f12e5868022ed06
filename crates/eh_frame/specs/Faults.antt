-- What is wrong with an `.eh_frame` that isn't of this profile: the first fault, record by record.
use Rattle.std.specs.Prelude.{◌≡◌, ◌≢◌, ◌⊎◌, ℕ, ◌+◌, ◌<◌, ◌≤◌, List, [], ◌∷◌, ◌++◌, length, Some, None, codes}
use Rattle.elf_objects.specs.declared.symbol.Reloc.{Reloc}
use Rattle.elf_objects.specs.Elf.{Elf, SectionEntry}
use Rattle.orc_bytes.specs.Sections.{body_named, relocs_named, section_named}
use Rattle.eh_frame.specs.declared.instruction.Instruction.{Instruction}
use Rattle.eh_frame.specs.declared.fault.EhFault.{EhFault}
use Rattle.eh_frame.specs.declared.fault.EhFault.TheVariants.{NoSection, BadRecord, BadReloc, BadOp, NoMemory}
use Rattle.eh_frame.specs.Spelling.{Spells, SpellsAll}
use Rattle.eh_frame.specs.Rules.{moves, moves_all}
use Rattle.eh_frame.specs.Records.{cie, terminator, Entry, IsEntry, Entries, NamesSection, relocs_in, relocs_from}

-- The bytes of an entry's instructions begin with these instructions, which stay within its section, and behind them, at this
-- many bytes, stands none that does.
pub record StopsAt (size : ℕ) (spelled : List ℕ) (at : ℕ) : Type 0 where
  pub before : List Instruction
  pub front : List ℕ
  pub left : List ℕ
  pub whole : spelled ≡ front ++ left
  pub len : at ≡ length front
  pub read : SpellsAll before front
  pub inside : moves_all before ≤ size
  pub more : left ≢ []
  pub none : (i : Instruction) (own behind : List ℕ) → Spells i own → left ≡ own ++ behind → moves_all before + moves i ≤ size → ⊥

-- The size of the entry's section, and that this is none before the least that may come.
pub record IsInOrder (size least sec : ℕ) (section : SectionEntry) : Type 0 where
  pub whole : size ≡ section.size
  pub later : least ≤ sec

-- The fault of the record that begins at an offset with these bytes, behind entries without one. `least` is the least section that
-- may come. Each cause supposes that those before it aren't there.
pub data RecordFault (object : Elf) (relocs : List Reloc) (at least : ℕ) (bytes : List ℕ) : EhFault → Type 0 where
  record_bytes : bytes ≢ terminator → ((size : ℕ) (spelled behind : List ℕ) → IsEntry at bytes size spelled behind → ⊥) → RecordFault object relocs at least bytes (BadRecord at)
  last_reloc : bytes ≡ terminator → relocs_from relocs at ≢ [] → RecordFault object relocs at least bytes (BadReloc at)
  entry_reloc : (size : ℕ) (spelled behind : List ℕ) → IsEntry at bytes size spelled behind → ((sec : ℕ) (section : SectionEntry) → NamesSection object relocs at (at + 17 + length spelled) sec section → ⊥) → RecordFault object relocs at least bytes (BadReloc at)
  entry_section : (size : ℕ) (spelled behind : List ℕ) (sec : ℕ) (section : SectionEntry) → IsEntry at bytes size spelled behind → NamesSection object relocs at (at + 17 + length spelled) sec section → (IsInOrder size least sec section → ⊥) → RecordFault object relocs at least bytes (BadRecord at)
  instruction : (size : ℕ) (spelled behind : List ℕ) (sec : ℕ) (section : SectionEntry) (stop : ℕ) → IsEntry at bytes size spelled behind → NamesSection object relocs at (at + 17 + length spelled) sec section → IsInOrder size least sec section → StopsAt size spelled stop → RecordFault object relocs at least bytes (BadOp (at + 17 + stop))

-- the least section that may come behind entries
abbrev pub least_behind : ℕ → List Entry → ℕ
least_behind least [] = least
least_behind least (entry ∷ entries) = least_behind (entry.sec + 1) entries

-- what the section has: its body and its relocations
pub record HasFrames (object : Elf) (body : List ℕ) (relocs : List Reloc) : Type 0 where
  pub bytes : body_named object (codes ".eh_frame") ≡ Some body
  pub told : relocs_named object (codes ".eh_frame") ≡ Some relocs

-- the first fault
pub data FirstFault (object : Elf) : EhFault → Type 0 where
  no_section : section_named object (codes ".eh_frame") ≡ None → FirstFault object NoSection
  cie_bytes : (body : List ℕ) (relocs : List Reloc) → HasFrames object body relocs → ((behind : List ℕ) → body ≡ cie ++ behind → ⊥) → FirstFault object (BadRecord 0)
  cie_reloc : (relocs : List Reloc) (behind : List ℕ) → HasFrames object (cie ++ behind) relocs → relocs_in relocs 0 24 ≢ [] → FirstFault object (BadReloc 0)
  later : (relocs : List Reloc) (entries : List Entry) (bytes behind : List ℕ) (fault : EhFault) → HasFrames object (cie ++ (bytes ++ behind)) relocs → relocs_in relocs 0 24 ≡ [] → Entries object relocs 24 0 entries bytes → RecordFault object relocs (24 + length bytes) (least_behind 0 entries) behind fault → FirstFault object fault

-- why decoding refuses: the first fault, or want of memory
abbrev pub Refuses : Elf → EhFault → Type 0
Refuses object fault = (fault ≡ NoMemory) ⊎ FirstFault object fault
