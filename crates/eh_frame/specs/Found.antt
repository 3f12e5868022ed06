-- What the code finds of the records of `.eh_frame`.
use Rattle.std.specs.Prelude.{◌≡◌, ℕ, ◌+◌, ◌<◌, ◌≤◌, All, List, [], ◌++◌, length, drop, flat_map}
use Rattle.elf_objects.specs.declared.symbol.Reloc.{Reloc}
use Rattle.elf_objects.specs.Elf.{Elf}
use Rattle.elf_objects.specs.Contents.{section_at}
use Rattle.eh_frame.specs.declared.reading.Found.{Found}
use Rattle.eh_frame.specs.declared.rule.PlacedRule.{PlacedRule}
use Rattle.eh_frame.specs.Records.{terminator, Entry, Entries, IsEntry, NamesSection, relocs_from, rules_of_entry}
use Rattle.eh_frame.specs.Faults.{IsInOrder}

-- An entry stands at the beginning of these bytes, and its relocation before the others.
pub record IsFound (object : Elf) (relocs : List Reloc) (at least : ℕ) (bytes : List ℕ) (left : List Reloc) (found : Found) : Type 0 where
  pub entry : IsEntry at bytes found.size found.spelled.now (drop (17 + length found.spelled.now) bytes)
  pub names : NamesSection object relocs at (at + 17 + length found.spelled.now) found.sec (section_at object found.sec)
  pub order : IsInOrder found.size least found.sec (section_at object found.sec)
  pub one : 1 ≤ length left
  pub others : All (λ r. at + 17 + length found.spelled.now ≤ r.offset) (drop 1 left)
  pub inside : 17 + length found.spelled.now ≤ length bytes
  pub known : found.sec < length object.sections

-- These bytes behind the CIE are entries and the terminator, with these rules.
pub record ReadsRecords (object : Elf) (relocs : List Reloc) (bytes : List ℕ) (rules : List PlacedRule) : Type 0 where
  pub entries : List Entry
  pub own : List ℕ
  pub whole : bytes ≡ own ++ terminator
  pub each : Entries object relocs 24 0 entries own
  pub last : relocs_from relocs (24 + length own) ≡ []
  pub told : rules ≡ flat_map rules_of_entry entries
