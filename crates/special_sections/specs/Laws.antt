-- What holds of the special sections of every object.
use Rattle.std.specs.Prelude.{◌≡◌, ℕ, ◌*◌, ◌≤◌, List, [], length, Contains}
use Rattle.elf_objects.specs.Elf.{Elf}
use Rattle.elf_objects.specs.Object.{IsObject}
use Rattle.special_sections.specs.declared.entries.AltEntry.{AltEntry}
use Rattle.special_sections.specs.Kinds.{faults}
use Rattle.special_sections.specs.Nested.{nested}
use Rattle.special_sections.specs.Special.{special_of}
use Rattle.special_sections.specs.Tables.{alternatives}

-- Where no alternative of an object has a fault, 48 times their number is at most the number of the object's bytes.
abbrev pub AlternativesAreFew : Type 0
AlternativesAreFew = (b : List ℕ) (o : Elf) → IsObject b o → faults alternatives o ≡ [] → 48 * length (special_of o).alternatives ≤ length b

-- An alternative is an entry as it is written, but for the length of its original: that is of an entry at the same place,
-- is no less than its own, and is 0 where its own is.
pub record IsNestedFrom (entries : List AltEntry) (a : AltEntry) : Type 0 where
  pub own : AltEntry
  pub written : Contains entries own
  pub same : a ≡ record own { original_len = a.original_len }
  pub longest : AltEntry
  pub longest_written : Contains entries longest
  pub at_one_place : longest.original ≡ own.original
  pub longest_len : a.original_len ≡ longest.original_len
  pub no_less : own.original_len ≤ a.original_len
  pub none : own.original_len ≡ 0 → a.original_len ≡ 0

abbrev pub AlternativesAreNested : Type 0
AlternativesAreNested = (entries : List AltEntry) (a : AltEntry) → Contains (nested entries) a → IsNestedFrom entries a
