-- What the rows of an object's program are, so that they become its ORC sections.
use Rattle.std.specs.Prelude.{◌≡◌, ℕ, ◌+◌, ◌^◌, ◌<◌, ◌≤◌, true, length, Option, Some, All, slice_get}
use Rattle.ot_base.specs.NameLists.{NameLists}
use Rattle.ot_base.specs.declared.row.PlacedRow.{PlacedRow}
use Rattle.state_defs.specs.declared.state.State.{State}
use Rattle.elf_objects.specs.declared.TheConstants.{MAX_SECTIONS, MAX_TEXT_BYTES}
use Rattle.elf_objects.specs.Elf.{SectionEntry}
use Rattle.flow_defs.specs.Coded.{Coded}
use Rattle.elf_objects.specs.Contents.{is_text}
use Rattle.elf_objects.specs.Object.{IsObject}
use Rattle.machine_defs.specs.Broken.{IsAccepted}
use Rattle.machine_defs.specs.Kept.{AreKeptStates}
use Rattle.machine_defs.specs.Rows.{rows_of}
use Rattle.orc_bytes.specs.RowBytes.{IsRow}
use Rattle.flow_defs.specs.Program.{program_of}

-- The row lies in a text section, at an offset up to the section's size that an addend can hold, and six bytes hold it.
-- It is a row of the object (`IsRowOf` of orc_bytes) but for the symbol that has to stand for its section.
pub record IsPlacedRow (o : Coded) (placed : PlacedRow) : Type 0 where
  pub section : SectionEntry
  pub at : slice_get o.elf.sections placed.place.sec ≡ Some section
  pub text : is_text section ≡ true
  pub inside : placed.place.off ≤ section.size
  pub addend : placed.place.off < 2 ^ 63
  pub row : IsRow placed.row

-- The rows of the kept states of an object's program that breaks no rule lie so.
abbrev pub RowsArePlaced : Type 0
RowsArePlaced =
    (o : Coded) (lists : NameLists) (states : ℕ → Option State)
    → IsObject o.elf.bytes o.elf → IsAccepted (program_of o lists) → AreKeptStates (program_of o lists) states
    → All (IsPlacedRow o) (rows_of (program_of o lists) states)

-- No states have more rows than there may be bytes of text and sections.
abbrev pub RowsAreFew : Type 0
RowsAreFew =
    (o : Coded) (lists : NameLists) (states : ℕ → Option State)
    → IsObject o.elf.bytes o.elf → length (rows_of (program_of o lists) states) ≤ MAX_TEXT_BYTES + MAX_SECTIONS
