-- An object with the call frame information of some rows, and with the section symbols that it needs.
use Rattle.std.specs.Prelude.{◌≡◌, ℕ, ◌+◌, ◌<◌, ◌≤◌, true, List, Some, length, slice_get, All, AllPairs}
use Rattle.ot_base.specs.declared.place.Place.{Place}
use Rattle.ot_base.specs.declared.row.PlacedRow.{PlacedRow}
use Rattle.elf_objects.specs.Contents.{is_text}
use Rattle.elf_objects.specs.Elf.{Elf, SectionEntry}
use Rattle.elf_objects.specs.declared.TheConstants.{MAX_FILE_BYTES, MAX_SYMBOLS}
use Rattle.elf_objects.specs.Object.{IsObject}
use Rattle.elf_write.specs.AddedSymbols.{IsAdded}
use Rattle.elf_write.specs.Room.{AreBytes}
use Rattle.table_defs.specs.Order.{ComesBefore}
use Rattle.orc_output.specs.Needed.{needed_symbols}
use Rattle.orc_output.specs.Tables.{IsRowIn, symbols_needed, with_symbols}
use Rattle.eh_frame.specs.Laws.{HoldsFrames}
use Rattle.eh_frame.specs.declared.rule.CfaRule.TheVariants.{Undefined}
use Rattle.eh_frame.specs.RowFrames.{rule_by_rows, IsFrameRow}
use Rattle.eh_frame.specs.RuleAt.{HasRule}
use Rattle.eh_frame.specs.FrameOutput.{IsOther, frame_sections, with_frames_object}

-- The row lies in a text section of the object in which a symbol is defined, at an offset up to the section's size, and it is one
-- that call frame information can tell.
pub record IsFrameRowIn (o : Elf) (placed : PlacedRow) : Type 0 where
  pub place : IsRowIn o placed
  pub row : IsFrameRow placed.row

-- The rows lie in the object and strictly ascend by their places; the object has no frame section yet, room for two sections, and
-- the size of a file that is read; and there are at most so many rows as such a file has places.
pub record CanBeFramed (o : Elf) (rows : List PlacedRow) : Type 0 where
  pub each : All (IsFrameRowIn o) rows
  pub ascend : AllPairs (λ one other. ComesBefore one.place other.place) rows
  pub none : All IsOther o.sections
  pub few : length o.sections + 2 ≤ 262144
  pub short : length o.bytes ≤ MAX_FILE_BYTES
  pub few_rows : length rows ≤ 67108865

-- the object with the section symbols and the frame sections
abbrev pub framed_object : Elf → List PlacedRow → Elf
framed_object o rows = with_frames_object (with_symbols o rows) rows

-- The object is what its bytes say and can have the frame sections, with which it has few enough symbols.
pub record IsFit (o : Elf) (rows : List PlacedRow) : Type 0 where
  pub bytes : AreBytes o.bytes
  pub object : IsObject o.bytes o
  pub can : CanBeFramed o rows
  pub few : symbols_needed o rows ≤ MAX_SYMBOLS

-- These bytes are the object with the needed section symbols and the call frame information of exactly these rows.
pub record IsFramed (o : Elf) (rows : List PlacedRow) (file : List ℕ) : Type 0 where
  pub added : IsAdded o (needed_symbols o rows) (frame_sections (with_symbols o rows) rows) file
  pub holds : HoldsFrames (framed_object o rows) rows

-- What is read of these bytes has at each place of a text section of the object the rule of the last row at or below it in its
-- section; and none from the section's size on.
pub record FollowsRows (o : Elf) (rows : List PlacedRow) (file : List ℕ) : Type 0 where
  pub read : IsObject file (framed_object o rows)
  pub inside : (place : Place) (section : SectionEntry) → slice_get o.sections place.sec ≡ Some section → is_text section ≡ true → place.off < section.size → HasRule (framed_object o rows) place (rule_by_rows rows place.sec place.off)
  pub behind : (place : Place) (section : SectionEntry) → slice_get o.sections place.sec ≡ Some section → is_text section ≡ true → section.size ≤ place.off → HasRule (framed_object o rows) place Undefined
