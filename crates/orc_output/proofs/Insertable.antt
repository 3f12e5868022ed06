-- The section symbols that rows need may be inserted.
use Rattle.std.proofs.Common.{◌≡◌, ℕ, zero, suc, ◌+◌, ◌<◌, ◌≤◌, List, length, true, Some, ap, ◌∙◌, arith}
use Rattle.std.specs.Prelude.{All, IsSome, slice_get}
use Rattle.std.proofs.lemmas.Bool.{and_parts, eqb-true}
use Rattle.std.proofs.lemmas.List.Elements.{All-weaker}
use Rattle.std.proofs.lemmas.Option.{get_or_from_slice_get}
use Rattle.ot_base.specs.declared.row.PlacedRow.{PlacedRow}
use Rattle.elf_objects.specs.Contents.{is_text, no_section, section_at}
use Rattle.elf_objects.specs.Elf.{Elf, SectionEntry}
use Rattle.elf_objects.specs.Object.{IsObject}
use Rattle.elf_objects.specs.declared.TheConstants.{MAX_FILE_BYTES, MAX_SYMBOLS, SHN_LORESERVE, SHT_PROGBITS}
use Rattle.elf_write.specs.Room.{AreBytes}
use Rattle.elf_write.specs.SymbolLayout.{index_table, symbols_inserted}
use Rattle.elf_write.specs.SymbolObject.{CanInsert}
use Rattle.elf_write.specs.Taken.{AreFree}
use Rattle.orc_output.proofs.Known.{known}
use Rattle.orc_output.specs.Needed.{has_row, needed_symbols}
use Rattle.orc_output.specs.Tables.{IsRowIn, symbols_needed}
use Rattle.orc_output.proofs.DefinedHomes.{has_numbers}
use Rattle.orc_output.proofs.FileBound.{length-inserted}
use Rattle.orc_output.proofs.NeededSections.{IsNamedText, IsNameless, each_needed, needed_rise, section_of_row}

pub text_kind : (s : SectionEntry) → is_text s ≡ true → s.kind ≡ SHT_PROGBITS
text_kind s text = eqb-true s.kind SHT_PROGBITS (and_parts _ _ text).0

-- section 0 is no text section
pub not_first : (o : Elf) (sec : ℕ) (section : SectionEntry) → IsObject o.bytes o → slice_get o.sections sec ≡ Some section → is_text section ≡ true → 1 ≤ sec
not_first o sec section ok at text =
    let null = (known o.bytes o ok).first_kind in
    let kind : (section_at o sec).kind ≡ SHT_PROGBITS =
    ap (λ (s : SectionEntry). s.kind) (get_or_from_slice_get o.sections sec section no_section at) ∙ text_kind section text in
    above sec kind null
  where
    above : (n : ℕ) → (section_at o n).kind ≡ 1 → (section_at o 0).kind ≡ 0 → 1 ≤ n
    above zero kind null = absurd (omega arith)
    above (suc n) kind null = omega arith

-- how long a file that was read is with new symbols
pub length-bound : (o : Elf) (secs : List ℕ) → IsObject o.bytes o → (0 < length secs → 1 ≤ length o.symbols) → length o.symbols + length secs ≤ MAX_SYMBOLS
    → length o.sections ≤ 262144 → length o.bytes ≤ MAX_FILE_BYTES → length (symbols_inserted o secs) ≤ 268435456
length-bound o secs ok some few sections short = omega (arith, length-inserted o.bytes o secs ok some)

-- The object is what its bytes say and has the size of a file that is read; the rows lie in it, and need few enough symbols.
pub record HasRoom (o : Elf) (rows : List PlacedRow) : Type 0 where
  pub bytes : AreBytes o.bytes
  pub object : IsObject o.bytes o
  pub each : All (IsRowIn o) rows
  pub sections : length o.sections ≤ 262144
  pub short : length o.bytes ≤ MAX_FILE_BYTES
  pub few : symbols_needed o rows ≤ MAX_SYMBOLS

all_named : (o : Elf) (rows : List PlacedRow) → HasRoom o rows → All (IsNamedText o) (needed_symbols o rows)
all_named o rows room =
    All-weaker (IsNameless o (has_row rows)) (IsNamedText o) (λ sec is. section_of_row o rows sec room.each is.named) (needed_symbols o rows) (each_needed o rows)

pub all_free : (o : Elf) (rows : List PlacedRow) → AreFree o (needed_symbols o rows)
all_free o rows k d inside = (each_needed o rows k d inside).free

-- one symbol is defined in the first of the sections
some_symbols : (o : Elf) (rows : List PlacedRow) → HasRoom o rows → 0 < length (needed_symbols o rows) → 1 ≤ length o.symbols
some_symbols o rows room some =
    let named = (all_named o rows room 0 0 some).named in
    omega (arith, named.known)

pub inserted_bound : (o : Elf) (rows : List PlacedRow) → HasRoom o rows → length (symbols_inserted o (needed_symbols o rows)) ≤ 268435456
inserted_bound o rows room =
    length-bound o (needed_symbols o rows) room.object (some_symbols o rows room) room.few room.sections room.short

pub can_insert : (o : Elf) (rows : List PlacedRow) → HasRoom o rows → CanInsert o (needed_symbols o rows)
can_insert o rows room =
    let secs : List ℕ = needed_symbols o rows in
    let bound = inserted_bound o rows room in
    record {
      rising = needed_rise o rows;
      some = All-weaker (IsNamedText o) (λ sec. 1 ≤ sec) (λ sec is. not_first o sec is.section room.object is.at is.text) secs (all_named o rows room);
      exist = All-weaker (IsNameless o (has_row rows)) (λ sec. sec < length o.sections) (λ sec is. is.exists) secs (each_needed o rows);
      symbols = some_symbols o rows room;
      few = room.few;
      numbers = All-weaker (IsNamedText o) (λ sec. SHN_LORESERVE ≤ sec → IsSome (index_table o)) (λ sec is. has_numbers o.bytes o sec room.object is.named) secs (all_named o rows room);
      short = omega arith;
    }
