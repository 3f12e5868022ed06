-- The object with the section symbols may have the ORC sections, and what comes of it.
use Rattle.std.proofs.Common.{◌≡◌, ℕ, List, get_or, true, refl, sym, ap, subst, ◌∙◌, arith}
use Rattle.std.specs.Prelude.{◌==◌}
use Rattle.std.proofs.lemmas.Bool.{eq-eqb}
use Rattle.std.proofs.lemmas.List.Folds.{list_any_at}
use Rattle.std.proofs.lemmas.Option.{slice_get_within}
use Rattle.ot_base.specs.declared.row.PlacedRow.{PlacedRow}
use Rattle.elf_objects.specs.Elf.{Elf}
use Rattle.elf_objects.specs.Object.{IsObject}
use Rattle.elf_write.specs.Object.{appended_to}
use Rattle.elf_write.specs.AddedSymbols.{IsAdded}
use Rattle.elf_write.proofs.Same.{added}
use Rattle.orc_bytes.specs.Sections.{IsRowOf}
use Rattle.orc_output.specs.OrcOutput.{CanHaveOrc, IsOther, orc_sections}
use Rattle.orc_output.proofs.Addable.{can_add}
use Rattle.orc_output.proofs.Known.{known}
use Rattle.orc_output.proofs.Held.{held}
use Rattle.orc_output.specs.Needed.{has_row, needed_symbols}
use Rattle.orc_output.specs.Tables.{HasTables, IsFit, IsRowIn, with_symbols}
use Rattle.orc_output.proofs.Inserted.{names_stay, short_bytes, symbols_added}
use Rattle.orc_output.proofs.Insertable.{HasRoom, can_insert, inserted_bound}
use Rattle.orc_output.proofs.NeededSections.{needs_one}
use Rattle.orc_output.proofs.RowPlaces.{has_symbol, sections_stay, size_within, text_stays}

pub has_room : (o : Elf) (rows : List PlacedRow) → IsFit o rows → HasRoom o rows
has_room o rows fit = record {
  bytes = fit.bytes;
  object = fit.object;
  each = fit.can.each;
  sections = (let few = fit.can.few in omega arith);
  short = fit.can.short;
  few = fit.few;
}

-- each row has its place
row_of : (o : Elf) (rows : List PlacedRow) → IsFit o rows → (placed : PlacedRow) → has_row rows placed.place.sec ≡ true → IsRowIn o placed → IsRowOf (with_symbols o rows) placed
row_of o rows fit placed has is =
    let sec : ℕ = placed.place.sec in
    let size = size_within o.bytes o sec is.section fit.object is.at is.text in
    let short = fit.can.short in
    let inside = is.inside in
    record {
      section = is.section;
      at = text_stays o (needed_symbols o rows) sec is.section is.at is.text;
      text = is.text;
      symbol = has_symbol o (needed_symbols o rows) sec (symbols_added o rows (has_room o rows fit)).same (λ free. needs_one o rows sec (slice_get_within o.sections sec is.section is.at) has free);
      inside = inside;
      addend = omega arith;
      row = is.row;
    }

pub can_have_orc : (o : Elf) (rows : List PlacedRow) → IsFit o rows → CanHaveOrc (with_symbols o rows) rows
can_have_orc o rows fit =
    let secs : List ℕ = needed_symbols o rows in
    let sections = sections_stay o secs in
    let few = fit.can.few in
    record {
      each = λ k d inside. row_of o rows fit _ (list_any_at (λ (placed : PlacedRow). placed.place.sec == (get_or rows k d).place.sec) rows k d inside (eq-eqb _ _ refl)) (fit.can.each k d inside);
      none = names_stay IsOther (λ s t e is. record { table = λ z. is.table (sym e ∙ z); ip = λ z. is.ip (sym e ∙ z); rela = λ z. is.rela (sym e ∙ z) }) o secs fit.can.none;
      few = omega arith;
      short = short_bytes o secs (inserted_bound o rows (has_room o rows fit));
      few_rows = fit.can.few_rows;
    }

-- With the ORC sections it has the tables.
pub has_tables : (o : Elf) (rows : List PlacedRow) (b : List ℕ) (p : Elf) (file : List ℕ) → IsFit o rows → IsObject b p → p ≡ with_symbols o rows
    → file ≡ appended_to p (orc_sections p rows) → HasTables o rows file
has_tables o rows b p file fit object is layout =
    let secs : List ℕ = needed_symbols o rows in
    let n : Elf = with_symbols o rows in
    let facts = known b n (subst (IsObject b) is object) in
    let orc = can_have_orc o rows fit in
    let can = can_add n rows facts orc in
    let done = added o.bytes o secs (orc_sections n rows) fit.bytes fit.object (can_insert o rows (has_room o rows fit)) can in
    record {
      added = subst (IsAdded o secs (orc_sections n rows)) (sym (layout ∙ ap (λ (x : Elf). appended_to x (orc_sections x rows)) is)) done;
      holds = held n rows facts orc;
    }
