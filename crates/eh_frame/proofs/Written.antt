-- The object with the section symbols may have the frame sections, and what comes of it.
use Rattle.std.proofs.Common.{◌≡◌, ℕ, ◌<◌, ◌≤◌, List, get_or, true, refl, sym, ap, subst, ◌∙◌, arith}
use Rattle.std.specs.Prelude.{◌==◌, Some, slice_get}
use Rattle.std.proofs.lemmas.Bool.{eq-eqb}
use Rattle.std.proofs.lemmas.List.Elements.{All-weaker}
use Rattle.std.proofs.lemmas.List.Folds.{list_any_at}
use Rattle.std.proofs.lemmas.Option.{get_or_from_slice_get, slice_get_within}
use Rattle.ot_base.specs.declared.row.PlacedRow.{PlacedRow}
use Rattle.elf_objects.specs.Contents.{is_text, no_section, section_at}
use Rattle.elf_objects.specs.Elf.{Elf, SectionEntry}
use Rattle.elf_objects.specs.Object.{IsObject}
use Rattle.elf_write.specs.Object.{appended_to}
use Rattle.elf_write.specs.AddedSymbols.{IsAdded}
use Rattle.elf_write.proofs.Same.{added}
use Rattle.orc_output.specs.Needed.{has_row, needed_symbols}
use Rattle.orc_output.specs.Tables.{IsRowIn, with_symbols}
use Rattle.orc_output.proofs.Extended.{stays}
use Rattle.orc_output.proofs.Inserted.{names_stay, no_more, short_bytes, symbols_added}
use Rattle.orc_output.proofs.Insertable.{HasRoom, can_insert, inserted_bound}
use Rattle.orc_output.proofs.Known.{Known, known}
use Rattle.orc_output.proofs.NeededSections.{needs_one}
use Rattle.orc_output.proofs.RowPlaces.{has_symbol, sections_stay, size_within, text_stays}
use Rattle.eh_frame.specs.RowFrames.{IsFrameRowOf}
use Rattle.eh_frame.proofs.FrameLaw.{no_rule_behind, rule_is_of_last_row}
use Rattle.eh_frame.specs.FrameOutput.{CanHaveSections, IsOther, frame_sections}
use Rattle.eh_frame.specs.Framed.{FollowsRows, IsFit, IsFrameRowIn, IsFramed, framed_object}
use Rattle.eh_frame.proofs.Addable.{can_add}
use Rattle.eh_frame.proofs.Held.{held}

pub has_room : (o : Elf) (rows : List PlacedRow) → IsFit o rows → HasRoom o rows
has_room o rows fit = record {
  bytes = fit.bytes;
  object = fit.object;
  each = All-weaker (IsFrameRowIn o) (IsRowIn o) (λ placed is. is.place) rows fit.can.each;
  sections = (let few = fit.can.few in omega arith);
  short = fit.can.short;
  few = fit.few;
}

-- each row has its place
row_of : (o : Elf) (rows : List PlacedRow) → IsFit o rows → (placed : PlacedRow) → has_row rows placed.place.sec ≡ true → IsFrameRowIn o placed → IsFrameRowOf (with_symbols o rows) placed
row_of o rows fit placed has row =
    let is = row.place in
    let sec : ℕ = placed.place.sec in
    let size = size_within o.bytes o sec is.section fit.object is.at is.text in
    let short = fit.can.short in
    record {
      section = is.section;
      at = text_stays o (needed_symbols o rows) sec is.section is.at is.text;
      text = is.text;
      symbol = has_symbol o (needed_symbols o rows) sec (symbols_added o rows (has_room o rows fit)).same (λ free. needs_one o rows sec (slice_get_within o.sections sec is.section is.at) has free);
      inside = is.inside;
      short = omega arith;
      row = row.row;
    }

pub can_have_sections : (o : Elf) (rows : List PlacedRow) → IsFit o rows → CanHaveSections (with_symbols o rows) rows
can_have_sections o rows fit =
    let secs : List ℕ = needed_symbols o rows in
    let sections = sections_stay o secs in
    let few = fit.can.few in
    record {
      frames = record {
        each = λ k d inside. row_of o rows fit _ (list_any_at (λ (placed : PlacedRow). placed.place.sec == (get_or rows k d).place.sec) rows k d inside (eq-eqb _ _ refl)) (fit.can.each k d inside);
        ascend = fit.can.ascend;
        few = fit.can.few_rows;
      };
      none = names_stay IsOther (λ s t e is. record { frame = λ z. is.frame (sym e ∙ z); rela = λ z. is.rela (sym e ∙ z) }) o secs fit.can.none;
      few = omega arith;
      short = short_bytes o secs (inserted_bound o rows (has_room o rows fit));
    }

-- With the frame sections it has the frames.
pub is_framed : (o : Elf) (rows : List PlacedRow) (b : List ℕ) (p : Elf) (file : List ℕ) → IsFit o rows → IsObject b p → p ≡ with_symbols o rows
    → file ≡ appended_to p (frame_sections p rows) → IsFramed o rows file
is_framed o rows b p file fit object is layout =
    let secs : List ℕ = needed_symbols o rows in
    let n : Elf = with_symbols o rows in
    let facts = known b n (subst (IsObject b) is object) in
    let have = can_have_sections o rows fit in
    let can = can_add n rows facts have in
    let done = added o.bytes o secs (frame_sections n rows) fit.bytes fit.object (can_insert o rows (has_room o rows fit)) can in
    record {
      added = subst (IsAdded o secs (frame_sections n rows)) (sym (layout ∙ ap (λ (x : Elf). appended_to x (frame_sections x rows)) is)) done;
      holds = held n rows facts have;
    }

-- Where it has them, its rules are those of the rows.
pub follows_rows : (o : Elf) (rows : List PlacedRow) (file : List ℕ) → IsFit o rows → IsFramed o rows file → FollowsRows o rows file
follows_rows o rows file fit framed = record {
  read = framed.added.object;
  inside = λ place section at text below. rule_is_of_last_row (framed_object o rows) rows place framed.holds (subst (λ (n : ℕ). place.off < n) (size place.sec section at text) below);
  behind = λ place section at text above. no_rule_behind (framed_object o rows) rows place framed.holds (subst (λ (n : ℕ). n ≤ place.off) (size place.sec section at text) above);
}
  where
    facts : Known (with_symbols o rows)
    facts = known (appended_to (with_symbols o rows) no_more) (with_symbols o rows) (symbols_added o rows (has_room o rows fit)).object

    size : (sec : ℕ) (section : SectionEntry) → slice_get o.sections sec ≡ Some section → is_text section ≡ true → section.size ≡ (section_at (framed_object o rows) sec).size
    size sec section at text =
        let there : slice_get (framed_object o rows).sections sec ≡ Some section = stays (with_symbols o rows) (frame_sections (with_symbols o rows) rows) facts sec section (text_stays o (needed_symbols o rows) sec section at text) text in
        sym (ap (λ (s : SectionEntry). s.size) (get_or_from_slice_get (framed_object o rows).sections sec section no_section there))
