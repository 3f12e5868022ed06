-- How long the call frame information of rows is at most.
use Rattle.std.proofs.Common.{◌≡◌, ℕ, ◌+◌, ◌*◌, ◌<◌, ◌≤◌, Bool, true, false, cond, List, [], ◌∷◌, ◌++◌, length, refl, sym, ◌∙◌, arith, length-append}
use Rattle.std.specs.Prelude.{◌==◌, filter}
use Rattle.std.specs.List.{range_with_len}
use Rattle.std.proofs.lemmas.Bool.{eqb-true, le-leb, leb-true, true≢false}
use Rattle.std.proofs.lemmas.List.FromFn.{length-range_with_len}
use Rattle.std.proofs.lemmas.List.Sums.{length-filter, count_by-le-length}
use Rattle.std.proofs.Math.Dec.{leb}
use Rattle.ot_base.specs.declared.row.PlacedRow.{PlacedRow}
use Rattle.elf_objects.specs.Contents.{section_at}
use Rattle.elf_objects.specs.Elf.{Elf}
use Rattle.eh_frame.specs.Records.{cie, entry_bytes, terminator}
use Rattle.eh_frame.specs.RowFrames.{entries_bytes, frame_rela, frame_section, frame_slots, has_row, rows_in, sections_with, slots_from, spelled_in}
use Rattle.eh_frame.proofs.EntryLemmas.{entry_length}
use Rattle.eh_frame.proofs.FrameLaw.{AscendFrom, range_ascends}
use Rattle.eh_frame.proofs.RowSpelling.{spelled_bound}

-- The rows of sections that ascend are no more than those from the first section on.

abbrev rows_from : List PlacedRow → ℕ → List PlacedRow
rows_from rows least = filter (λ placed. leb least placed.place.sec) rows

one : Bool → ℕ
one true = 1
one false = 0

one_le : (sec least s : ℕ) → least ≤ sec → (a b c : Bool) → (s == sec) ≡ a → leb (sec + 1) s ≡ b → leb least s ≡ c → one a + one b ≤ one c
unfolding one
one_le sec least s h true true c e f g = absurd (let same = eqb-true s sec e in let above = leb-true (sec + 1) s f in omega arith)
one_le sec least s h true false true e f g = omega arith
one_le sec least s h true false false e f g = let same = eqb-true s sec e in absurd (true≢false (sym (le-leb least s (omega arith)) ∙ g))
one_le sec least s h false true true e f g = omega arith
one_le sec least s h false true false e f g = let above = leb-true (sec + 1) s f in absurd (true≢false (sym (le-leb least s (omega arith)) ∙ g))
one_le sec least s h false false true e f g = omega arith
one_le sec least s h false false false e f g = omega arith

kept : {X : Type 0} (b : Bool) (x : X) (xs : List X) → length (cond b (x ∷ xs) xs) ≡ length xs + one b
unfolding one
kept true x xs = omega arith
kept false x xs = omega arith

split : (rows : List PlacedRow) (sec least : ℕ) → least ≤ sec → length (rows_in rows sec) + length (rows_from rows (sec + 1)) ≤ length (rows_from rows least)
split [] sec least h = omega arith
split (placed ∷ rows) sec least h =
    let rest = split rows sec least h in
    let a = kept (placed.place.sec == sec) placed (rows_in rows sec) in
    let b = kept (leb (sec + 1) placed.place.sec) placed (rows_from rows (sec + 1)) in
    let c = kept (leb least placed.place.sec) placed (rows_from rows least) in
    let d = one_le sec least placed.place.sec h (placed.place.sec == sec) (leb (sec + 1) placed.place.sec) (leb least placed.place.sec) refl refl refl in
    omega arith

-- The entries.

entries_bound : (o : Elf) (rows : List PlacedRow) (secs : List ℕ) (at least : ℕ) → AscendFrom least secs → length (entries_bytes o rows at secs) ≤ 26 * length secs + 16 * length (rows_from rows least)
unfolding AscendFrom
entries_bound o rows [] at least up = omega arith
entries_bound o rows (sec ∷ secs) at least up =
    let own : length (spelled_in o rows sec) ≤ 9 + 16 * length (rows_in rows sec) = spelled_bound (section_at o sec).size (rows_in rows sec) in
    let rest = entries_bound o rows secs (at + 17 + length (spelled_in o rows sec)) (sec + 1) up.1 in
    let parts = length-append (entry_bytes at (section_at o sec).size (spelled_in o rows sec)) (entries_bytes o rows (at + 17 + length (spelled_in o rows sec)) secs) in
    let long = entry_length at (section_at o sec).size (spelled_in o rows sec) in
    let both = split rows sec least up.0 in
    omega arith

few_sections : (o : Elf) (rows : List PlacedRow) → length (sections_with o rows) ≤ length o.sections
few_sections o rows =
    let a = length-filter (has_row rows) (range_with_len 0 (length o.sections)) in
    let b = count_by-le-length (has_row rows) (range_with_len 0 (length o.sections)) in
    let c = length-range_with_len 0 (length o.sections) in
    omega arith

pub frame_bound : (o : Elf) (rows : List PlacedRow) → length (frame_section o rows) ≤ 28 + 26 * length o.sections + 16 * length rows
unfolding frame_section
frame_bound o rows =
    let entries : List ℕ = entries_bytes o rows 24 (sections_with o rows) in
    let most = entries_bound o rows (sections_with o rows) 24 0 (range_ascends (has_row rows) (length o.sections) 0) in
    let few = few_sections o rows in
    let a = length-filter (λ (placed : PlacedRow). leb 0 placed.place.sec) rows in
    let b = count_by-le-length (λ (placed : PlacedRow). leb 0 placed.place.sec) rows in
    let c : length (cie ++ (entries ++ terminator)) ≡ 24 + length (entries ++ terminator) = length-append cie (entries ++ terminator) in
    let d : length (entries ++ terminator) ≡ length entries + 4 = length-append entries terminator in
    omega arith

-- The relocations.

slots_length : (o : Elf) (rows : List PlacedRow) (secs : List ℕ) (at : ℕ) → length (slots_from o rows at secs) ≡ length secs
slots_length o rows [] at = refl
slots_length o rows (sec ∷ secs) at = let rest = slots_length o rows secs (at + 17 + length (spelled_in o rows sec)) in omega arith

pub few_slots : (o : Elf) (rows : List PlacedRow) → length (frame_slots o rows) ≤ length o.sections
unfolding frame_slots
few_slots o rows = let l = slots_length o rows (sections_with o rows) 24 in let few = few_sections o rows in omega arith
