-- What the files hold determines the rows and ranges of the objects that a layout names.
use Rattle.std.proofs.Common.{◌≡◌, ℕ, ◌+◌, List, [], ◌∷◌, ◌++◌, length, refl, sym, ap, ◌∙◌, subst, arith}
use Rattle.std.specs.Prelude.{⊤, IsPermutation, Option, Some, None, if◌then◌else◌, nat_le}
use Rattle.std.specs.Option.{option_or}
use Rattle.std.proofs.lemmas.List.Sums.{sum_by-cons}
use Rattle.std.specs.List.Sorted.{IsStableBy}
use Rattle.ot_base.specs.declared.row.PlacedRow.{PlacedRow}
use Rattle.ot_files.specs.Content.{Content}
use Rattle.table_defs.specs.declared.range.Range.{Range}
use Rattle.table_defs.specs.Lookup.{AddressedRow, addressed, comes_before}
use Rattle.elf_objects.specs.declared.TheConstants.{MAX_FILE_BYTES}
use Rattle.elf_objects.specs.Elf.{Elf}
use Rattle.orc_bytes.specs.Sections.{HoldsOrc}
use Rattle.orc_bytes.proofs.OneList.{one_list_fits}
use Rattle.orc_merge.specs.LayoutFile.{FileSaid, layout_files}
use Rattle.orc_merge.specs.MergeFaults.{merge_fault, number_of_rows, too_many, unended, unplaced}
use Rattle.orc_merge.specs.Overlaps.{first_overlap}
use Rattle.orc_merge.specs.Parts.{all_ranges, all_rows, first_in, owned_ranges, ranges_from, rows_of_part}
use Rattle.orc_merge.specs.declared.faults.MergeFault.{MergeFault}
use Rattle.orc_merge.specs.declared.faults.MergeFault.TheVariants.{TooMany}
use Rattle.orc_merge.specs.declared.merged.TheConstants.{MOST_ROWS}
use Rattle.orc_merge.specs.declared.part.Part.{Part}
use Rattle.command_base.specs.Unwind.{ranges_of}
use Rattle.command_base.proofs.DumpLaws.{one_object}
use Rattle.command_base.specs.Layouts.{IsLayoutOf}
use Rattle.command_base.specs.Merge.{IsTableOf}
use Rattle.command_base.specs.MergedObjects.{ArePartsOf, IsPart, IsPartOf}
use Rattle.command_base.specs.declared.layouts.TheConstants.{MAX_LAYOUT_BYTES}
use Rattle.command_base.proofs.Stops.{is_read, one_text}

-- two objects have the same rows and ranges
abbrev pub Same : Part → Part → Type 0
Same one other = (one.rows.items ≡ other.rows.items) × (one.ranges.items ≡ other.ranges.items)

-- each of these has the same as the one with its number of those
abbrev pub AllSame : List Part → List Part → Type 0
AllSame [] [] = ⊤
AllSame [] (other ∷ others) = ⊥
AllSame (one ∷ ones) [] = ⊥
AllSame (one ∷ ones) (other ∷ others) = Same one other × AllSame ones others

-- ---- what is the same of them

first_same : (fault : ℕ → Part → Option MergeFault) → ((k : ℕ) (one other : Part) → Same one other → fault k one ≡ fault k other) → (k : ℕ) (ones others : List Part) → AllSame ones others → first_in fault k ones ≡ first_in fault k others
first_same fault each k [] [] same = refl
first_same fault each k [] (other ∷ others) same = absurd same
first_same fault each k (one ∷ ones) [] same = absurd same
first_same fault each k (one ∷ ones) (other ∷ others) same =
    ap (λ o. option_or o (first_in fault (k + 1) ones)) (each k one other same.0) ∙ ap (option_or (fault k other)) (first_same fault each (k + 1) ones others same.1)

unplaced_same : (k : ℕ) (one other : Part) → Same one other → unplaced k one ≡ unplaced k other
unplaced_same k one other same = rw (same.0, same.1) refl

unended_same : (k : ℕ) (one other : Part) → Same one other → unended k one ≡ unended k other
unended_same k one other same = rw (same.0, same.1) refl

ranges_same : (k : ℕ) (ones others : List Part) → AllSame ones others → ranges_from k ones ≡ ranges_from k others
ranges_same k [] [] same = refl
ranges_same k [] (other ∷ others) same = absurd same
ranges_same k (one ∷ ones) [] same = absurd same
ranges_same k (one ∷ ones) (other ∷ others) same =
    ap (λ (ranges : List Range). owned_ranges k ranges ++ ranges_from (k + 1) ones) same.0.1 ∙ ap (λ rest. owned_ranges k other.ranges.items ++ rest) (ranges_same (k + 1) ones others same.1)

numbers_same : (ones others : List Part) → AllSame ones others → number_of_rows ones ≡ number_of_rows others
numbers_same [] [] same = refl
numbers_same [] (other ∷ others) same = absurd same
numbers_same (one ∷ ones) [] same = absurd same
numbers_same (one ∷ ones) (other ∷ others) same =
    let e : number_of_rows (one ∷ ones) ≡ length one.rows.items + number_of_rows ones = sum_by-cons (λ (part : Part). length part.rows.items) one ones in
    let f : number_of_rows (other ∷ others) ≡ length other.rows.items + number_of_rows others = sum_by-cons (λ (part : Part). length part.rows.items) other others in
    let g : length one.rows.items ≡ length other.rows.items = ap length same.0.0 in
    let h = numbers_same ones others same.1 in
    omega (arith, e, f, g, h)

rows_same : (ones others : List Part) → AllSame ones others → all_rows ones ≡ all_rows others
rows_same [] [] same = refl
rows_same [] (other ∷ others) same = absurd same
rows_same (one ∷ ones) [] same = absurd same
rows_same (one ∷ ones) (other ∷ others) same =
    ap (λ (front : List AddressedRow). front ++ all_rows ones) (part_same one other same.0) ∙ ap (λ (rest : List AddressedRow). rows_of_part other ++ rest) (rows_same ones others same.1)
  where
    part_same : (one other : Part) → Same one other → rows_of_part one ≡ rows_of_part other
    part_same one other same = ap (λ (ranges : List Range). addressed ranges one.rows.items) same.1 ∙ ap (λ (rows : List PlacedRow). addressed other.ranges.items rows) same.0

pub fault_same : (ones others : List Part) → AllSame ones others → merge_fault ones ≡ merge_fault others
fault_same ones others same =
    ap (λ o. option_or o (option_or (first_in unended 0 ones) (option_or (first_overlap [] (all_ranges ones)) (too_many ones)))) (first_same unplaced unplaced_same 0 ones others same)
    ∙ ap (λ o. option_or (first_in unplaced 0 others) (option_or o (option_or (first_overlap [] (all_ranges ones)) (too_many ones)))) (first_same unended unended_same 0 ones others same)
    ∙ ap (λ ranges. option_or (first_in unplaced 0 others) (option_or (first_in unended 0 others) (option_or (first_overlap [] ranges) (too_many ones)))) (ranges_same 0 ones others same)
    ∙ ap (λ o. option_or (first_in unplaced 0 others) (option_or (first_in unended 0 others) (option_or (first_overlap [] (all_ranges others)) o))) (many_same (number_of_rows ones) (number_of_rows others) (numbers_same ones others same))
  where
    many_of : ℕ → Option MergeFault
    many_of n = if nat_le n MOST_ROWS then None else Some (TooMany n)

    many_same : (m n : ℕ) → m ≡ n → many_of m ≡ many_of n
    many_same m n e = ap many_of e

pub table_same : (ones others : List Part) (table : List ℕ) → AllSame ones others → IsTableOf ones table → IsTableOf others table
table_same ones others table same is =
    let rows = rows_same ones others same in
    record {
      fits = sym (fault_same ones others same) ∙ is.fits;
      rows = is.rows;
      merged = record {
        all = subst (λ (all : List AddressedRow). IsPermutation all is.rows) rows is.merged.all;
        in_order = is.merged.in_order;
        ties = subst (λ (all : List AddressedRow). IsStableBy comes_before all is.rows) rows is.merged.ties;
      };
      holds = is.holds;
      short = is.short;
    }

-- ---- where the files hold something known

same_rows : (o p : Elf) (rows others : List PlacedRow) → o ≡ p → HoldsOrc o rows → HoldsOrc p others → rows ≡ others
same_rows o p rows others e h k = one_list_fits p rows others (subst (λ (x : Elf). HoldsOrc x rows) e h) k

same_part : (bytes : List ℕ) (places : List (ℕ × ℕ)) (one other : Part) → IsPart bytes places one → IsPart bytes places other → Same one other
same_part bytes places one other h k =
    let same = one_object bytes h.object k.object h.held.object k.held.object in (
      same_rows h.object k.object one.rows.items other.rows.items same h.held.held k.held.held,
      h.ranges ∙ ap (λ (o : Elf). ranges_of o places) same ∙ sym k.ranges,
    )

one_part : (held : Content) (file : FileSaid) (one other : Part) → IsPartOf (Some held) file one → IsPartOf (Some held) file other → Same one other
one_part held file one other h k =
    let same = one_text MAX_FILE_BYTES held file.name h.bytes k.bytes (is_read MAX_FILE_BYTES file.name h.bytes held (Some held) refl h.may) (is_read MAX_FILE_BYTES file.name k.bytes held (Some held) refl k.may) in
    same_part k.bytes file.places one other (subst (λ (bytes : List ℕ). IsPart bytes file.places one) same h.is) k.is

pub parts_same : (held : Content) (files : List FileSaid) (ones others : List Part) → ArePartsOf (Some held) files ones → ArePartsOf (Some held) files others → AllSame ones others
parts_same held [] [] [] h k = tt
parts_same held [] [] (other ∷ others) h k = absurd k
parts_same held [] (one ∷ ones) others h k = absurd h
parts_same held (file ∷ files) [] others h k = absurd h
parts_same held (file ∷ files) (one ∷ ones) [] h k = absurd k
parts_same held (file ∷ files) (one ∷ ones) (other ∷ others) h k = (one_part held file one other h.0 k.0, parts_same held files ones others h.1 k.1)

pub files_same : (held : Content) (layout : List ℕ) (said others : List FileSaid) → IsLayoutOf (Some held) layout said → IsLayoutOf (Some held) layout others → said ≡ others
files_same held layout said others h k =
    let same = one_text MAX_LAYOUT_BYTES held layout h.text k.text (is_read MAX_LAYOUT_BYTES layout h.text held (Some held) refl h.may) (is_read MAX_LAYOUT_BYTES layout k.text held (Some held) refl k.may) in
    h.names.files ∙ ap layout_files same ∙ sym k.names.files
