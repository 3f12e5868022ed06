-- The merged rows of objects are those of a table.
use Rattle.std.proofs.Common.{◌≡◌, ℕ, suc, ◌+◌, ◌^◌, ◌<◌, ◌≤◌, Bool, true, false, cond, List, [], ◌∷◌, Option, Some, None, refl, ◌∙◌, ap, subst, eqb, length, length-append, arith}
use Rattle.std.specs.Prelude.{All, Contains, IfSome, IsPermutation, find, filter, filter_map, nat_le, option_map}
use Rattle.std.specs.List.{cons_option}
use Rattle.std.specs.Option.{option_or}
use Rattle.std.specs.List.Sorted.{IsStableBy, ties as tied}
use Rattle.std.proofs.lemmas.Bool.{leb-true}
use Rattle.std.proofs.lemmas.List.Elements.{All-nil, All-head, All-tail, All-append, All-contains, All-contains_itself, All-weaker}
use Rattle.std.proofs.lemmas.List.Sorted.{All-permutation, length_permutation}
use Rattle.std.proofs.lemmas.List.Sums.{sum_by-cons}
use Rattle.ot_base.specs.declared.row.PlacedRow.{PlacedRow}
use Rattle.table_defs.specs.declared.range.Range.{Range}
use Rattle.table_defs.specs.Lookup.{AddressedRow, addressed_row, comes_before}
use Rattle.orc_walk.specs.Rows.{IsInOrder}
use Rattle.orc_walk.specs.Table.{IsWithin, IsLaidOut}
use Rattle.orc_bytes.specs.RowBytes.{IsRow}
use Rattle.orc_merge.specs.declared.merged.TheConstants.{MOST_ROWS}
use Rattle.orc_merge.specs.declared.part.Part.{Part}
use Rattle.orc_merge.specs.declared.faults.MergeFault.{MergeFault}
use Rattle.orc_merge.specs.declared.faults.MergeFault.TheVariants.{TooMany}
use Rattle.orc_merge.specs.Parts.{all_rows, all_ranges, rows_of_part, first_in, AreRows, AreWithin}
use Rattle.orc_merge.specs.Overlaps.{first_overlap}
use Rattle.orc_merge.specs.MergeFaults.{merge_fault, number_of_rows, too_many, unplaced, unended}
use Rattle.orc_merge.specs.Merged.{IsMergeOf, IsMergedTable, IsTableRow}
use Rattle.orc_merge.specs.Alike.{TellsAlike}
use Rattle.orc_merge.proofs.Bounds.{All-filter_map, found_passes}
use Rattle.orc_merge.proofs.AlikeLemmas.{tell_alike}

-- an object's rows fit a table
part_fits : (part : Part) → AreWithin part → AreRows part → IsLaidOut part.ranges.items → All IsTableRow (rows_of_part part)
part_fits part within rows laid =
    All-filter_map (addressed_row part.ranges.items) IsTableRow part.rows.items
    (All-weaker (Contains part.rows.items) (λ placed. IfSome (addressed_row part.ranges.items placed) IsTableRow) one part.rows.items (All-contains_itself part.rows.items))
  where
    one : (placed : PlacedRow) → Contains part.rows.items placed → IfSome (addressed_row part.ranges.items placed) IsTableRow
    one placed among = go (find (λ range. eqb range.sec placed.place.sec) part.ranges.items) refl (All-contains (IsWithin part.ranges.items) part.rows.items placed within among)
      where
        go : (o : Option Range) → find (λ range. eqb range.sec placed.place.sec) part.ranges.items ≡ o → IfSome o (λ range. placed.place.off ≤ range.size)
            → IfSome (option_map (λ at. record { address = at; row = placed.row }) (option_map (λ (range : Range). range.base + placed.place.off) o)) IsTableRow
        go None is inside = tt
        go (Some t) is inside =
            let there = found_passes (λ (range : Range). eqb range.sec placed.place.sec) part.ranges.items t is in
            let high : t.base + t.size < 2 ^ 64 = All-contains (λ range. range.base + range.size < 2 ^ 64) part.ranges.items t laid.in_memory there.1 in
            let low : placed.place.off ≤ t.size = inside in
            record {
              address = omega arith;
              held = All-contains (λ (p : PlacedRow). IsRow p.row) part.rows.items placed rows among;
            }

-- so do those of all
all_fit : (parts : List Part) → All AreWithin parts → All AreRows parts → All (λ part. IsLaidOut part.ranges.items) parts → All IsTableRow (all_rows parts)
all_fit [] within rows laid = All-nil _
all_fit (part ∷ parts) within rows laid =
    All-append IsTableRow (rows_of_part part) (all_rows parts)
    (part_fits part (All-head AreWithin part parts within) (All-head AreRows part parts rows) (All-head (λ part. IsLaidOut part.ranges.items) part parts laid))
    (all_fit parts (All-tail AreWithin part parts within) (All-tail AreRows part parts rows) (All-tail (λ part. IsLaidOut part.ranges.items) part parts laid))

no_more : {A B : Type 0} (h : A → Option B) (xs : List A) → length (filter_map h xs) ≤ length xs
no_more h [] = omega arith
no_more h (x ∷ xs) = let rest = no_more h xs in one (h x) (filter_map h xs) (length xs) rest
  where
    one : {B : Type 0} (o : Option B) (ys : List B) (n : ℕ) → length ys ≤ n → length (cons_option o ys) ≤ suc n
    one None ys n le = omega arith
    one (Some y) ys n le = omega arith

-- there are no more of them than the objects have
few_rows : (parts : List Part) → length (all_rows parts) ≤ number_of_rows parts
few_rows [] = omega arith
few_rows (part ∷ parts) =
    let front = no_more (addressed_row part.ranges.items) part.rows.items in
    let back = few_rows parts in
    let whole : length (all_rows (part ∷ parts)) ≡ length (rows_of_part part) + length (all_rows parts) = length-append (rows_of_part part) (all_rows parts) in
    let counted : number_of_rows (part ∷ parts) ≡ length part.rows.items + number_of_rows parts = sum_by-cons (λ (p : Part). length p.rows.items) part parts in
    omega (arith, whole, counted, front, back)

number_fits : (parts : List Part) → too_many parts ≡ None → number_of_rows parts ≤ MOST_ROWS
number_fits parts h = go (nat_le (number_of_rows parts) MOST_ROWS) refl h
  where
    go : (b : Bool) → nat_le (number_of_rows parts) MOST_ROWS ≡ b → cond b None (Some (TooMany (number_of_rows parts))) ≡ None → number_of_rows parts ≤ MOST_ROWS
    go true is e = leb-true _ _ is
    go false is e = absurd (let f : Some (TooMany (number_of_rows parts)) ≡ None = e in cc)

pub merged_table : (parts : List Part) (rows : List AddressedRow) → All AreWithin parts → All AreRows parts → All (λ part. IsLaidOut part.ranges.items) parts → too_many parts ≡ None → IsPermutation (all_rows parts) rows → IsInOrder rows → IsMergedTable rows
merged_table parts rows within held laid few moved order = record {
  in_order = order;
  each = All-permutation IsTableRow (all_rows parts) rows moved (all_fit parts within held laid);
  few = few_merged;
}
  where
    few_merged : length rows ≤ MOST_ROWS
    few_merged =
        let same = length_permutation (all_rows parts) rows moved in
        let most = few_rows parts in
        let limit = number_fits parts few in
        omega (arith, same, most, limit)

-- the rows of the objects, sorted
pub merge_of : (parts : List Part) (all rows : List AddressedRow) → all ≡ all_rows parts → IsPermutation all rows → IsInOrder rows → IsStableBy comes_before all rows → IsMergeOf parts rows
merge_of parts all rows is moved order ties = record {
  all = subst (λ (xs : List AddressedRow). IsPermutation xs rows) is moved;
  in_order = order;
  ties = λ row. ties row ∙ ap (filter (tied comes_before row)) is;
}

-- nothing is wrong with the objects
pub clean : (parts : List Part) → first_in unplaced 0 parts ≡ None → first_in unended 0 parts ≡ None → first_overlap [] (all_ranges parts) ≡ None → too_many parts ≡ None → merge_fault parts ≡ None
clean parts one two three four =
    ap (λ o. option_or o (option_or (first_in unended 0 parts) (option_or (first_overlap [] (all_ranges parts)) (too_many parts)))) one
    ∙ ap (λ o. option_or o (option_or (first_overlap [] (all_ranges parts)) (too_many parts))) two
    ∙ ap (λ o. option_or o (too_many parts)) three
    ∙ four

-- or one thing is, and nothing before it
pub unplaced_first : (parts : List Part) (fault : MergeFault) → first_in unplaced 0 parts ≡ Some fault → merge_fault parts ≡ Some fault
unplaced_first parts fault is = ap (λ o. option_or o (option_or (first_in unended 0 parts) (option_or (first_overlap [] (all_ranges parts)) (too_many parts)))) is

pub unended_first : (parts : List Part) (fault : MergeFault) → first_in unplaced 0 parts ≡ None → first_in unended 0 parts ≡ Some fault → merge_fault parts ≡ Some fault
unended_first parts fault one is =
    ap (λ o. option_or o (option_or (first_in unended 0 parts) (option_or (first_overlap [] (all_ranges parts)) (too_many parts)))) one
    ∙ ap (λ o. option_or o (option_or (first_overlap [] (all_ranges parts)) (too_many parts))) is

pub overlap_first : (parts : List Part) (fault : MergeFault) → first_in unplaced 0 parts ≡ None → first_in unended 0 parts ≡ None → first_overlap [] (all_ranges parts) ≡ Some fault → merge_fault parts ≡ Some fault
overlap_first parts fault one two is =
    ap (λ o. option_or o (option_or (first_in unended 0 parts) (option_or (first_overlap [] (all_ranges parts)) (too_many parts)))) one
    ∙ ap (λ o. option_or o (option_or (first_overlap [] (all_ranges parts)) (too_many parts))) two
    ∙ ap (λ o. option_or o (too_many parts)) is

pub too_many_first : (parts : List Part) (fault : MergeFault) → first_in unplaced 0 parts ≡ None → first_in unended 0 parts ≡ None → first_overlap [] (all_ranges parts) ≡ None → too_many parts ≡ Some fault → merge_fault parts ≡ Some fault
too_many_first parts fault one two three is =
    ap (λ o. option_or o (option_or (first_in unended 0 parts) (option_or (first_overlap [] (all_ranges parts)) (too_many parts)))) one
    ∙ ap (λ o. option_or o (option_or (first_overlap [] (all_ranges parts)) (too_many parts))) two
    ∙ ap (λ o. option_or o (too_many parts)) three
    ∙ is

pub all_alike : (parts : List Part) (rows : List AddressedRow) → merge_fault parts ≡ None → IsMergeOf parts rows → All (λ part. TellsAlike part rows) parts
all_alike parts rows none merge = All-weaker (Contains parts) (λ part. TellsAlike part rows) (λ part among. tell_alike parts rows part none merge among) parts (All-contains_itself parts)
