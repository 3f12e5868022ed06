-- The bytes of a table are read as this table.
use Rattle.std.proofs.Common.{◌≡◌, ℕ, zero, suc, ◌+◌, ◌*◌, ◌<◌, ◌≤◌, Bool, true, false, cond, not, ◌&&◌, ◌||◌, List, [], ◌∷◌, ◌++◌, Option, Some, None, refl, sym, ◌∙◌, ap, subst, leb, ltb, eqb, length, get_or, take, drop, min, append_assoc, length-append, add-one, arith}
use Rattle.std.proofs.Math.Seq.{drop-append-add, drop-cons}
use Rattle.std.specs.Prelude.{flat_map, option_map}
use Rattle.std.specs.Option.{option_or}
use Rattle.std.proofs.lemmas.Bool.{le-leb, le-ltb}
use Rattle.std.proofs.lemmas.Bool.Decides.{nat_tests}
use Rattle.std.proofs.lemmas.List.{drop-drop, take_more, take_all, get_or_append_left}
use Rattle.std.proofs.lemmas.List.Elements.{All-get_or}
use Rattle.byteorder.specs.Endian.{little_bytes}
use Rattle.ot_base.specs.Rows.{zero_row}
use Rattle.ot_base.specs.declared.row.Row.{Row}
use Rattle.table_defs.specs.Lookup.{AddressedRow, comes_before}
use Rattle.orc_bytes.specs.RowBytes.{bytes_of_row}
use Rattle.orc_bytes.specs.Faults.{row_in, HasRow}
use Rattle.orc_bytes.proofs.RowRead.{row_again, has_row}
use Rattle.orc_merge.specs.Merged.{IsTableRow, IsMergedTable}
use Rattle.orc_merge.specs.TableBytes.{magic, address_bytes, row_section, table_bytes}
use Rattle.orc_merge.specs.TableFaults.{row_count, row_offset, address_of, table_row, row_before, address_before, wrong_magic, too_short, wrong_count, wrong_address, holds_row, is_wrong_row, wrong_row, head_fault, first_bad}
use Rattle.orc_merge.specs.TableRows.{rows_read}
use Rattle.orc_merge.specs.declared.merged.TheConstants.{MOST_ROWS}
use Rattle.orc_merge.proofs.Latest.{is_not_lower}
use Rattle.orc_merge.proofs.NumberBytes.{length_eight, xword_here, length_each, drop_each}
use Rattle.orc_merge.proofs.Firsts.{first_below-all}
use Rattle.orc_merge.proofs.TableLemmas.{row_tested}

drop-append-le : {A : Type 0} (k : ℕ) (xs ys : List A) → k ≤ length xs → drop k (xs ++ ys) ≡ drop k xs ++ ys
drop-append-le zero xs ys le = refl
drop-append-le (suc k) [] ys le = absurd (omega arith)
drop-append-le (suc k) (x ∷ xs) ys le = drop-append-le k xs ys (omega arith)

eqb_same : (n : ℕ) → eqb n n ≡ true
eqb_same n = grind (arith, nat_tests)

length_six : (row : AddressedRow) → length (bytes_of_row row.row) ≡ 6
unfolding bytes_of_row
length_six row = refl

-- the first eight bytes are right
magic_fits : (rest : List ℕ) (k : ℕ) → k < 8 → not (eqb (get_or (magic ++ rest) k 0) (get_or magic k 0)) ≡ false
magic_fits rest k lt = ap (λ (n : ℕ). not (eqb n (get_or magic k 0))) (get_or_append_left magic rest 0 k (omega arith)) ∙ ap not (eqb_same (get_or magic k 0))

module _ (rows : List AddressedRow) (is : IsMergedTable rows) where
  behind : List ℕ
  behind = address_bytes rows ++ row_section rows

  begins : table_bytes rows ≡ magic ++ (little_bytes 8 (length rows) ++ (address_bytes rows ++ row_section rows))
  unfolding table_bytes
  begins = refl

  second : drop 8 (table_bytes rows) ≡ little_bytes 8 (length rows) ++ (address_bytes rows ++ row_section rows)
  second = ap (drop 8) begins

  third : drop 16 (table_bytes rows) ≡ address_bytes rows ++ row_section rows
  third = sym (drop-drop 8 8 (table_bytes rows)) ∙ ap (drop 8) second

  long_addresses : length (address_bytes rows) ≡ 8 * length rows
  long_addresses = length_each (λ (row : AddressedRow). little_bytes 8 row.address) 8 rows (λ row. length_eight row.address)

  long_rows : length (row_section rows) ≡ 6 * length rows
  long_rows = length_each (λ (row : AddressedRow). bytes_of_row row.row) 6 rows length_six

  fourth : drop (16 + 8 * length rows) (table_bytes rows) ≡ row_section rows
  fourth =
      sym (drop-drop (8 * length rows) 16 (table_bytes rows)) ∙ ap (drop (8 * length rows)) third
      ∙ ap (λ (n : ℕ). drop n (address_bytes rows ++ row_section rows)) (let e = long_addresses in omega (arith, e))
      ∙ drop-append-add (address_bytes rows) (row_section rows) 0

  pub long : length (table_bytes rows) ≡ 16 + 8 * length rows + 6 * length rows
  long =
      ap length begins
      ∙ length-append magic (little_bytes 8 (length rows) ++ (address_bytes rows ++ row_section rows))
      ∙ (let e = length_append_three (little_bytes 8 (length rows)) (address_bytes rows) (row_section rows) in let f = length_eight (length rows) in let g = long_addresses in let h = long_rows in omega (arith, e, f, g, h))
    where
      length_append_three : (xs ys zs : List ℕ) → length (xs ++ (ys ++ zs)) ≡ length xs + (length ys + length zs)
      length_append_three xs ys zs = length-append xs (ys ++ zs) ∙ ap (λ n. length xs + n) (length-append ys zs)

  few : length rows ≤ 4000000
  few = is.few

  counted : row_count (table_bytes rows) ≡ length rows
  counted = xword_here (table_bytes rows) 8 (length rows) (address_bytes rows ++ row_section rows) (let le = few in omega arith) second

  row_known : (k : ℕ) (d : AddressedRow) → k < length rows → IsTableRow (get_or rows k d)
  row_known k d lt = All-get_or IsTableRow rows k d lt is.each

  address_is : (k : ℕ) (d : AddressedRow) → k < length rows → address_of (table_bytes rows) k ≡ (get_or rows k d).address
  address_is k d lt =
      xword_here (table_bytes rows) (16 + 8 * k) (get_or rows k d).address
      (flat_map (λ (row : AddressedRow). little_bytes 8 row.address) (drop (suc k) rows) ++ row_section rows)
      (row_known k d lt).address
      (sym (drop-drop (8 * k) 16 (table_bytes rows))
      ∙ ap (drop (8 * k)) third
      ∙ drop-append-le (8 * k) (address_bytes rows) (row_section rows) (let e = long_addresses in omega (arith, e))
      ∙ ap (λ xs. xs ++ row_section rows)
      (drop_each (λ (row : AddressedRow). little_bytes 8 row.address) 8 rows k (λ row. length_eight row.address) (omega arith)
      ∙ ap (flat_map (λ (row : AddressedRow). little_bytes 8 row.address)) (drop-cons rows k d lt))
      ∙ append_assoc (little_bytes 8 (get_or rows k d).address) (flat_map (λ (row : AddressedRow). little_bytes 8 row.address) (drop (suc k) rows)) (row_section rows))

  row_place : (k : ℕ) (d : AddressedRow) → k < length rows → drop (row_offset (row_count (table_bytes rows)) k) (table_bytes rows) ≡ bytes_of_row (get_or rows k d).row ++ flat_map (λ (row : AddressedRow). bytes_of_row row.row) (drop (suc k) rows)
  row_place k d lt =
      ap (λ (n : ℕ). drop (16 + 8 * n + 6 * k) (table_bytes rows)) counted
      ∙ sym (drop-drop (6 * k) (16 + 8 * length rows) (table_bytes rows))
      ∙ ap (drop (6 * k)) fourth
      ∙ drop_each (λ (row : AddressedRow). bytes_of_row row.row) 6 rows k length_six (omega arith)
      ∙ ap (flat_map (λ (row : AddressedRow). bytes_of_row row.row)) (drop-cons rows k d lt)

  row_is : (k : ℕ) (d : AddressedRow) → k < length rows → table_row (table_bytes rows) k ≡ get_or rows k d
  row_is k d lt =
      alike (address_is k d lt)
      (ap row_in (row_place k d lt) ∙ row_again (get_or rows k d).row (flat_map (λ (row : AddressedRow). bytes_of_row row.row) (drop (suc k) rows)) (row_known k d lt).held)
    where
      alike : {a : ℕ} {r : Row} {x : AddressedRow} → a ≡ x.address → r ≡ x.row → record { address = a; row = r } ≡ x
      alike {a} {r} {x} h k = made a x.address r x.row h k
        where
          made : (a b : ℕ) (r s : Row) → a ≡ b → r ≡ s → ◌≡◌ {A = AddressedRow} (record { address = a; row = r }) (record { address = b; row = s })
          made a b r s h k = cc

  row_held : (k : ℕ) (d : AddressedRow) → k < length rows → holds_row (drop (row_offset (row_count (table_bytes rows)) k) (table_bytes rows)) ≡ true
  row_held k d lt = row_tested _ (subst HasRow (sym (row_place k d lt)) (has_row (get_or rows k d).row (flat_map (λ (row : AddressedRow). bytes_of_row row.row) (drop (suc k) rows)) (row_known k d lt).held))

  some_row : AddressedRow
  some_row = record { address = 0; row = zero_row }

  in_order : (k : ℕ) → k < length rows → comes_before (table_row (table_bytes rows) k) (row_before (table_bytes rows) k) ≡ false
  in_order zero lt = is_not_lower (table_row (table_bytes rows) zero) (record { address = 0; row = zero_row }) (omega arith)
  in_order (suc k) lt =
      ap (λ r. comes_before r (table_row (table_bytes rows) k)) (row_is (suc k) some_row lt)
      ∙ ap (comes_before (get_or rows (suc k) some_row)) (row_is k some_row (omega arith))
      ∙ is.in_order k (suc k) some_row (omega arith) lt

  first_false : (a b : Bool) → (a || b) ≡ false → a ≡ false
  first_false false b h = refl
  first_false true b h = absurd (let e : true ≡ false = h in cc)

  ascends : (k : ℕ) → k < length rows → ltb (address_of (table_bytes rows) k) (address_before (table_bytes rows) k) ≡ false
  ascends zero lt = le-ltb _ _ (omega arith)
  ascends (suc k) lt = first_false (ltb (address_of (table_bytes rows) (suc k)) (address_of (table_bytes rows) k)) _ (in_order (suc k) lt)

  head_fits : head_fault (table_bytes rows) ≡ None
  head_fits =
      ap (λ o. option_or o (option_or (too_short (table_bytes rows)) (wrong_count (table_bytes rows)))) first
      ∙ ap (λ o. option_or o (wrong_count (table_bytes rows))) (ap (λ b. cond b (Some (length (table_bytes rows))) None) (le-ltb (length (table_bytes rows)) 16 (let e = long in omega (arith, e))))
      ∙ counts (leb (row_count (table_bytes rows)) MOST_ROWS) (eqb (length (table_bytes rows)) (row_offset (row_count (table_bytes rows)) (row_count (table_bytes rows))))
      (ap (λ (n : ℕ). leb n MOST_ROWS) counted ∙ le-leb (length rows) MOST_ROWS is.few)
      (ap (λ (n : ℕ). eqb (length (table_bytes rows)) (16 + 8 * n + 6 * n)) counted ∙ ap (λ (n : ℕ). eqb n (16 + 8 * length rows + 6 * length rows)) long ∙ eqb_same (16 + 8 * length rows + 6 * length rows))
    where
      counts : (a b : Bool) → a ≡ true → b ≡ true → cond {A = Option ℕ} (a && b) None (Some 8) ≡ None
      counts a b h k = ap (λ (t : Bool). cond {A = Option ℕ} (t && b) None (Some 8)) h ∙ ap (λ (t : Bool). cond {A = Option ℕ} t None (Some 8)) k

      right : (k : ℕ) → k < min 8 (length (table_bytes rows)) → not (eqb (get_or (table_bytes rows) k 0) (get_or magic k 0)) ≡ false
      right k lt = ap (λ xs. not (eqb (get_or xs k 0) (get_or magic k 0))) begins ∙ magic_fits (little_bytes 8 (length rows) ++ (address_bytes rows ++ row_section rows)) k (omega arith)

      first : wrong_magic (table_bytes rows) ≡ None
      first = first_below-all (λ i. not (eqb (get_or (table_bytes rows) i 0) (get_or magic i 0))) (min 8 (length (table_bytes rows))) right

  address_fits : wrong_address (table_bytes rows) ≡ None
  address_fits = ap (option_map (λ (i : ℕ). 16 + 8 * i)) (first_below-all (λ i. ltb (address_of (table_bytes rows) i) (address_before (table_bytes rows) i)) (row_count (table_bytes rows)) (λ k lt. ascends k (subst (λ n. k < n) counted lt)))

  row_fits : wrong_row (table_bytes rows) ≡ None
  row_fits =
      ap (option_map (row_offset (row_count (table_bytes rows))))
      (first_below-all (is_wrong_row (table_bytes rows)) (row_count (table_bytes rows)) (λ k lt. fine k (subst (λ n. k < n) counted lt)))
    where
      fine : (k : ℕ) → k < length rows → is_wrong_row (table_bytes rows) k ≡ false
      fine k lt = ap (λ b. not b || comes_before (table_row (table_bytes rows) k) (row_before (table_bytes rows) k)) (row_held k some_row lt) ∙ in_order k lt

  pub accepted : first_bad (table_bytes rows) ≡ None
  unfolding first_bad
  accepted =
      ap (λ o. option_or o (option_or (wrong_address (table_bytes rows)) (wrong_row (table_bytes rows)))) head_fits
      ∙ ap (λ o. option_or o (wrong_row (table_bytes rows))) address_fits
      ∙ row_fits

  front : (i : ℕ) → i ≤ length rows → rows_read (table_bytes rows) i ≡ take i rows
  front zero le = refl
  front (suc i) le =
      ap (λ xs. xs ++ table_row (table_bytes rows) i ∷ []) (front i (omega arith))
      ∙ ap (λ r. take i rows ++ r ∷ []) (row_is i some_row (omega arith))
      ∙ sym (take_more rows i some_row (omega arith))
      ∙ ap (λ n. take n rows) (add-one i)

  pub again : rows_read (table_bytes rows) (row_count (table_bytes rows)) ≡ rows
  again = ap (rows_read (table_bytes rows)) counted ∙ front (length rows) (omega arith) ∙ take_all (length rows) rows (omega arith)
