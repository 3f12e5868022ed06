-- The bytes of a table, and what is read of them.
use Rattle.std.proofs.Common.{◌≡◌, ℕ, zero, suc, ◌+◌, ◌*◌, ◌/◌, ◌%◌, ◌^◌, ◌<◌, ◌≤◌, Bool, true, false, not, ◌&&◌, ◌||◌, List, [], ◌∷◌, ◌++◌, Option, Some, None, refl, sym, ◌∙◌, ap, subst, inl, inr, leb, ltb, length, get_or, take, drop, length-append, length-drop, add-one, arith, w16, Fits}
use Rattle.std.proofs.Math.Seq.{take-add}
use Rattle.std.proofs.Math.Facts.{sfits_to_z}
use Rattle.std.specs.Prelude.{All, option_map}
use Rattle.std.specs.Option.{option_or}
use Rattle.std.specs.List.Sorted.{IsNonDecreasingBy}
use Rattle.std.proofs.lemmas.Bool.{leb-true, ltb-true, le-leb, lt-ltb, cases_lt}
use Rattle.std.proofs.lemmas.List.{drop-drop, take-append-drop, get_or-drop, take_all, get_or_push, get_or_append_left}
use Rattle.std.proofs.lemmas.List.Concat.{flat_map-append}
use Rattle.std.proofs.lemmas.List.Elements.{All-nil, All-push}
use Rattle.std.proofs.lemmas.List.Sorted.{IsNonDecreasingBy-from_all_adjacent}
use Rattle.byteorder.specs.Endian.{little_number, little_bytes}
use Rattle.byteorder.specs.Numbers.{little_from-lt}
use Rattle.ot_base.specs.declared.codes.TheConstants.{REG_SP_INDIRECT, KIND_REGS_PARTIAL}
use Rattle.elf_objects.specs.Number.{half, xword}
use Rattle.table_defs.specs.Lookup.{AddressedRow, comes_before}
use Rattle.orc_walk.specs.Rows.{IsInOrder}
use Rattle.orc_bytes.specs.RowBytes.{bytes_of_row, IsRow}
use Rattle.orc_bytes.specs.Faults.{row_in, HasRow}
use Rattle.orc_bytes.proofs.RowRead.{six_bytes}
use Rattle.orc_merge.specs.Merged.{IsTableRow, IsMergedTable}
use Rattle.orc_merge.specs.TableBytes.{magic, address_bytes, row_section, table_bytes}
use Rattle.orc_merge.specs.TableFaults.{first_below, row_count, row_offset, address_of, table_row, row_before, has_known_fields, holds_row, is_wrong_row, wrong_row}
use Rattle.orc_merge.specs.TableRows.{HasHead, rows_read}
use Rattle.orc_merge.specs.declared.merged.TheConstants.{MOST_ROWS}
use Rattle.orc_merge.proofs.Latest.{rank, not_lower, is_not_lower}
use Rattle.orc_merge.proofs.NumberBytes.{eight_bytes, xword_fits}
use Rattle.orc_merge.proofs.Firsts.{first_below-none}

-- bytes are numbers below 256
abbrev pub AreBytes : List ℕ → Type 0
AreBytes xs = (k : ℕ) → get_or xs k 0 < 256

pub tail_bytes : (n : ℕ) (xs : List ℕ) → AreBytes xs → AreBytes (drop n xs)
tail_bytes n xs small k = subst (λ b. b < 256) (sym (get_or-drop n xs k 0)) (small (n + k))

and_parts : (a b : Bool) → (a && b) ≡ true → (a ≡ true) × (b ≡ true)
and_parts true b h = (refl, h)
and_parts false b h = absurd (let e : false ≡ true = h in cc)

or_parts : (a b : Bool) → (a || b) ≡ false → (a ≡ false) × (b ≡ false)
or_parts false b h = (refl, h)
or_parts true b h = absurd (let e : true ≡ false = h in cc)

not_true : (b : Bool) → not b ≡ false → b ≡ true
not_true true h = refl
not_true false h = absurd (let e : true ≡ false = h in cc)

both_none : {A : Type 0} (one other : Option A) → option_or one other ≡ None → (one ≡ None) × (other ≡ None)
both_none None other h = (refl, h)
both_none (Some x) other h = absurd (let e : Some x ≡ None = h in cc)

map_none : {A B : Type 0} (f : A → B) (o : Option A) → option_map f o ≡ None → o ≡ None
map_none f None h = refl
map_none f (Some x) h = absurd (let e : Some (f x) ≡ None = h in cc)

-- a row of six bytes, as a test and as a fact
pub row_held : (bytes : List ℕ) → holds_row bytes ≡ true → HasRow bytes
row_held bytes h =
    let row = row_in bytes in
    let one = and_parts (has_known_fields row) (ltb (half bytes 4) (2 ^ 12)) h in
    let two = and_parts (leb row.sp_reg REG_SP_INDIRECT) (leb row.bp_reg REG_SP_INDIRECT && leb row.kind KIND_REGS_PARTIAL) one.0 in
    let three = and_parts (leb row.bp_reg REG_SP_INDIRECT) (leb row.kind KIND_REGS_PARTIAL) two.1 in
    record {
      fields = record { sp_reg = leb-true _ _ two.0; bp_reg = leb-true _ _ three.0; kind = leb-true _ _ three.1 };
      unused = ltb-true _ _ one.1;
    }

pub row_tested : (bytes : List ℕ) → HasRow bytes → holds_row bytes ≡ true
row_tested bytes is =
    all_true (leb (row_in bytes).sp_reg REG_SP_INDIRECT) (leb (row_in bytes).bp_reg REG_SP_INDIRECT) (leb (row_in bytes).kind KIND_REGS_PARTIAL) (ltb (half bytes 4) (2 ^ 12)) (le-leb _ _ is.fields.sp_reg) (le-leb _ _ is.fields.bp_reg) (le-leb _ _ is.fields.kind) (lt-ltb _ _ is.unused)
  where
    all_true : (a b c d : Bool) → a ≡ true → b ≡ true → c ≡ true → d ≡ true → ((a && (b && c)) && d) ≡ true
    all_true a b c d h1 h2 h3 h4 = ap (λ t. (t && (b && c)) && d) h1 ∙ ap (λ t. (t && c) && d) h2 ∙ ap (λ t. t && d) h3 ∙ h4

half_fits : (ys : List ℕ) → AreBytes ys → Fits w16 (little_number 2 ys)
half_fits ys low = record { fits = little_from-lt 0 2 ys low }

-- six bytes hold the row that is read of them
held_row : (xs : List ℕ) → AreBytes xs → HasRow xs → IsRow (row_in xs)
unfolding half
held_row xs few is = record {
  fields = is.fields;
  sp_offset = sfits_to_z (half_fits xs few);
  bp_offset = sfits_to_z (half_fits (drop 2 xs) (tail_bytes 2 xs few));
}

-- a row that isn't one
pub row_refused : (bytes : List ℕ) (fields : ℕ) → fields ≡ half bytes 4 → (fields % 16 ≤ 9 → fields / 16 % 16 ≤ 9 → fields / 256 % 8 ≤ 4 → fields < 4096 → ⊥) → holds_row bytes ≡ false
row_refused bytes fields f none = go (holds_row bytes) refl
  where
    go : (b : Bool) → holds_row bytes ≡ b → holds_row bytes ≡ false
    go true is =
        let h = row_held bytes is in
        absurd (none (subst (λ (n : ℕ). n % 16 ≤ 9) (sym f) h.fields.sp_reg) (subst (λ (n : ℕ). n / 16 % 16 ≤ 9) (sym f) h.fields.bp_reg) (subst (λ (n : ℕ). n / 256 % 8 ≤ 4) (sym f) h.fields.kind) (subst (λ (n : ℕ). n < 4096) (sym f) h.unused))
    go false is = is

-- What is read: the first i rows.
pub length_read : (bytes : List ℕ) (i : ℕ) → length (rows_read bytes i) ≡ i
length_read bytes zero = refl
length_read bytes (suc i) = let rest = length_read bytes i in length-append (rows_read bytes i) (table_row bytes i ∷ []) ∙ omega (arith, rest)

pub read_at : (bytes : List ℕ) (n k : ℕ) (d : AddressedRow) → k < n → get_or (rows_read bytes n) k d ≡ table_row bytes k
read_at bytes zero k d lt = absurd (omega arith)
read_at bytes (suc n) k d lt =
    let long = length_read bytes n in
    elim (cases_lt k n) [
      | inl less ↦ get_or_append_left (rows_read bytes n) (table_row bytes n ∷ []) d k (omega (arith, long)) ∙ read_at bytes n k d less
      | inr not_less ↦ let same : n ≡ k = omega arith in get_or_push (rows_read bytes n) (table_row bytes n) d k (omega (arith, long)) ∙ ap (table_row bytes) same
    ]

more_rows : (bytes : List ℕ) (i : ℕ) → rows_read bytes (i + 1) ≡ rows_read bytes i ++ table_row bytes i ∷ []
more_rows bytes i = ap (rows_read bytes) (add-one i)

pub next_row_read : (bytes : List ℕ) (i : ℕ) (rows : List AddressedRow) (row : AddressedRow) → rows ≡ rows_read bytes i → row ≡ table_row bytes i → rows ++ row ∷ [] ≡ rows_read bytes (i + 1)
next_row_read bytes i rows row same is = ap (λ xs. xs ++ row ∷ []) same ∙ ap (λ r. rows_read bytes i ++ r ∷ []) is ∙ sym (more_rows bytes i)

-- The rows that are read have the bytes that were read.
module _ (bytes : List ℕ) (count : ℕ) (small : AreBytes bytes) (head : HasHead bytes count) where
  long : length bytes ≡ 16 + 8 * count + 6 * count
  long = head.long

  address_there : (i : ℕ) → i < count → little_bytes 8 (address_of bytes i) ≡ take 8 (drop (16 + 8 * i) bytes)
  unfolding xword
  address_there i lt =
      eight_bytes (drop (16 + 8 * i) bytes) (address_of bytes i) (tail_bytes (16 + 8 * i) bytes small)
      (omega (arith, long, length-drop (16 + 8 * i) bytes)) refl

  pub addresses_read : (i : ℕ) → i ≤ count → address_bytes (rows_read bytes i) ≡ take (8 * i) (drop 16 bytes)
  addresses_read zero le = refl
  addresses_read (suc i) le =
      flat_map-append (λ (row : AddressedRow). little_bytes 8 row.address) (rows_read bytes i) (table_row bytes i ∷ [])
      ∙ joined (address_bytes (rows_read bytes i)) (take (8 * i) (drop 16 bytes)) (little_bytes 8 (address_of bytes i)) (take 8 (drop (8 * i) (drop 16 bytes)))
      (addresses_read i (omega arith))
      (address_there i (omega arith) ∙ ap (take 8) (sym (drop-drop (8 * i) 16 bytes)))
      ∙ sym (take-add (8 * i) 8 (drop 16 bytes))
      ∙ ap (λ (n : ℕ). take n (drop 16 bytes)) (omega arith)
    where
      joined : (a b c d : List ℕ) → a ≡ b → c ≡ d → a ++ (c ++ []) ≡ b ++ d
      joined a b c d h k = ap (λ xs. xs ++ (c ++ [])) h ∙ ap (λ xs. b ++ xs) (append_nil c ∙ k)
        where
          append_nil : (xs : List ℕ) → xs ++ [] ≡ xs
          append_nil [] = refl
          append_nil (x ∷ xs) = ap (λ ys. x ∷ ys) (append_nil xs)

  pub row_there : (i : ℕ) → i < count → holds_row (drop (row_offset (row_count bytes) i) bytes) ≡ true → bytes_of_row (table_row bytes i).row ≡ take 6 (drop (16 + 8 * count + 6 * i) bytes)
  row_there i lt holds =
      let place : row_offset (row_count bytes) i ≡ 16 + 8 * count + 6 * i = ap (λ (n : ℕ). 16 + 8 * n + 6 * i) head.count_is in
      let far : 6 ≤ length (drop (row_offset (row_count bytes) i) bytes) = omega (arith, long, place, length-drop (row_offset (row_count bytes) i) bytes) in
      six_bytes (drop (row_offset (row_count bytes) i) bytes) (tail_bytes (row_offset (row_count bytes) i) bytes small) far (row_held _ holds)
      ∙ ap (λ (n : ℕ). take 6 (drop n bytes)) place

  pub rows_there : (i : ℕ) → i ≤ count → ((k : ℕ) → k < i → holds_row (drop (row_offset (row_count bytes) k) bytes) ≡ true) → row_section (rows_read bytes i) ≡ take (6 * i) (drop (16 + 8 * count) bytes)
  rows_there zero le each = refl
  rows_there (suc i) le each =
      flat_map-append (λ (row : AddressedRow). bytes_of_row row.row) (rows_read bytes i) (table_row bytes i ∷ [])
      ∙ joined (row_section (rows_read bytes i)) (take (6 * i) (drop (16 + 8 * count) bytes)) (bytes_of_row (table_row bytes i).row) (take 6 (drop (6 * i) (drop (16 + 8 * count) bytes)))
      (rows_there i (omega arith) (λ k lt. each k (omega arith)))
      (row_there i (omega arith) (each i (omega arith)) ∙ ap (take 6) (sym (drop-drop (6 * i) (16 + 8 * count) bytes)))
      ∙ sym (take-add (6 * i) 6 (drop (16 + 8 * count) bytes))
      ∙ ap (λ (n : ℕ). take n (drop (16 + 8 * count) bytes)) (omega arith)
    where
      joined : (a b c d : List ℕ) → a ≡ b → c ≡ d → a ++ (c ++ []) ≡ b ++ d
      joined a b c d h k = ap (λ xs. xs ++ (c ++ [])) h ∙ ap (λ xs. b ++ xs) (append_nil c ∙ k)
        where
          append_nil : (xs : List ℕ) → xs ++ [] ≡ xs
          append_nil [] = refl
          append_nil (x ∷ xs) = ap (λ ys. x ∷ ys) (append_nil xs)

  module _ (clean : wrong_row bytes ≡ None) where
    fine : (k : ℕ) → k < count → (holds_row (drop (row_offset (row_count bytes) k) bytes) ≡ true) × (comes_before (table_row bytes k) (row_before bytes k) ≡ false)
    fine k lt =
        let none : first_below (is_wrong_row bytes) (row_count bytes) ≡ None = map_none (row_offset (row_count bytes)) (first_below (is_wrong_row bytes) (row_count bytes)) clean in
        let parts = or_parts (not (holds_row (drop (row_offset (row_count bytes) k) bytes))) (comes_before (table_row bytes k) (row_before bytes k)) (first_below-none (is_wrong_row bytes) (row_count bytes) k none (subst (λ n. k < n) (sym head.count_is) lt)) in
        (not_true _ parts.0, parts.1)

    -- the whole table
    pub table_again : take 8 bytes ≡ magic → table_bytes (rows_read bytes count) ≡ bytes
    unfolding table_bytes xword
    table_again begins =
        let front : little_bytes 8 (length (rows_read bytes count)) ≡ take 8 (drop 8 bytes) =
        eight_bytes (drop 8 bytes) (length (rows_read bytes count)) (tail_bytes 8 bytes small) (omega (arith, long, length-drop 8 bytes)) (length_read bytes count ∙ sym head.count_is) in
        let addresses = addresses_read count (omega arith) in
        let rows : row_section (rows_read bytes count) ≡ drop (16 + 8 * count) bytes =
        rows_there count (omega arith) (λ k lt. (fine k lt).0) ∙ take_all (6 * count) (drop (16 + 8 * count) bytes) (omega (arith, long, length-drop (16 + 8 * count) bytes)) in
        let behind : address_bytes (rows_read bytes count) ++ row_section (rows_read bytes count) ≡ drop 16 bytes =
        ap (λ xs. xs ++ row_section (rows_read bytes count)) addresses
        ∙ ap (λ xs. take (8 * count) (drop 16 bytes) ++ xs) (rows ∙ sym (drop-drop (8 * count) 16 bytes))
        ∙ take-append-drop (8 * count) (drop 16 bytes) in
        ap (λ xs. xs ++ (little_bytes 8 (length (rows_read bytes count)) ++ (address_bytes (rows_read bytes count) ++ row_section (rows_read bytes count)))) (sym begins)
        ∙ ap (λ xs. take 8 bytes ++ (xs ++ (address_bytes (rows_read bytes count) ++ row_section (rows_read bytes count)))) front
        ∙ ap (λ xs. take 8 bytes ++ (take 8 (drop 8 bytes) ++ xs)) (behind ∙ sym (drop-drop 8 8 bytes))
        ∙ ap (λ xs. take 8 bytes ++ xs) (take-append-drop 8 (drop 8 bytes))
        ∙ take-append-drop 8 bytes

    row_fits : (k : ℕ) → k < count → IsTableRow (table_row bytes k)
    row_fits k lt = record {
      address = xword_fits bytes (16 + 8 * k) (tail_bytes (16 + 8 * k) bytes small);
      held = held_row (drop (row_offset (row_count bytes) k) bytes) (tail_bytes (row_offset (row_count bytes) k) bytes small) (row_held _ (fine k lt).0);
    }

    rows_fit : (i : ℕ) → i ≤ count → All IsTableRow (rows_read bytes i)
    rows_fit zero le = All-nil _
    rows_fit (suc i) le = All-push IsTableRow (rows_read bytes i) (table_row bytes i) (rows_fit i (omega arith)) (row_fits i (omega arith))

    rises : (k : ℕ) → k + 1 < count → rank (table_row bytes k) ≤ rank (table_row bytes (k + 1))
    rises k lt =
        let before : row_before bytes (k + 1) ≡ table_row bytes k = ap (row_before bytes) (add-one k) in
        not_lower (table_row bytes (k + 1)) (table_row bytes k) (subst (λ r. comes_before (table_row bytes (k + 1)) r ≡ false) before (fine (k + 1) lt).1)

    pub read_table : IsMergedTable (rows_read bytes count)
    read_table = record {
      in_order = ordered;
      each = rows_fit count (omega arith);
      few = subst (λ n. n ≤ MOST_ROWS) (sym (length_read bytes count)) head.few;
    }
      where
        step : (k : ℕ) (d : AddressedRow) → k + 1 < length (rows_read bytes count) → rank (get_or (rows_read bytes count) k d) ≤ rank (get_or (rows_read bytes count) (k + 1) d)
        step k d lt =
            let inside : k + 1 < count = subst (λ n. k + 1 < n) (length_read bytes count) lt in
            subst (λ r. rank r ≤ rank (get_or (rows_read bytes count) (k + 1) d)) (sym (read_at bytes count k d (omega arith)))
            (subst (λ r. rank (table_row bytes k) ≤ rank r) (sym (read_at bytes count (k + 1) d inside)) (rises k inside))

        up : IsNonDecreasingBy rank (rows_read bytes count)
        up = IsNonDecreasingBy-from_all_adjacent rank (rows_read bytes count) step

        ordered : IsInOrder (rows_read bytes count)
        ordered i j d less lt = is_not_lower (get_or (rows_read bytes count) j d) (get_or (rows_read bytes count) i d) (up i j d (omega arith) lt)
