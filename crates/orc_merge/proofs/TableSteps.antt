-- A table's bytes while they are read.
use Rattle.std.proofs.Common.{◌≡◌, ℕ, suc, ◌+◌, ◌*◌, ◌<◌, ◌≤◌, Bool, true, false, cond, not, ◌&&◌, ◌||◌, List, [], ◌∷◌, ◌++◌, Option, Some, None, refl, sym, ◌∙◌, ap, leb, ltb, eqb, length, get_or, take, drop, min, add-one, arith}
use Rattle.std.specs.Prelude.{option_map}
use Rattle.std.specs.Option.{option_or}
use Rattle.std.proofs.lemmas.Bool.{lt-ltb, le-ltb, leb-true, eqb-true}
use Rattle.ot_base.specs.declared.row.Row.{Row}
use Rattle.table_defs.specs.Lookup.{AddressedRow, comes_before}
use Rattle.orc_walk.specs.Rows.{addressed_row, rows_of}
use Rattle.orc_bytes.specs.Faults.{row_in}
use Rattle.orc_merge.specs.declared.merged.TheConstants.{MOST_ROWS}
use Rattle.orc_merge.specs.TableBytes.{magic}
use Rattle.orc_merge.specs.TableFaults.{first_below, row_count, row_offset, address_of, table_row, row_before, address_before, wrong_magic, too_short, wrong_count, wrong_address, holds_row, is_wrong_row, wrong_row, head_fault, first_bad}
use Rattle.orc_merge.specs.TableRows.{HasHead}
use Rattle.orc_merge.proofs.Firsts.{first_below-more, first_below-found, first_below-none}

-- In front of the addresses.
magic_first : (bytes : List ℕ) → wrong_magic bytes ≡ None → head_fault bytes ≡ option_or (too_short bytes) (wrong_count bytes)
magic_first bytes none = ap (λ o. option_or o (option_or (too_short bytes) (wrong_count bytes))) none

long_enough : (bytes : List ℕ) → 16 ≤ length bytes → too_short bytes ≡ None
long_enough bytes le = ap (λ b. cond b (Some (length bytes)) None) (le-ltb (length bytes) 16 le)

pub wrong_magic_first : (bytes : List ℕ) (at : ℕ) → wrong_magic bytes ≡ Some at → head_fault bytes ≡ Some at
wrong_magic_first bytes at is = ap (λ o. option_or o (option_or (too_short bytes) (wrong_count bytes))) is

pub short_first : (bytes : List ℕ) → wrong_magic bytes ≡ None → length bytes < 16 → head_fault bytes ≡ Some (length bytes)
short_first bytes none lt = magic_first bytes none ∙ ap (λ b. option_or (cond b (Some (length bytes)) None) (wrong_count bytes)) (lt-ltb (length bytes) 16 lt)

-- the number of rows is tested
abbrev pub counts_test : List ℕ → ℕ → Bool
counts_test bytes count = leb count MOST_ROWS && eqb (length bytes) (row_offset count count)

count_tested : (bytes : List ℕ) (count : ℕ) (b : Bool) → wrong_magic bytes ≡ None → 16 ≤ length bytes → count ≡ row_count bytes → counts_test bytes count ≡ b → head_fault bytes ≡ cond b None (Some 8)
count_tested bytes count b none long is test =
    magic_first bytes none ∙ ap (λ o. option_or o (wrong_count bytes)) (long_enough bytes long)
    ∙ ap (λ (n : ℕ). cond (counts_test bytes n) None (Some 8)) (sym is)
    ∙ ap (λ t. cond t None (Some 8)) test

and_parts : (a b : Bool) → (a && b) ≡ true → (a ≡ true) × (b ≡ true)
and_parts true b h = (refl, h)
and_parts false b h = absurd (let e : false ≡ true = h in cc)

pub head_of : (bytes : List ℕ) (count : ℕ) → wrong_magic bytes ≡ None → 16 ≤ length bytes → count ≡ row_count bytes → counts_test bytes count ≡ true → HasHead bytes count
head_of bytes count none long is test =
    let parts = and_parts (leb count MOST_ROWS) (eqb (length bytes) (row_offset count count)) test in
    record {
      fits = count_tested bytes count true none long is test;
      count_is = sym is;
      few = leb-true count MOST_ROWS parts.0;
      long = eqb-true (length bytes) (row_offset count count) parts.1;
    }

pub count_first : (bytes : List ℕ) (count : ℕ) → wrong_magic bytes ≡ None → 16 ≤ length bytes → count ≡ row_count bytes → counts_test bytes count ≡ false → head_fault bytes ≡ Some 8
count_first bytes count none long is test = count_tested bytes count false none long is test

-- eight bytes in which none is wrong
take_same : (xs ys : List ℕ) → length ys ≤ length xs → ((k : ℕ) → k < length ys → get_or xs k 0 ≡ get_or ys k 0) → take (length ys) xs ≡ ys
take_same xs [] le same = refl
take_same [] (y ∷ ys) le same = absurd (omega arith)
take_same (x ∷ xs) (y ∷ ys) le same = ap (λ z. z ∷ take (length ys) xs) (same 0 (omega arith)) ∙ ap (λ zs. y ∷ zs) (take_same xs ys (omega arith) (λ k lt. same (suc k) (omega arith)))

not_false : (b : Bool) → not b ≡ false → b ≡ true
not_false true h = refl
not_false false h = absurd (let e : true ≡ false = h in cc)

or_none : {A : Type 0} (one other : Option A) → option_or one other ≡ None → one ≡ None
or_none None other h = refl
or_none (Some x) other h = absurd (let e : Some x ≡ None = h in cc)

pub begins : (bytes : List ℕ) (count : ℕ) → HasHead bytes count → take 8 bytes ≡ magic
begins bytes count head =
    let none : wrong_magic bytes ≡ None = or_none (wrong_magic bytes) (option_or (too_short bytes) (wrong_count bytes)) head.fits in
    let whole : length bytes ≡ 16 + 8 * count + 6 * count = head.long in
    take_same bytes magic (omega arith) (λ k lt.
    eqb-true _ _ (not_false (eqb (get_or bytes k 0) (get_or magic k 0)) (first_below-none (λ i. not (eqb (get_or bytes i 0) (get_or magic i 0))) (min 8 (length bytes)) k none (omega arith))))

-- The addresses.
abbrev pub falls : List ℕ → ℕ → Bool
falls bytes i = ltb (address_of bytes i) (address_before bytes i)

pub next_before : (bytes : List ℕ) (i address : ℕ) → address ≡ address_of bytes i → address ≡ address_before bytes (i + 1)
next_before bytes i address is = is ∙ sym (ap (address_before bytes) (add-one i))

test_is : (bytes : List ℕ) (i address before : ℕ) → address ≡ address_of bytes i → before ≡ address_before bytes i → falls bytes i ≡ ltb address before
test_is bytes i address before one two = sym (ap (λ (n : ℕ). ltb n before) one ∙ ap (ltb (address_of bytes i)) two)

pub rises_more : (bytes : List ℕ) (i address before : ℕ) → first_below (falls bytes) i ≡ None → address ≡ address_of bytes i → before ≡ address_before bytes i → before ≤ address → first_below (falls bytes) (i + 1) ≡ None
rises_more bytes i address before none one two le = first_below-more (falls bytes) i none (test_is bytes i address before one two ∙ le-ltb address before le)

pub falls_at : (bytes : List ℕ) (count i address before : ℕ) → HasHead bytes count → i < count → first_below (falls bytes) i ≡ None → address ≡ address_of bytes i → before ≡ address_before bytes i → address < before → wrong_address bytes ≡ Some (16 + 8 * i)
falls_at bytes count i address before head lt none one two less =
    ap (option_map (λ (k : ℕ). 16 + 8 * k)) (ap (first_below (falls bytes)) head.count_is ∙ first_below-found (falls bytes) i count none (test_is bytes i address before one two ∙ lt-ltb address before less) lt)

pub rises : (bytes : List ℕ) (count i : ℕ) → HasHead bytes count → i ≡ count → first_below (falls bytes) i ≡ None → wrong_address bytes ≡ None
rises bytes count i head end none = ap (option_map (λ (k : ℕ). 16 + 8 * k)) (ap (first_below (falls bytes)) (head.count_is ∙ sym end) ∙ none)

-- The rows.
place_is : (bytes : List ℕ) (count i : ℕ) → HasHead bytes count → row_offset (row_count bytes) i ≡ 16 + 8 * count + 6 * i
place_is bytes count i head = ap (λ (n : ℕ). 16 + 8 * n + 6 * i) head.count_is

pub item_read : (bytes : List ℕ) (count i : ℕ) (item : ℕ × Row) → HasHead bytes count → item.0 ≡ address_of bytes i → item.1 ≡ row_in (drop (16 + 8 * count + 6 * i) bytes) → addressed_row item ≡ table_row bytes i
item_read bytes count i item head one two = made item.0 (address_of bytes i) item.1 (row_in (drop (row_offset (row_count bytes) i) bytes)) one (two ∙ ap (λ (n : ℕ). row_in (drop n bytes)) (sym (place_is bytes count i head)))
  where
    made : (a b : ℕ) (r s : Row) → a ≡ b → r ≡ s → ◌≡◌ {A = AddressedRow} (record { address = a; row = r }) (record { address = b; row = s })
    made a b r s h k = cc

pub next_row_before : (bytes : List ℕ) (i : ℕ) (row : AddressedRow) → row ≡ table_row bytes i → row ≡ row_before bytes (i + 1)
next_row_before bytes i row is = is ∙ sym (ap (row_before bytes) (add-one i))

pub rows_push : (items : List (ℕ × Row)) (item : ℕ × Row) → rows_of (items ++ item ∷ []) ≡ rows_of items ++ addressed_row item ∷ []
rows_push [] item = refl
rows_push (x ∷ items) item = ap (λ rows. addressed_row x ∷ rows) (rows_push items item)

held_here : (bytes : List ℕ) (count i : ℕ) (b : Bool) → HasHead bytes count → holds_row (drop (16 + 8 * count + 6 * i) bytes) ≡ b → holds_row (drop (row_offset (row_count bytes) i) bytes) ≡ b
held_here bytes count i b head is = ap (λ (n : ℕ). holds_row (drop n bytes)) (place_is bytes count i head) ∙ is

pub wrong_fields : (bytes : List ℕ) (count i : ℕ) → HasHead bytes count → i < count → first_below (is_wrong_row bytes) i ≡ None → holds_row (drop (16 + 8 * count + 6 * i) bytes) ≡ false → wrong_row bytes ≡ Some (16 + 8 * count + 6 * i)
wrong_fields bytes count i head lt none fails =
    ap (option_map (row_offset (row_count bytes))) (ap (first_below (is_wrong_row bytes)) head.count_is ∙ first_below-found (is_wrong_row bytes) i count none (ap (λ b. not b || comes_before (table_row bytes i) (row_before bytes i)) (held_here bytes count i false head fails)) lt)
    ∙ ap Some (place_is bytes count i head)

or_true : (a b : Bool) → b ≡ true → (a || b) ≡ true
or_true true b h = refl
or_true false b h = h

order_is : (bytes : List ℕ) (i : ℕ) (row before : AddressedRow) (b : Bool) → row ≡ table_row bytes i → before ≡ row_before bytes i → comes_before row before ≡ b → comes_before (table_row bytes i) (row_before bytes i) ≡ b
order_is bytes i row before b one two is = sym (ap (λ r. comes_before r before) one ∙ ap (comes_before (table_row bytes i)) two) ∙ is

pub wrong_order : (bytes : List ℕ) (count i : ℕ) (row before : AddressedRow) → HasHead bytes count → i < count → first_below (is_wrong_row bytes) i ≡ None → row ≡ table_row bytes i → before ≡ row_before bytes i → comes_before row before ≡ true → wrong_row bytes ≡ Some (16 + 8 * count + 6 * i)
wrong_order bytes count i row before head lt none one two is =
    ap (option_map (row_offset (row_count bytes))) (ap (first_below (is_wrong_row bytes)) head.count_is ∙ first_below-found (is_wrong_row bytes) i count none (or_true (not (holds_row (drop (row_offset (row_count bytes) i) bytes))) (comes_before (table_row bytes i) (row_before bytes i)) (order_is bytes i row before true one two is)) lt)
    ∙ ap Some (place_is bytes count i head)

pub right_row : (bytes : List ℕ) (count i : ℕ) (row before : AddressedRow) → HasHead bytes count → first_below (is_wrong_row bytes) i ≡ None → holds_row (drop (16 + 8 * count + 6 * i) bytes) ≡ true → row ≡ table_row bytes i → before ≡ row_before bytes i → comes_before row before ≡ false → first_below (is_wrong_row bytes) (i + 1) ≡ None
right_row bytes count i row before head none holds one two is =
    first_below-more (is_wrong_row bytes) i none
    (ap (λ b. not b || comes_before (table_row bytes i) (row_before bytes i)) (held_here bytes count i true head holds) ∙ order_is bytes i row before false one two is)

pub right_rows : (bytes : List ℕ) (count i : ℕ) → HasHead bytes count → i ≡ count → first_below (is_wrong_row bytes) i ≡ None → wrong_row bytes ≡ None
right_rows bytes count i head end none = ap (option_map (row_offset (row_count bytes))) (ap (first_below (is_wrong_row bytes)) (head.count_is ∙ sym end) ∙ none)

-- Where bytes are no table.
pub head_is_bad : (bytes : List ℕ) (off : ℕ) → head_fault bytes ≡ Some off → first_bad bytes ≡ Some off
unfolding first_bad
head_is_bad bytes off is = ap (λ o. option_or o (option_or (wrong_address bytes) (wrong_row bytes))) is

pub address_is_bad : (bytes : List ℕ) (off : ℕ) → head_fault bytes ≡ None → wrong_address bytes ≡ Some off → first_bad bytes ≡ Some off
unfolding first_bad
address_is_bad bytes off none is = ap (λ o. option_or o (option_or (wrong_address bytes) (wrong_row bytes))) none ∙ ap (λ o. option_or o (wrong_row bytes)) is

pub row_is_bad : (bytes : List ℕ) (off : ℕ) → head_fault bytes ≡ None → wrong_address bytes ≡ None → wrong_row bytes ≡ Some off → first_bad bytes ≡ Some off
unfolding first_bad
row_is_bad bytes off none rise is = ap (λ o. option_or o (option_or (wrong_address bytes) (wrong_row bytes))) none ∙ ap (λ o. option_or o (wrong_row bytes)) rise ∙ is
