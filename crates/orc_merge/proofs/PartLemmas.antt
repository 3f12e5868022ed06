-- One object more: its rows, its ranges, and the first faulty one.
use Rattle.std.proofs.Common.{◌≡◌, ℕ, zero, suc, ◌+◌, ◌<◌, List, [], ◌∷◌, ◌++◌, Option, Some, None, refl, sym, ◌∙◌, ap, length, get_or, take, drop, map, arith, append_assoc}
use Rattle.std.specs.Prelude.{flat_map}
use Rattle.std.specs.Option.{option_or}
use Rattle.std.specs.Ordering.{nat_cmp}
use Rattle.std.specs.BTreeMap.{BTreeMap, get}
use Rattle.std.proofs.lemmas.List.{take_more, length-take-le}
use Rattle.std.proofs.lemmas.List.Concat.{flat_map-append}
use Rattle.ot_base.specs.declared.row.Row.{Row}
use Rattle.ot_base.specs.declared.row.PlacedRow.{PlacedRow}
use Rattle.table_defs.specs.declared.range.Range.{Range}
use Rattle.table_defs.specs.Lookup.{AddressedRow}
use Rattle.orc_walk.specs.Rows.{addressed_row, rows_of}
use Rattle.orc_walk.specs.Bases.{HasBases}
use Rattle.orc_walk.proofs.BaseLemmas.{front_rows, row_added, row_left_out}
use Rattle.orc_merge.specs.declared.part.Part.{Part}
use Rattle.orc_merge.specs.Parts.{first_in, ranges_from, owned_ranges}

-- rows as items
item_of : AddressedRow → ℕ × Row
item_of row = (row.address, row.row)

items_again : (rows : List AddressedRow) → rows_of (map item_of rows) ≡ rows
unfolding item_of
items_again [] = refl
items_again (row ∷ rows) = ap (λ xs. row ∷ xs) (items_again rows)

rows_push : (items : List (ℕ × Row)) (item : ℕ × Row) → rows_of (items ++ item ∷ []) ≡ rows_of items ++ addressed_row item ∷ []
rows_push [] item = refl
rows_push (x ∷ items) item = ap (λ rows. addressed_row x ∷ rows) (rows_push items item)

-- one placed row more
pub row_behind : (ranges : List Range) (m : BTreeMap ℕ ℕ) (rows : List PlacedRow) (i base : ℕ) (d : PlacedRow) (old : List AddressedRow) (items : List (ℕ × Row)) → i < length rows → HasBases ranges m → rows_of items ≡ old ++ front_rows ranges rows i
    → get nat_cmp m (get_or rows i d).place.sec ≡ Some base
    → rows_of (items ++ (base + (get_or rows i d).place.off, (get_or rows i d).row) ∷ []) ≡ old ++ front_rows ranges rows (i + 1)
row_behind ranges m rows i base d old items lt has so_far is =
    let item : ℕ × Row = (base + (get_or rows i d).place.off, (get_or rows i d).row) in
    let front : List (ℕ × Row) = map item_of (front_rows ranges rows i) in
    rows_push items item
    ∙ ap (λ xs. xs ++ addressed_row item ∷ []) so_far
    ∙ append_assoc old (front_rows ranges rows i) (addressed_row item ∷ [])
    ∙ ap (λ xs. old ++ xs)
    (ap (λ xs. xs ++ addressed_row item ∷ []) (sym (items_again (front_rows ranges rows i)))
    ∙ sym (rows_push front item)
    ∙ row_added ranges m rows i base d front lt has (items_again (front_rows ranges rows i)) is)

-- one row more that isn't placed
pub row_passed : (ranges : List Range) (m : BTreeMap ℕ ℕ) (rows : List PlacedRow) (i : ℕ) (d : PlacedRow) (old : List AddressedRow) (items : List (ℕ × Row)) → i < length rows → HasBases ranges m → rows_of items ≡ old ++ front_rows ranges rows i
    → get nat_cmp m (get_or rows i d).place.sec ≡ None
    → rows_of items ≡ old ++ front_rows ranges rows (i + 1)
row_passed ranges m rows i d old items lt has so_far is =
    so_far
    ∙ ap (λ xs. old ++ xs)
    (sym (items_again (front_rows ranges rows i))
    ∙ row_left_out ranges m rows i d (map item_of (front_rows ranges rows i)) lt has (items_again (front_rows ranges rows i)) is)

pub append_nil : {A : Type 0} (xs : List A) → xs ++ [] ≡ xs
append_nil [] = refl
append_nil (x ∷ xs) = ap (λ ys. x ∷ ys) (append_nil xs)

-- one list more
pub flat_map-more : {X Y : Type 0} (f : X → List Y) (xs : List X) (i : ℕ) (d : X) → i < length xs → flat_map f (take (i + 1) xs) ≡ flat_map f (take i xs) ++ f (get_or xs i d)
flat_map-more f xs i d lt = ap (flat_map f) (take_more xs i d lt) ∙ flat_map-append f (take i xs) (get_or xs i d ∷ []) ∙ ap (λ ys. flat_map f (take i xs) ++ ys) (append_nil (f (get_or xs i d)))

-- the first fault of some objects, or else of those behind them
or_more : {A : Type 0} (one two three : Option A) → option_or (option_or one two) three ≡ option_or one (option_or two three)
or_more None two three = refl
or_more (Some x) two three = refl

first_in-append : {F : Type 0} (f : ℕ → Part → Option F) (k : ℕ) (xs ys : List Part) → first_in f k (xs ++ ys) ≡ option_or (first_in f k xs) (first_in f (k + length xs) ys)
first_in-append f k [] ys = ap (λ n. first_in f n ys) (omega arith)
first_in-append f k (x ∷ xs) ys =
    ap (option_or (f k x)) (first_in-append f (k + 1) xs ys)
    ∙ sym (or_more (f k x) (first_in f (k + 1) xs) _)
    ∙ ap (λ n. option_or (option_or (f k x) (first_in f (k + 1) xs)) (first_in f n ys)) (omega arith)

or_none : {A : Type 0} (o : Option A) → option_or o None ≡ o
or_none None = refl
or_none (Some x) = refl

-- behind objects without a fault the next one's counts
pub first_more : {F : Type 0} (f : ℕ → Part → Option F) (parts : List Part) (i : ℕ) (d : Part) → i < length parts → first_in f 0 (take i parts) ≡ None → first_in f 0 (take (i + 1) parts) ≡ f i (get_or parts i d)
first_more f parts i d lt none =
    let short : length (take i parts) ≡ i = length-take-le i parts (omega arith) in
    ap (first_in f 0) (take_more parts i d lt)
    ∙ first_in-append f 0 (take i parts) (get_or parts i d ∷ [])
    ∙ ap (λ o. option_or o (first_in f (0 + length (take i parts)) (get_or parts i d ∷ []))) none
    ∙ or_none (f (0 + length (take i parts)) (get_or parts i d))
    ∙ ap (λ n. f n (get_or parts i d)) (omega arith)

take_drop : {A : Type 0} (n : ℕ) (xs : List A) → xs ≡ take n xs ++ drop n xs
take_drop zero xs = refl
take_drop (suc n) [] = refl
take_drop (suc n) (x ∷ xs) = ap (λ ys. x ∷ ys) (take_drop n xs)

-- a fault of the first objects is that of all
pub first_stays : {F : Type 0} (f : ℕ → Part → Option F) (parts : List Part) (n : ℕ) (fault : F) → first_in f 0 (take n parts) ≡ Some fault → first_in f 0 parts ≡ Some fault
first_stays f parts n fault is =
    ap (first_in f 0) (take_drop n parts)
    ∙ first_in-append f 0 (take n parts) (drop n parts)
    ∙ ap (λ o. option_or o (first_in f (0 + length (take n parts)) (drop n parts))) is

-- the ranges of one object more
ranges_from-append : (k : ℕ) (xs ys : List Part) → ranges_from k (xs ++ ys) ≡ ranges_from k xs ++ ranges_from (k + length xs) ys
ranges_from-append k [] ys = ap (λ n. ranges_from n ys) (omega arith)
ranges_from-append k (x ∷ xs) ys =
    ap (λ rest. owned_ranges k x.ranges.items ++ rest) (ranges_from-append (k + 1) xs ys)
    ∙ sym (append_assoc (owned_ranges k x.ranges.items) (ranges_from (k + 1) xs) _)
    ∙ ap (λ n. (owned_ranges k x.ranges.items ++ ranges_from (k + 1) xs) ++ ranges_from n ys) (omega arith)

pub ranges_from-more : (parts : List Part) (i : ℕ) (d : Part) → i < length parts → ranges_from 0 (take (i + 1) parts) ≡ ranges_from 0 (take i parts) ++ owned_ranges i (get_or parts i d).ranges.items
ranges_from-more parts i d lt =
    let short : length (take i parts) ≡ i = length-take-le i parts (omega arith) in
    ap (ranges_from 0) (take_more parts i d lt)
    ∙ ranges_from-append 0 (take i parts) (get_or parts i d ∷ [])
    ∙ ap (λ rest. ranges_from 0 (take i parts) ++ rest) (append_nil (owned_ranges (0 + length (take i parts)) (get_or parts i d).ranges.items))
    ∙ ap (λ n. ranges_from 0 (take i parts) ++ owned_ranges n (get_or parts i d).ranges.items) (omega arith)
