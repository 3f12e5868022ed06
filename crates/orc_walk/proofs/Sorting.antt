-- A stable sort keeps which row is the last at or below an address.
use Rattle.std.proofs.Common.{◌≡◌, ℕ, zero, suc, ◌+◌, ◌*◌, ◌<◌, ◌≤◌, Bool, true, false, cond, not, ◌&&◌, ◌||◌, List, [], ◌∷◌, ◌++◌, Option, Some, None, refl, sym, ◌∙◌, ap, subst, inl, inr, leb, ltb, eqb, length, get_or, take, map, add-one, arith}
use Rattle.std.proofs.lemmas.Option.{none-some}
use Rattle.std.specs.Prelude.{All, filter, option_map, IsPermutation}
use Rattle.std.specs.List.Sorted.{IsNonDecreasingBy, IsSortedByKey, IsStableByKey, IsStableBy, ties}
use Rattle.std.specs.Ordering.{nat_cmp, bool_cmp, ordering_then, is_lt}
use Rattle.std.specs.declared.cmp.Ordering.{Ordering}
use Rattle.std.specs.declared.cmp.Ordering.TheVariants.{Less, Equal, Greater}
use Rattle.std.proofs.lemmas.Bool.{cases_lt, ltb-false, le-ltb, lt-leb, leb-true}
use Rattle.std.proofs.lemmas.Bool.Decides.{nat_tests}
use Rattle.std.proofs.lemmas.List.{get_or-map, get_or_default, length-map}
use Rattle.std.proofs.lemmas.List.Sums.{count_by-le-length}
use Rattle.std.proofs.lemmas.List.Elements.{All-nil, All-cons, All-head, All-tail, filter-append}
use Rattle.std.proofs.lemmas.List.Sorted.{All-permutation, IsPermutation-sym, IsNonDecreasingBy-from_all_adjacent}
use Rattle.ot_base.specs.declared.row.Row.{Row}
use Rattle.table_defs.specs.Lookup.{AddressedRow, at_or_below, comes_before, later, last_of}
use Rattle.orc_walk.specs.Rows.{addressed_row, rows_of, IsInOrder, row_at}
use Rattle.orc_walk.proofs.LastRow.{Items, IsSplit, ascends, last-push, none_below, ends_at, none_behind}
use Rattle.orc_walk.specs.Blocks.{rows_below}
use Rattle.orc_walk.proofs.Counts.{below_split, some_item}

-- the key that is sorted by, and its order
abbrev pub key_of : ℕ × Row → ℕ × Bool
key_of item = (item.0, not (eqb item.1.kind 0))

abbrev pub key_cmp : ℕ × Bool → ℕ × Bool → Ordering
key_cmp x y = ordering_then (nat_cmp x.0 y.0) (bool_cmp x.1 y.1)

key_bits : (p q j k : Bool) → is_lt (ordering_then (cond p Less (cond q Equal Greater)) (bool_cmp (not j) (not k))) ≡ (p || (q && (j && not k)))
key_bits true q j k = refl
key_bits false true true true = refl
key_bits false true true false = refl
key_bits false true false true = refl
key_bits false true false false = refl
key_bits false false j k = refl

before_key : (x y : ℕ × Row) → is_lt (key_cmp (key_of x) (key_of y)) ≡ comes_before (addressed_row x) (addressed_row y)
before_key x y = key_bits (ltb x.0 y.0) (eqb x.0 y.0) (eqb x.1.kind 0) (eqb y.1.kind 0)

-- the order of look-up as an order of numbers
abbrev rank : AddressedRow → ℕ
rank row = 2 * row.address + cond (eqb row.row.kind 0) 0 1

by_rank : (a b j k : ℕ) → (ltb a b || (eqb a b && (eqb j 0 && not (eqb k 0)))) ≡ ltb (2 * a + cond (eqb j 0) 0 1) (2 * b + cond (eqb k 0) 0 1)
by_rank a b j k = grind (arith, nat_tests)

before_rank : (x y : AddressedRow) → comes_before x y ≡ ltb (rank x) (rank y)
before_rank x y = by_rank x.address y.address x.row.kind y.row.kind

-- what is sorted by the key is in order
pub in_order : (items : Items) → IsSortedByKey key_of key_cmp items → IsInOrder (rows_of items)
in_order items sorted i j d less lt =
    let long : length (rows_of items) ≡ length items = length-map items addressed_row in
    let item : ℕ × Row = (d.address, d.row) in
    let up : IsNonDecreasingBy (λ x. rank (addressed_row x)) items = IsNonDecreasingBy-from_all_adjacent (λ x. rank (addressed_row x)) items (λ k e k_lt.
    ltb-false _ _ (sym (before_rank (addressed_row (get_or items (k + 1) e)) (addressed_row (get_or items k e))) ∙ sym (before_key (get_or items (k + 1) e) (get_or items k e)) ∙ sorted k e (omega arith) k_lt)) in
    let one : get_or (rows_of items) i d ≡ addressed_row (get_or items i item) = get_or-map addressed_row items i item d (omega arith) in
    let other : get_or (rows_of items) j d ≡ addressed_row (get_or items j item) = get_or-map addressed_row items j item d (omega arith) in
    let le : rank (addressed_row (get_or items i item)) ≤ rank (addressed_row (get_or items j item)) = up i j item (omega arith) (omega arith) in
    ap (λ row. comes_before row (get_or (rows_of items) i d)) other
    ∙ ap (λ row. comes_before (addressed_row (get_or items j item)) row) one
    ∙ before_rank (addressed_row (get_or items j item)) (addressed_row (get_or items i item))
    ∙ le-ltb _ _ le

filter_same : {X : Type 0} (p q : X → Bool) (xs : List X) → ((x : X) → p x ≡ q x) → filter p xs ≡ filter q xs
filter_same p q [] same = refl
filter_same p q (x ∷ xs) same = ap (λ b. cond b (x ∷ filter p xs) (filter p xs)) (same x) ∙ ap (λ ys. cond (q x) (x ∷ ys) ys) (filter_same p q xs same)

filter_mapped : {X Y : Type 0} (f : X → Y) (p : Y → Bool) (xs : List X) → filter p (map f xs) ≡ map f (filter (λ x. p (f x)) xs)
filter_mapped f p [] = refl
filter_mapped f p (x ∷ xs) = ap (λ ys. cond (p (f x)) (f x ∷ ys) ys) (filter_mapped f p xs) ∙ go f x (filter (λ x. p (f x)) xs) (p (f x))
  where
    go : {X Y : Type 0} (f : X → Y) (x : X) (ys : List X) (b : Bool) → cond b (f x ∷ map f ys) (map f ys) ≡ map f (cond b (x ∷ ys) ys)
    go f x ys true = refl
    go f x ys false = refl

filter_swapped : {X : Type 0} (p q : X → Bool) (xs : List X) → filter p (filter q xs) ≡ filter q (filter p xs)
filter_swapped p q [] = refl
filter_swapped p q (x ∷ xs) = go (filter_swapped p q xs) (p x) (q x) refl refl
  where
    go : filter p (filter q xs) ≡ filter q (filter p xs) → (a b : Bool) → p x ≡ a → q x ≡ b → filter p (cond (q x) (x ∷ filter q xs) (filter q xs)) ≡ filter q (cond (p x) (x ∷ filter p xs) (filter p xs))
    go rest true true h k =
        ap (λ c. filter p (cond c (x ∷ filter q xs) (filter q xs))) k ∙ ap (λ c. cond c (x ∷ filter p (filter q xs)) (filter p (filter q xs))) h
        ∙ ap (λ ys. x ∷ ys) rest
        ∙ sym (ap (λ c. filter q (cond c (x ∷ filter p xs) (filter p xs))) h ∙ ap (λ c. cond c (x ∷ filter q (filter p xs)) (filter q (filter p xs))) k)
    go rest true false h k =
        ap (λ c. filter p (cond c (x ∷ filter q xs) (filter q xs))) k ∙ rest
        ∙ sym (ap (λ c. filter q (cond c (x ∷ filter p xs) (filter p xs))) h ∙ ap (λ c. cond c (x ∷ filter q (filter p xs)) (filter q (filter p xs))) k)
    go rest false true h k =
        ap (λ c. filter p (cond c (x ∷ filter q xs) (filter q xs))) k ∙ ap (λ c. cond c (x ∷ filter p (filter q xs)) (filter p (filter q xs))) h
        ∙ rest
        ∙ sym (ap (λ c. filter q (cond c (x ∷ filter p xs) (filter p xs))) h)
    go rest false false h k =
        ap (λ c. filter p (cond c (x ∷ filter q xs) (filter q xs))) k ∙ rest
        ∙ sym (ap (λ c. filter q (cond c (x ∷ filter p xs) (filter p xs))) h)

-- rows that tie keep their order
stable_rows : (xs ys : Items) → IsStableByKey key_of key_cmp xs ys → IsStableBy comes_before (rows_of xs) (rows_of ys)
stable_rows xs ys stable row =
    let item : ℕ × Row = (row.address, row.row) in
    tied ys row ∙ ap rows_of (stable item) ∙ sym (tied xs row)
  where
    tied : (zs : Items) (row : AddressedRow) → filter (ties comes_before row) (rows_of zs) ≡ rows_of (filter (ties (λ x y. is_lt (key_cmp (key_of x) (key_of y))) (row.address, row.row)) zs)
    tied zs row =
        filter_mapped addressed_row (ties comes_before row) zs
        ∙ ap rows_of (filter_same (λ x. ties comes_before row (addressed_row x)) (ties (λ x y. is_lt (key_cmp (key_of x) (key_of y))) (row.address, row.row)) zs (λ x.
        ap (λ b. not b && not (comes_before (addressed_row x) row)) (sym (before_key (row.address, row.row) x))
        ∙ ap (λ b. not (is_lt (key_cmp (key_of (row.address, row.row)) (key_of x))) && not b) (sym (before_key x (row.address, row.row)))))

last_among : (P : AddressedRow → Type 0) (rows : List AddressedRow) (row : AddressedRow) → All P rows → last_of rows ≡ Some row → P row
last_among P [] row all h = absurd (none-some _ h)
last_among P (x ∷ rows) row all h = go (λ other is. last_among P rows other (All-tail P x rows all) is) (last_of rows) refl h
  where
    some_same : {A : Type 0} {x y : A} → Some x ≡ Some y → x ≡ y
    some_same h = cc

    pick : (b : Bool) (other : AddressedRow) → P x → P other → P (cond b x other)
    pick true other here there = here
    pick false other here there = there

    go : ((other : AddressedRow) → last_of rows ≡ Some other → P other) → (o : Option AddressedRow) → last_of rows ≡ o → Some (later x o) ≡ Some row → P row
    go rest None is same = subst P (some_same same) (All-head P x rows all)
    go rest (Some other) is same = subst P (some_same same) (pick (comes_before other x) other (All-head P x rows all) (rest other is))

-- one that each row behind it comes before is the last
last_ahead : (row : AddressedRow) (rows : List AddressedRow) → All (λ other. comes_before other row ≡ true) rows → last_of (row ∷ rows) ≡ Some row
last_ahead row rows after = go (last_of rows) refl
  where
    go : (o : Option AddressedRow) → last_of rows ≡ o → Some (later row (last_of rows)) ≡ Some row
    go None is = ap (λ o. Some (later row o)) is
    go (Some other) is = ap (λ o. Some (later row o)) is ∙ ap (λ b. Some (cond b row other)) (last_among (λ other. comes_before other row ≡ true) rows other after is)

push_not_nil : {X : Type 0} (xs : List X) (x : X) → [] ≡ xs ++ x ∷ [] → ⊥
push_not_nil [] x h = cc
push_not_nil (y ∷ xs) x h = cc

cons_not_nil : {X : Type 0} (y : X) (ys : List X) → y ∷ ys ≡ [] → ⊥
cons_not_nil y ys h = cc

-- those that neither tie with a row nor come after it come before it
all_before : (rows : List AddressedRow) (row : AddressedRow) → All (λ other. comes_before row other ≡ false) rows → filter (ties comes_before row) rows ≡ [] → All (λ other. comes_before other row ≡ true) rows
all_before [] row none empty = All-nil _
all_before (x ∷ rows) row none empty = go (λ empty. all_before rows row (All-tail (λ other. comes_before row other ≡ false) x rows none) empty) (comes_before x row) refl
  where
    tie : ties comes_before row x ≡ not (comes_before x row)
    tie = ap (λ b. not b && not (comes_before x row)) (All-head (λ other. comes_before row other ≡ false) x rows none)

    go : (filter (ties comes_before row) rows ≡ [] → All (λ other. comes_before other row ≡ true) rows) → (b : Bool) → comes_before x row ≡ b → All (λ other. comes_before other row ≡ true) (x ∷ rows)
    go rest true is = All-cons (λ other. comes_before other row ≡ true) x rows is (rest (sym (ap (λ b. cond b (x ∷ filter (ties comes_before row) rows) (filter (ties comes_before row) rows)) (tie ∙ ap not is)) ∙ empty))
    go rest false is = absurd (cons_not_nil x (filter (ties comes_before row) rows) (sym (ap (λ b. cond b (x ∷ filter (ties comes_before row) rows) (filter (ties comes_before row) rows)) (tie ∙ ap not is)) ∙ empty))

-- a row that comes before none, and is the last of those that tie with it, is the last
last_by_ties : (rows : List AddressedRow) (row : AddressedRow) (front : List AddressedRow) → All (λ other. comes_before row other ≡ false) rows → filter (ties comes_before row) rows ≡ front ++ row ∷ [] → last_of rows ≡ Some row
last_by_ties [] row front none tied = absurd (push_not_nil front row tied)
last_by_ties (x ∷ rows) row front none tied = go (λ front tied. last_by_ties rows row front (All-tail (λ other. comes_before row other ≡ false) x rows none) tied) (comes_before x row) front refl tied
  where
    tie : ties comes_before row x ≡ not (comes_before x row)
    tie = ap (λ b. not b && not (comes_before x row)) (All-head (λ other. comes_before row other ≡ false) x rows none)

    onward : last_of rows ≡ Some row → last_of (x ∷ rows) ≡ Some row
    onward is = ap (λ o. Some (later x o)) is ∙ ap (λ b. Some (cond b x row)) (All-head (λ other. comes_before row other ≡ false) x rows none)

    heads : {X : Type 0} (a b : X) (us vs : List X) → a ∷ us ≡ b ∷ vs → a ≡ b
    heads a b us vs h = cc

    tails : {X : Type 0} (a b : X) (us vs : List X) → a ∷ us ≡ b ∷ vs → us ≡ vs
    tails a b us vs h = cc

    go : ((front : List AddressedRow) → filter (ties comes_before row) rows ≡ front ++ row ∷ [] → last_of rows ≡ Some row) → (b : Bool) (front : List AddressedRow) → comes_before x row ≡ b → filter (ties comes_before row) (x ∷ rows) ≡ front ++ row ∷ [] → last_of (x ∷ rows) ≡ Some row
    go rest true front is tied = onward (rest front (sym (ap (λ b. cond b (x ∷ filter (ties comes_before row) rows) (filter (ties comes_before row) rows)) (tie ∙ ap not is)) ∙ tied))
    go rest false [] is tied =
        let split : x ∷ filter (ties comes_before row) rows ≡ row ∷ [] = sym (ap (λ b. cond b (x ∷ filter (ties comes_before row) rows) (filter (ties comes_before row) rows)) (tie ∙ ap not is)) ∙ tied in
        let same : x ≡ row = heads _ _ _ _ split in
        ap (λ r. last_of (r ∷ rows)) same ∙ last_ahead row rows (all_before rows row (All-tail (λ other. comes_before row other ≡ false) x rows none) (tails _ _ _ _ split))
    go rest false (u ∷ front) is tied =
        let split : x ∷ filter (ties comes_before row) rows ≡ u ∷ (front ++ row ∷ []) = sym (ap (λ b. cond b (x ∷ filter (ties comes_before row) rows) (filter (ties comes_before row) rows)) (tie ∙ ap not is)) ∙ tied in
        onward (rest front (tails _ _ _ _ split))

filter_none : {X : Type 0} (p : X → Bool) (xs : List X) → All (λ x. p x ≡ false) xs → filter p xs ≡ []
filter_none p [] none = refl
filter_none p (x ∷ xs) none = ap (λ b. cond b (x ∷ filter p xs) (filter p xs)) (All-head (λ x. p x ≡ false) x xs none) ∙ filter_none p xs (All-tail (λ x. p x ≡ false) x xs none)

-- what holds of each that passes holds of each that is kept
filter_holds : {X : Type 0} (P : X → Type 0) (p : X → Bool) (xs : List X) → All (λ x. p x ≡ true → P x) xs → All P (filter p xs)
filter_holds P p [] all = All-nil P
filter_holds P p (x ∷ xs) all = go (filter_holds P p xs (All-tail (λ x. p x ≡ true → P x) x xs all)) (p x) refl
  where
    go : All P (filter p xs) → (b : Bool) → p x ≡ b → All P (cond (p x) (x ∷ filter p xs) (filter p xs))
    go rest true is = subst (λ b. All P (cond b (x ∷ filter p xs) (filter p xs))) (sym is) (All-cons P x (filter p xs) (All-head (λ x. p x ≡ true → P x) x xs all is) rest)
    go rest false is = subst (λ b. All P (cond b (x ∷ filter p xs) (filter p xs))) (sym is) rest

not_before_itself : (row : AddressedRow) → comes_before row row ≡ false
not_before_itself row = before_rank row row ∙ le-ltb _ _ (omega arith)

ties_with_itself : (row : AddressedRow) → ties comes_before row row ≡ true
ties_with_itself row = ap (λ b. not b && not b) (not_before_itself row)

-- the last row at or below the address is the same in both lists
same_last : (xs ys : List AddressedRow) (address : ℕ) (row : AddressedRow) (front : List AddressedRow) → IsStableBy comes_before xs ys
    → at_or_below address ys ≡ front ++ row ∷ []
    → All (λ other. leb other.address address ≡ true → comes_before row other ≡ false) xs
    → last_of (at_or_below address xs) ≡ Some row
same_last xs ys address row front stable low none =
    last_by_ties (at_or_below address xs) row (filter (ties comes_before row) front)
    (filter_holds (λ other. comes_before row other ≡ false) (λ other. leb other.address address) xs none)
    (filter_swapped (ties comes_before row) (λ other. leb other.address address) xs
    ∙ ap (filter (λ other. leb other.address address)) (sym (stable row))
    ∙ filter_swapped (λ other. leb other.address address) (ties comes_before row) ys
    ∙ ap (filter (ties comes_before row)) low
    ∙ filter-append (ties comes_before row) front (row ∷ [])
    ∙ ap (λ b. filter (ties comes_before row) front ++ cond b (row ∷ []) []) (ties_with_itself row))

by_count : (xs ys : Items) (address n : ℕ) → n ≤ length ys → IsSplit ys address n → IsPermutation xs ys → IsInOrder (rows_of ys) → IsStableBy comes_before (rows_of xs) (rows_of ys) → row_at address (rows_of ys) ≡ row_at address (rows_of xs)
by_count xs ys address zero le split moved order stable =
    let high : All (λ item. leb item.0 address ≡ false) ys = (λ k d lt. lt-leb _ _ (split.1 k d (omega arith) lt)) in
    let back : All (λ item. leb item.0 address ≡ false) xs = All-permutation (λ item. leb item.0 address ≡ false) ys xs (IsPermutation-sym xs ys moved) high in
    let rows : All (λ row. leb row.address address ≡ false) (rows_of xs) = mapped_all xs back in
    none_below ys address zero refl le split ∙ sym (ap (λ rows. option_map (λ last. last.row) (last_of rows)) (filter_none (λ row. leb row.address address) (rows_of xs) rows))
  where
    mapped_all : (items : Items) → All (λ item. leb item.0 address ≡ false) items → All (λ row. leb row.address address ≡ false) (rows_of items)
    mapped_all [] all = All-nil _
    mapped_all (x ∷ items) all = All-cons (λ row. leb row.address address ≡ false) (addressed_row x) (rows_of items) (All-head (λ item. leb item.0 address ≡ false) x items all) (mapped_all items (All-tail (λ item. leb item.0 address ≡ false) x items all))
by_count xs ys address (suc k) le split moved order stable =
    let item : ℕ × Row = some_item ys k (omega arith) in
    let found : ℕ × Row = get_or ys k item in
    let is : found ≡ get_or ys k found = get_or_default ys k item found (omega arith) in
    let split_at : IsSplit ys address (k + 1) = subst (IsSplit ys address) (sym (add-one k)) split in
    let low = ends_at ys address k found (omega arith) split_at is in
    let each : All (λ other. leb other.0 address ≡ true → comes_before (addressed_row found) (addressed_row other) ≡ false) ys = (λ i d i_lt within. last_of_all ys address k found order (omega arith) split_at is i d i_lt (leb-true _ _ within)) in
    let back : All (λ other. leb other.0 address ≡ true → comes_before (addressed_row found) (addressed_row other) ≡ false) xs = All-permutation (λ other. leb other.0 address ≡ true → comes_before (addressed_row found) (addressed_row other) ≡ false) ys xs (IsPermutation-sym xs ys moved) each in
    ap (λ rows. option_map (λ last. last.row) (last_of rows)) low
    ∙ ap (option_map (λ last. last.row)) (last-push (take k (rows_of ys)) (addressed_row found) (none_behind ys address k found order (omega arith) is))
    ∙ sym (ap (option_map (λ last. last.row)) (same_last (rows_of xs) (rows_of ys) address (addressed_row found) (take k (rows_of ys)) stable low (mapped_all (addressed_row found) xs back)))
  where
    mapped_all : (row : AddressedRow) (items : Items) → All (λ other. leb other.0 address ≡ true → comes_before row (addressed_row other) ≡ false) items → All (λ other. leb other.address address ≡ true → comes_before row other ≡ false) (rows_of items)
    mapped_all row [] all = All-nil _
    mapped_all row (x ∷ items) all = All-cons (λ other. leb other.address address ≡ true → comes_before row other ≡ false) (addressed_row x) (rows_of items) (All-head (λ other. leb other.0 address ≡ true → comes_before row (addressed_row other) ≡ false) x items all) (mapped_all row items (All-tail (λ other. leb other.0 address ≡ true → comes_before row (addressed_row other) ≡ false) x items all))

    last_of_all : (items : Items) (address k : ℕ) (item : ℕ × Row) → IsInOrder (rows_of items) → k < length items → IsSplit items address (k + 1) → item ≡ get_or items k item → (i : ℕ) (d : ℕ × Row) → i < length items → (get_or items i d).0 ≤ address → comes_before (addressed_row item) (addressed_row (get_or items i d)) ≡ false
    last_of_all items address k item order lt split is i d i_lt within =
        let long : length (rows_of items) ≡ length items = length-map items addressed_row in
        let there : get_or (rows_of items) k (addressed_row d) ≡ addressed_row item = get_or-map addressed_row items k item (addressed_row d) lt ∙ ap addressed_row (sym is) in
        let here : get_or (rows_of items) i (addressed_row d) ≡ addressed_row (get_or items i d) = get_or-map addressed_row items i d (addressed_row d) i_lt in
        elim (cases_lt i k) [
          | inl less ↦ sym (ap (λ r. comes_before r (get_or (rows_of items) i (addressed_row d))) there ∙ ap (comes_before (addressed_row item)) here) ∙ order i k (addressed_row d) less (omega arith)
          | inr not_less ↦ elim (cases_lt k i) [
            | inl more ↦ let high : address < (get_or items i d).0 = split.1 i d (omega arith) i_lt in absurd (omega arith)
            | inr not_more ↦
                let same : i ≡ k = omega arith in
                ap (λ r. comes_before (addressed_row item) r) (sym here ∙ ap (λ n. get_or (rows_of items) n (addressed_row d)) same ∙ there) ∙ not_before_itself (addressed_row item)
          ]
        ]

pub same_row : (xs ys : Items) (address : ℕ) → IsPermutation xs ys → IsSortedByKey key_of key_cmp ys → IsStableByKey key_of key_cmp xs ys → row_at address (rows_of ys) ≡ row_at address (rows_of xs)
same_row xs ys address moved sorted stable =
    let order = in_order ys sorted in
    let split = below_split ys (address + 1) (ascends ys order) in
    let le : rows_below (address + 1) (rows_of ys) ≤ length ys = omega (arith, length-map ys addressed_row, count_by-le-length (λ row. ltb row.address (address + 1)) (rows_of ys)) in
    by_count xs ys address (rows_below (address + 1) (rows_of ys)) le
    ((λ k d low lt. let h : (get_or ys k d).0 < address + 1 = split.0 k d low lt in omega arith), (λ k d low lt. let h : address + 1 ≤ (get_or ys k d).0 = split.1 k d low lt in omega arith))
    moved order (stable_rows xs ys stable)
