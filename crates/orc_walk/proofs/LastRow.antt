-- The row that holds at an address, where rows stand in the order of look-up.
use Rattle.std.proofs.Common.{◌≡◌, ℕ, zero, suc, ◌+◌, ◌<◌, ◌≤◌, Bool, true, false, cond, ◌||◌, List, [], ◌∷◌, ◌++◌, Some, None, refl, sym, ◌∙◌, ap, subst, inl, inr, leb, ltb, length, get_or, take, arith}
use Rattle.std.specs.Prelude.{All, filter, option_map}
use Rattle.std.specs.List.{AllWithin}
use Rattle.std.specs.List.Sorted.{IsNonDecreasingBy, IsPartitionPoint}
use Rattle.std.proofs.lemmas.Bool.{ltb-false, le-leb, lt-leb, cases_lt}
use Rattle.std.proofs.lemmas.List.{get_or-map, length-map, length-take-le, get_or-take, get_or_default, take_more}
use Rattle.std.proofs.lemmas.List.Elements.{All-head, All-tail}
use Rattle.ot_base.specs.declared.row.Row.{Row}
use Rattle.table_defs.specs.Lookup.{AddressedRow, at_or_below, comes_before, later, last_of}
use Rattle.orc_walk.specs.Rows.{addressed_row, rows_of, IsInOrder, row_at}

abbrev pub Items : Type 0
Items = List (ℕ × Row)

first_false : (a b : Bool) → (a || b) ≡ false → a ≡ false
first_false false b h = refl
first_false true b h = h

not_before : (one other : AddressedRow) → comes_before other one ≡ false → one.address ≤ other.address
not_before one other h = ltb-false _ _ (first_false (ltb other.address one.address) _ h)

-- addresses ascend
pub ascends : (items : Items) → IsInOrder (rows_of items) → IsNonDecreasingBy (λ item. item.0) items
ascends items order i j d le lt =
    elim (cases_lt i j) [
      | inl less ↦
          let long : length (rows_of items) ≡ length items = length-map items addressed_row in
          let pair : (get_or (rows_of items) i (addressed_row d)).address ≤ (get_or (rows_of items) j (addressed_row d)).address = not_before (get_or (rows_of items) i (addressed_row d)) (get_or (rows_of items) j (addressed_row d)) (order i j (addressed_row d) less (omega arith)) in
          let one : (get_or (rows_of items) i (addressed_row d)).address ≡ (get_or items i d).0 = ap (λ row. row.address) (get_or-map addressed_row items i d (addressed_row d) (omega arith)) in
          let other : (get_or (rows_of items) j (addressed_row d)).address ≡ (get_or items j d).0 = ap (λ row. row.address) (get_or-map addressed_row items j d (addressed_row d) lt) in
          omega arith
      | inr not_less ↦ let same : i ≡ j = omega arith in subst (λ k. (get_or items i d).0 ≤ (get_or items k d).0) same (omega arith)
    ]

-- what passes stands in front, so a filter takes the front
filter_front : {X : Type 0} (p : X → Bool) (xs : List X) (n : ℕ) → n ≤ length xs → AllWithin (λ x. p x ≡ true) xs 0 n → AllWithin (λ x. p x ≡ false) xs n (length xs) → filter p xs ≡ take n xs
filter_front p [] n le pass fail = sym (ap (λ k. take k []) (let none : n ≡ 0 = omega arith in none))
filter_front p (x ∷ xs) zero le pass fail =
    ap (λ b. cond b (x ∷ filter p xs) (filter p xs)) (fail 0 x (omega arith) (omega arith))
    ∙ filter_front p xs zero (omega arith) (λ k d low lt. absurd (omega arith)) (λ k d low lt. fail (suc k) d (omega arith) (omega arith))
filter_front p (x ∷ xs) (suc n) le pass fail =
    ap (λ b. cond b (x ∷ filter p xs) (filter p xs)) (pass 0 x (omega arith) (omega arith))
    ∙ ap (λ ys. x ∷ ys) (filter_front p xs n (omega arith) (λ k d low lt. pass (suc k) d (omega arith) (omega arith)) (λ k d low lt. fail (suc k) d (omega arith) (omega arith)))

-- a row behind others that comes before none of them is the last
pub last-push : (rows : List AddressedRow) (row : AddressedRow) → All (λ other. comes_before row other ≡ false) rows → last_of (rows ++ row ∷ []) ≡ Some row
last-push [] row none = refl
last-push (other ∷ rows) row none =
    ap (λ o. Some (later other o)) (last-push rows row (All-tail (λ other. comes_before row other ≡ false) other rows none))
    ∙ ap (λ b. Some (cond b other row)) (All-head (λ other. comes_before row other ≡ false) other rows none)

abbrev pub IsSplit : Items → ℕ → ℕ → Type 0
IsSplit items address n = IsPartitionPoint (λ item. item.0 ≤ address) (λ item. address < item.0) items n

-- the rows at or below the address are the first n
pub low_rows : (items : Items) (address n : ℕ) → n ≤ length items → IsSplit items address n → at_or_below address (rows_of items) ≡ take n (rows_of items)
low_rows items address n le split =
    let long : length (rows_of items) ≡ length items = length-map items addressed_row in
    filter_front (λ row. leb row.address address) (rows_of items) n (omega arith)
    (λ k d low lt.
    let item : ℕ × Row = (d.address, d.row) in
    let here : (get_or (rows_of items) k d).address ≡ (get_or items k item).0 = ap (λ row. row.address) (get_or-map addressed_row items k item d (omega arith)) in
    let le : (get_or items k item).0 ≤ address = split.0 k item low lt in
    le-leb _ _ (omega arith))
    (λ k d low lt.
    let item : ℕ × Row = (d.address, d.row) in
    let here : (get_or (rows_of items) k d).address ≡ (get_or items k item).0 = ap (λ row. row.address) (get_or-map addressed_row items k item d (omega arith)) in
    let gt : address < (get_or items k item).0 = split.1 k item low (omega arith) in
    lt-leb _ _ (omega arith))

pub none_below : (items : Items) (address n : ℕ) → n ≡ 0 → n ≤ length items → IsSplit items address n → row_at address (rows_of items) ≡ None
none_below items address n none le split = ap (λ rows. option_map (λ last. last.row) (last_of rows)) (low_rows items address n le split ∙ ap (λ k. take k (rows_of items)) none)

-- these end with the last one
pub ends_at : (items : Items) (address k : ℕ) (item : ℕ × Row) → k < length items → IsSplit items address (k + 1) → item ≡ get_or items k item → at_or_below address (rows_of items) ≡ take k (rows_of items) ++ addressed_row item ∷ []
ends_at items address k item lt split is =
    let long : length (rows_of items) ≡ length items = length-map items addressed_row in
    let row : AddressedRow = addressed_row item in
    let here : get_or (rows_of items) k row ≡ row = get_or-map addressed_row items k item row lt ∙ ap addressed_row (sym is) in
    low_rows items address (k + 1) (omega arith) split ∙ take_more (rows_of items) k row (omega arith) ∙ ap (λ r. take k (rows_of items) ++ r ∷ []) here

-- it comes before none ahead of it
pub none_behind : (items : Items) (address k : ℕ) (item : ℕ × Row) → IsInOrder (rows_of items) → k < length items → item ≡ get_or items k item → All (λ other. comes_before (addressed_row item) other ≡ false) (take k (rows_of items))
none_behind items address k item order lt is i d i_lt =
    let long : length (rows_of items) ≡ length items = length-map items addressed_row in
    let row : AddressedRow = addressed_row item in
    let here : get_or (rows_of items) k row ≡ row = get_or-map addressed_row items k item row lt ∙ ap addressed_row (sym is) in
    let short : length (take k (rows_of items)) ≡ k = length-take-le k (rows_of items) (omega arith) in
    let there : get_or (take k (rows_of items)) i d ≡ get_or (rows_of items) i d = get_or-take k (rows_of items) i d (omega arith) in
    let pair : comes_before (get_or (rows_of items) k d) (get_or (rows_of items) i d) ≡ false = order i k d (omega arith) (omega arith) in
    let last : get_or (rows_of items) k d ≡ row = get_or_default (rows_of items) k d row (omega arith) ∙ here in
    subst (λ other. comes_before row other ≡ false) (sym there) (subst (λ one. comes_before one (get_or (rows_of items) i d) ≡ false) last pair)

pub last_below : (items : Items) (address k : ℕ) (item : ℕ × Row) → IsInOrder (rows_of items) → k < length items → IsSplit items address (k + 1) → item ≡ get_or items k item → row_at address (rows_of items) ≡ Some item.1
last_below items address k item order lt split is =
    ap (λ rows. option_map (λ last. last.row) (last_of rows)) (ends_at items address k item lt split is)
    ∙ ap (option_map (λ last. last.row)) (last-push (take k (rows_of items)) (addressed_row item) (none_behind items address k item order lt is))
