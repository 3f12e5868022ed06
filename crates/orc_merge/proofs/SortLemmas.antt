-- What a stable sort of a tape's items leaves of their order.
use Rattle.std.proofs.Common.{◌≡◌, ℕ, Bool, true, false, cond, not, ◌&&◌, ◌||◌, List, [], ◌∷◌, refl, sym, ◌∙◌, ap, ltb, eqb, map}
use Rattle.std.specs.Prelude.{filter}
use Rattle.std.specs.List.Sorted.{IsStableByKey, IsStableBy, ties}
use Rattle.std.specs.Ordering.{bool_cmp, ordering_then, is_lt}
use Rattle.std.specs.declared.cmp.Ordering.TheVariants.{Less, Equal, Greater}
use Rattle.ot_base.specs.declared.row.Row.{Row}
use Rattle.table_defs.specs.Lookup.{AddressedRow, comes_before}
use Rattle.orc_walk.specs.Rows.{addressed_row, rows_of}
use Rattle.orc_walk.proofs.LastRow.{Items}
use Rattle.orc_walk.proofs.Sorting.{key_of, key_cmp}

key_bits : (p q j k : Bool) → is_lt (ordering_then (cond p Less (cond q Equal Greater)) (bool_cmp (not j) (not k))) ≡ (p || (q && (j && not k)))
key_bits true q j k = refl
key_bits false true true true = refl
key_bits false true true false = refl
key_bits false true false true = refl
key_bits false true false false = refl
key_bits false false j k = refl

before_key : (x y : ℕ × Row) → is_lt (key_cmp (key_of x) (key_of y)) ≡ comes_before (addressed_row x) (addressed_row y)
before_key x y = key_bits (ltb x.0 y.0) (eqb x.0 y.0) (eqb x.1.kind 0) (eqb y.1.kind 0)

filter_same : {X : Type 0} (p q : X → Bool) (xs : List X) → ((x : X) → p x ≡ q x) → filter p xs ≡ filter q xs
filter_same p q [] same = refl
filter_same p q (x ∷ xs) same = ap (λ b. cond b (x ∷ filter p xs) (filter p xs)) (same x) ∙ ap (λ ys. cond (q x) (x ∷ ys) ys) (filter_same p q xs same)

filter_mapped : {X Y : Type 0} (f : X → Y) (p : Y → Bool) (xs : List X) → filter p (map f xs) ≡ map f (filter (λ x. p (f x)) xs)
filter_mapped f p [] = refl
filter_mapped f p (x ∷ xs) = ap (λ ys. cond (p (f x)) (f x ∷ ys) ys) (filter_mapped f p xs) ∙ go f x (filter (λ x. p (f x)) xs) (p (f x))
  where
    go : {X Y : Type 0} (f : X → Y) (x : X) (ys : List X) (b : Bool) → cond b (f x ∷ map f ys) (map f ys) ≡ map f (cond b (x ∷ ys) ys)
    go f x ys true = refl
    go f x ys false = refl

-- rows that tie keep their order
pub stable_rows : (xs ys : Items) → IsStableByKey key_of key_cmp xs ys → IsStableBy comes_before (rows_of xs) (rows_of ys)
stable_rows xs ys stable row =
    let item : ℕ × Row = (row.address, row.row) in
    tied ys row ∙ ap rows_of (stable item) ∙ sym (tied xs row)
  where
    tied : (zs : Items) (row : AddressedRow) → filter (ties comes_before row) (rows_of zs) ≡ rows_of (filter (ties (λ x y. is_lt (key_cmp (key_of x) (key_of y))) (row.address, row.row)) zs)
    tied zs row =
        filter_mapped addressed_row (ties comes_before row) zs
        ∙ ap rows_of (filter_same (λ x. ties comes_before row (addressed_row x)) (ties (λ x y. is_lt (key_cmp (key_of x) (key_of y))) (row.address, row.row)) zs (λ x.
        ap (λ b. not b && not (comes_before (addressed_row x) row)) (sym (before_key (row.address, row.row) x))
        ∙ ap (λ b. not (is_lt (key_cmp (key_of (row.address, row.row)) (key_of x))) && not b) (sym (before_key x (row.address, row.row)))))
