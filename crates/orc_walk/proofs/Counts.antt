-- How many rows lie below an address, and in a block.
use Rattle.std.proofs.Common.{◌≡◌, ℕ, zero, suc, ◌+◌, ◌*◌, ◌/◌, ◌<◌, ◌≤◌, Bool, true, false, cond, List, [], ◌∷◌, refl, sym, ◌∙◌, ap, subst, inl, inr, ltb, eqb, length, get_or, zero-add, arith}
use Rattle.std.specs.Prelude.{count_by}
use Rattle.std.specs.List.{AllWithin}
use Rattle.std.specs.List.Sorted.{IsNonDecreasingBy, IsPartitionPoint}
use Rattle.std.proofs.lemmas.Bool.{cases_lt, ltb-true, ltb-false, lt-ltb, le-ltb}
use Rattle.std.proofs.lemmas.Bool.Decides.{nat_tests}
use Rattle.std.proofs.lemmas.List.{length-map}
use Rattle.std.proofs.lemmas.List.Sums.{sum_by-cons, count_by-le-length}
use Rattle.ot_base.specs.declared.row.Row.{Row}
use Rattle.table_defs.specs.Lookup.{AddressedRow}
use Rattle.orc_walk.specs.Rows.{addressed_row, rows_of}
use Rattle.orc_walk.specs.Cost.{block_of, rows_in_block}
use Rattle.orc_walk.specs.Blocks.{beginning_of, rows_below}
use Rattle.orc_walk.proofs.LastRow.{Items}

count-cons : {X : Type 0} (p : X → Bool) (x : X) (xs : List X) → count_by p (x ∷ xs) ≡ cond (p x) 1 0 + count_by p xs
count-cons p x xs = sum_by-cons (λ x. cond (p x) 1 0) x xs

tail_ascends : (x : ℕ × Row) (xs : Items) → IsNonDecreasingBy (λ item. item.0) (x ∷ xs) → IsNonDecreasingBy (λ item. item.0) xs
tail_ascends x xs up i j d le lt = up (suc i) (suc j) d (omega arith) (omega arith)

none_below : (items : Items) (address : ℕ) → AllWithin (λ item. address ≤ item.0) items 0 (length items) → rows_below address (rows_of items) ≡ 0
none_below [] address high = refl
none_below (x ∷ xs) address high =
    count-cons (λ row. ltb row.address address) (addressed_row x) (rows_of xs)
    ∙ ap (λ b. cond b 1 0 + rows_below address (rows_of xs)) (le-ltb _ _ (high 0 x (omega arith) (omega arith)))
    ∙ zero-add _
    ∙ none_below xs address (λ k d low lt. high (suc k) d (omega arith) (omega arith))

split_more : (x : ℕ × Row) (xs : Items) (address n : ℕ) → x.0 < address → IsPartitionPoint (λ item. item.0 < address) (λ item. address ≤ item.0) xs n → IsPartitionPoint (λ item. item.0 < address) (λ item. address ≤ item.0) (x ∷ xs) (suc n)
split_more x xs address n less split = (front x xs address n less split.0, back x xs address n split.1)
  where
    front : (x : ℕ × Row) (xs : Items) (address n : ℕ) → x.0 < address → AllWithin (λ item. item.0 < address) xs 0 n → AllWithin (λ item. item.0 < address) (x ∷ xs) 0 (suc n)
    front x xs address n less split zero d low lt = less
    front x xs address n less split (suc k) d low lt = split k d (omega arith) (omega arith)

    back : (x : ℕ × Row) (xs : Items) (address n : ℕ) → AllWithin (λ item. address ≤ item.0) xs n (length xs) → AllWithin (λ item. address ≤ item.0) (x ∷ xs) (suc n) (length (x ∷ xs))
    back x xs address n split zero d low lt = absurd (omega arith)
    back x xs address n split (suc k) d low lt = split k d (omega arith) (omega arith)

-- so many rows are below the address, and these stand in front
pub below_split : (items : Items) (address : ℕ) → IsNonDecreasingBy (λ item. item.0) items → IsPartitionPoint (λ item. item.0 < address) (λ item. address ≤ item.0) items (rows_below address (rows_of items))
below_split [] address up = (λ k d low lt. absurd (omega arith), λ k d low lt. absurd (omega arith))
below_split (x ∷ xs) address up =
    elim (cases_lt x.0 address) [
      | inl less ↦
          let count : rows_below address (rows_of (x ∷ xs)) ≡ suc (rows_below address (rows_of xs)) = count-cons (λ row. ltb row.address address) (addressed_row x) (rows_of xs) ∙ ap (λ b. cond b 1 0 + rows_below address (rows_of xs)) (lt-ltb _ _ less) ∙ (let e : 1 + rows_below address (rows_of xs) ≡ suc (rows_below address (rows_of xs)) = omega arith in e) in
          subst (λ n. IsPartitionPoint (λ item. item.0 < address) (λ item. address ≤ item.0) (x ∷ xs) n) (sym count) (split_more x xs address (rows_below address (rows_of xs)) less (below_split xs address (tail_ascends x xs up)))
      | inr not_less ↦
          let high : AllWithin (λ item. address ≤ item.0) (x ∷ xs) 0 (length (x ∷ xs)) = (λ k d low lt. let le : x.0 ≤ (get_or (x ∷ xs) k d).0 = up 0 k d (omega arith) lt in omega arith) in
          let count : rows_below address (rows_of (x ∷ xs)) ≡ 0 = none_below (x ∷ xs) address high in
          (λ k d low lt. absurd (omega arith), λ k d low lt. high k d (omega arith) lt)
    ]

-- the rows of a block are those below its end without those below its beginning
block_row : (a block : ℕ) → cond (ltb a ((block + 1) * 256)) 1 0 ≡ cond (ltb a (block * 256)) 1 0 + cond (eqb (a / 256) block) 1 0
block_row a block = grind (arith, nat_tests)

pub rows_of_block : (rows : List AddressedRow) (block : ℕ) → rows_below (beginning_of (block + 1)) rows ≡ rows_below (beginning_of block) rows + rows_in_block block rows
rows_of_block [] block = refl
rows_of_block (row ∷ rows) block =
    let more = rows_of_block rows block in
    let here = block_row row.address block in
    omega (arith, more, here, count-cons (λ row. ltb row.address (beginning_of (block + 1))) row rows, count-cons (λ row. ltb row.address (beginning_of block)) row rows, count-cons (λ row. eqb (block_of row.address) block) row rows)

pub blocks_ascend : (items : Items) → IsNonDecreasingBy (λ item. item.0) items → IsNonDecreasingBy (λ item. item.0 / 256) items
blocks_ascend items up i j d le lt = let h : (get_or items i d).0 ≤ (get_or items j d).0 = up i j d le lt in omega arith

pub some_item : (items : Items) (i : ℕ) → i < length items → ℕ × Row
some_item [] i lt = absurd (omega arith)
some_item (x ∷ items) i lt = x

-- where the first n items are those of blocks before one, so many are below its beginning
pub below_at : (items : Items) (block n : ℕ) → IsNonDecreasingBy (λ item. item.0) items → n ≤ length items
    → IsPartitionPoint (λ item. ltb (item.0 / 256) block ≡ true) (λ item. ltb (item.0 / 256) block ≡ false) items n
    → n ≡ rows_below (beginning_of block) (rows_of items)
below_at items block n up le split =
    let count : ℕ = rows_below (beginning_of block) (rows_of items) in
    let counted = below_split items (block * 256) up in
    let most : rows_below (beginning_of block) (rows_of items) ≤ length items = omega (arith, length-map items addressed_row, count_by-le-length (λ row. ltb row.address (beginning_of block)) (rows_of items)) in
    elim (cases_lt n (rows_below (beginning_of block) (rows_of items))) [
      | inl less ↦ let item = some_item items n (omega arith) in let high : block ≤ (get_or items n item).0 / 256 = ltb-false _ _ (split.1 n item (omega arith) (omega arith)) in let low : (get_or items n item).0 < block * 256 = counted.0 n item (omega arith) less in absurd (omega arith)
      | inr not_less ↦ elim (cases_lt (rows_below (beginning_of block) (rows_of items)) n) [
        | inl more ↦ let k = rows_below (beginning_of block) (rows_of items) in let item = some_item items k (omega arith) in let low : (get_or items k item).0 / 256 < block = ltb-true _ _ (split.0 k item (omega arith) more) in let high : block * 256 ≤ (get_or items k item).0 = counted.1 k item (omega arith) (omega arith) in absurd (omega arith)
        | inr same ↦ omega arith
      ]
    ]
