-- The search before a jump.
use Rattle.std.proofs.Common.{◌≡◌, ℕ, zero, suc, ◌+◌, ◌-◌, ◌<◌, ◌≤◌, Bool, true, false, cond, List, [], ◌∷◌, ◌++◌, length, get_or, take, drop, filter, reverse, Option, Some, None, refl, ap, arith, ◌∙◌}
use Rattle.std.specs.List.{cons_option, filter_map, flat_map, range_with_len, slice_get, take_while}
use Rattle.std.specs.Option.{option_or}
use Rattle.std.proofs.Math.Seq.{drop-cons}
use Rattle.std.proofs.lemmas.List.{drop_all, reverse-append, take_more}
use Rattle.std.proofs.lemmas.Option.{get_or_from_slice_get}
use Rattle.std.proofs.lemmas.List.Sums.{take_while-cons}

pub first_of_two : {Y : Type 0} (xs ys : List Y) → slice_get (xs ++ ys) 0 ≡ option_or (slice_get xs 0) (slice_get ys 0)
first_of_two [] ys = refl
first_of_two (x ∷ xs) ys = refl

-- the last of the first n + 1 comes first from behind
pub last_first : {X : Type 0} (xs : List X) (n : ℕ) (d : X) → n < length xs → reverse (take (n + 1) xs) ≡ get_or xs n d ∷ reverse (take n xs)
last_first xs n d inside = ap reverse (take_more xs n d inside) ∙ reverse-append (take n xs) (get_or xs n d ∷ [])

module _ {X Y : Type 0} (passes : X → Bool) (gives : X → List Y) where
  -- the first of what the first n give, up to the first that doesn't pass
  abbrev pub first_given : ℕ → List X → Option Y
  first_given n xs = slice_get (flat_map gives (take_while passes (take n xs))) 0

  pub none_there : (n : ℕ) → first_given n [] ≡ None
  none_there zero = refl
  none_there (suc n) = refl

  pub one_more : (n : ℕ) (x : X) (xs : List X) → first_given (suc n) (x ∷ xs) ≡ cond (passes x) (option_or (slice_get (gives x) 0) (first_given n xs)) None
  one_more n x xs =
      ap (λ zs. slice_get (flat_map gives zs) 0) (take_while-cons passes x (take n xs))
      ∙ elim (passes x) as (λ b. slice_get (flat_map gives (cond b (x ∷ take_while passes (take n xs)) [])) 0 ≡ cond b (option_or (slice_get (gives x) 0) (first_given n xs)) None) [
        | true ↦ first_of_two (gives x) (flat_map gives (take_while passes (take n xs)))
        | false ↦ refl
      ]

  -- with the last of the first few, which comes next
  pub goes_on : (all : List X) (next n : ℕ) (x : X) → 0 < next → next ≤ length all → 0 < n → slice_get all (next - 1) ≡ Some x → first_given n (reverse (take next all)) ≡ cond (passes x) (option_or (slice_get (gives x) 0) (first_given (n - 1) (reverse (take (next - 1) all)))) None
  goes_on all next n x some within more here =
      ap (λ m. first_given n (reverse (take m all))) {x = next} {y = next - 1 + 1} (omega arith)
      ∙ ap (first_given n) (last_first all (next - 1) x (omega arith) ∙ ap (λ y. y ∷ reverse (take (next - 1) all)) (get_or_from_slice_get all (next - 1) x x here))
      ∙ ap (λ m. first_given m (x ∷ reverse (take (next - 1) all))) {x = n} {y = suc (n - 1)} (omega arith)
      ∙ one_more (n - 1) x (reverse (take (next - 1) all))

-- those that pass are the first n, where these pass and the others don't
pub front_kept : {X : Type 0} (p : X → Bool) (xs : List X) (n : ℕ) → n ≤ length xs → ((k : ℕ) (d : X) → k < n → p (get_or xs k d) ≡ true) → ((k : ℕ) (d : X) → n ≤ k → k < length xs → p (get_or xs k d) ≡ false) → filter p xs ≡ take n xs
front_kept p [] zero within pass fail = refl
front_kept p [] (suc n) within pass fail = absurd (omega arith)
front_kept p (x ∷ xs) zero within pass fail =
    ap (λ b. cond b (x ∷ filter p xs) (filter p xs)) (fail 0 x (omega arith) (omega arith))
    ∙ front_kept p xs 0 (omega arith) (λ k d lower. absurd (omega arith)) (λ k d from inside. fail (suc k) d (omega arith) (omega arith))
front_kept p (x ∷ xs) (suc n) within pass fail =
    ap (λ b. cond b (x ∷ filter p xs) (filter p xs)) (pass 0 x (omega arith))
    ∙ ap (λ ys. x ∷ ys) (front_kept p xs n (omega arith) (λ k d lower. pass (suc k) d (omega arith)) (λ k d from inside. fail (suc k) d (omega arith) (omega arith)))

-- what is given by the numbers from one on, up to an end
module _ {Y : Type 0} (gives : ℕ → List Y) where
  abbrev pub first_from : ℕ → ℕ → Option Y
  first_from at end = slice_get (flat_map gives (range_with_len at (end - at))) 0

  from_here : (at end : ℕ) → at < end → first_from at end ≡ option_or (slice_get (gives at) 0) (first_from (at + 1) end)
  from_here at end less =
      ap (λ n. slice_get (flat_map gives (range_with_len at n)) 0) {x = end - at} {y = suc (end - (at + 1))} (omega arith)
      ∙ first_of_two (gives at) (flat_map gives (range_with_len (at + 1) (end - (at + 1))))

  pub found_from : (at end : ℕ) (y : Y) → at < end → slice_get (gives at) 0 ≡ Some y → first_from at end ≡ Some y
  found_from at end y less here = from_here at end less ∙ ap (λ o. option_or o (first_from (at + 1) end)) here

  pub later_from : (at end : ℕ) → at < end → slice_get (gives at) 0 ≡ None → first_from at end ≡ first_from (at + 1) end
  later_from at end less none = from_here at end less ∙ ap (λ o. option_or o (first_from (at + 1) end)) none

  pub none_from : (at end : ℕ) → end ≤ at → first_from at end ≡ None
  none_from at end over = ap (λ n. slice_get (flat_map gives (range_with_len at n)) 0) {x = end - at} {y = 0} (omega arith)

-- the first that is kept of a list from an index on
module _ {X Y : Type 0} (keeps : X → Option Y) (xs : List X) where
  abbrev pub first_kept : ℕ → Option Y
  first_kept i = slice_get (filter_map keeps (drop i xs)) 0

  kept_next : (i : ℕ) (d : X) → i < length xs → first_kept i ≡ slice_get (cons_option (keeps (get_or xs i d)) (filter_map keeps (drop (suc i) xs))) 0
  kept_next i d inside = ap (λ ys. slice_get (filter_map keeps ys) 0) (drop-cons xs i d inside)

  pub kept_here : (i : ℕ) (d : X) (y : Y) → i < length xs → keeps (get_or xs i d) ≡ Some y → first_kept i ≡ Some y
  kept_here i d y inside here = kept_next i d inside ∙ ap (λ o. slice_get (cons_option o (filter_map keeps (drop (suc i) xs))) 0) here

  pub kept_later : (i : ℕ) (d : X) → i < length xs → keeps (get_or xs i d) ≡ None → first_kept i ≡ first_kept (i + 1)
  kept_later i d inside none =
      kept_next i d inside
      ∙ ap (λ o. slice_get (cons_option o (filter_map keeps (drop (suc i) xs))) 0) none
      ∙ ap first_kept {x = suc i} {y = i + 1} (omega arith)

  pub kept_nowhere : (i : ℕ) → length xs ≤ i → first_kept i ≡ None
  kept_nowhere i over = ap (λ ys. slice_get (filter_map keeps ys) 0) (drop_all i xs over)

pub none_where_not : {X : Type 0} (o : Option X) → ((x : X) → o ≡ Some x → ⊥) → o ≡ None
none_where_not None not = refl
none_where_not (Some x) not = absurd (not x refl)
