-- What is gathered while numbers are gone through in order, and the first of it.
use Rattle.std.proofs.Common.{◌≡◌, ℕ, zero, suc, ◌+◌, ◌-◌, ◌<◌, Bool, true, false, cond, List, [], ◌∷◌, ◌++◌, Option, Some, None, filter, slice_get, arith, refl, ap, ◌∙◌, append-nil}
use Rattle.std.specs.List.{range_with_len, flat_map}
use Rattle.std.proofs.lemmas.List.Concat.{flat_map-append}
use Rattle.std.proofs.lemmas.List.Elements.{filter-append}

-- the numbers from a on, in two parts
pub range_parts : (a m n : ℕ) → range_with_len a (m + n) ≡ range_with_len a m ++ range_with_len (a + m) n
range_parts a zero n =
    ap (λ k. range_with_len a k) {x = zero + n} {y = n} (omega arith)
    ∙ ap (λ b. range_with_len b n) {x = a} {y = a + zero} (omega arith)
range_parts a (suc m) n =
    ap (λ k. range_with_len a k) {x = suc m + n} {y = suc (m + n)} (omega arith)
    ∙ ap (λ xs. a ∷ xs) (range_parts (a + 1) m n)
    ∙ ap (λ b. a ∷ (range_with_len (a + 1) m ++ range_with_len b n)) {x = a + 1 + m} {y = a + suc m} (omega arith)

pub range_more : (n : ℕ) → range_with_len 0 (n + 1) ≡ range_with_len 0 n ++ n ∷ []
range_more n = range_parts 0 n 1 ∙ ap (λ b. range_with_len 0 n ++ b ∷ []) {x = 0 + n} {y = n} (omega arith)

pub range_split : (n i : ℕ) → i < n → range_with_len 0 n ≡ range_with_len 0 i ++ i ∷ range_with_len (i + 1) (n - (i + 1))
range_split n i inside =
    ap (λ k. range_with_len 0 k) {x = n} {y = i + suc (n - (i + 1))} (omega arith)
    ∙ range_parts 0 i (suc (n - (i + 1)))
    ∙ ap (λ b. range_with_len 0 i ++ b ∷ range_with_len (b + 1) (n - (i + 1))) {x = 0 + i} {y = i} (omega arith)

-- those that pass a test, with one more number
pub passing_more : (p : ℕ → Bool) (n : ℕ) → p n ≡ true → filter p (range_with_len 0 (n + 1)) ≡ filter p (range_with_len 0 n) ++ n ∷ []
passing_more p n passes =
    ap (filter p) (range_more n)
    ∙ filter-append p (range_with_len 0 n) (n ∷ [])
    ∙ ap (λ b. filter p (range_with_len 0 n) ++ cond b (n ∷ []) []) passes

pub passing_same : (p : ℕ → Bool) (n : ℕ) → p n ≡ false → filter p (range_with_len 0 (n + 1)) ≡ filter p (range_with_len 0 n)
passing_same p n fails =
    ap (filter p) (range_more n)
    ∙ filter-append p (range_with_len 0 n) (n ∷ [])
    ∙ ap (λ b. filter p (range_with_len 0 n) ++ cond b (n ∷ []) []) fails
    ∙ append-nil (filter p (range_with_len 0 n))

pub passing_split : (p : ℕ → Bool) (n i : ℕ) → i < n → p i ≡ true → filter p (range_with_len 0 n) ≡ filter p (range_with_len 0 i) ++ i ∷ filter p (range_with_len (i + 1) (n - (i + 1)))
passing_split p n i inside passes =
    ap (filter p) (range_split n i inside)
    ∙ filter-append p (range_with_len 0 i) (i ∷ range_with_len (i + 1) (n - (i + 1)))
    ∙ ap (λ b. filter p (range_with_len 0 i) ++ cond b (i ∷ filter p (range_with_len (i + 1) (n - (i + 1)))) (filter p (range_with_len (i + 1) (n - (i + 1))))) passes

pub first_in_front : {A : Type 0} (xs ys : List A) (x : A) → slice_get xs 0 ≡ Some x → slice_get (xs ++ ys) 0 ≡ Some x
first_in_front [] ys x first = cc
first_in_front (y ∷ xs) ys x first = first

module _ {A : Type 0} (f : ℕ → List A) where
  -- one more number gives what it adds
  pub gathered_more : (front : List ℕ) (i : ℕ) → flat_map f (front ++ i ∷ []) ≡ flat_map f front ++ f i
  gathered_more front i = flat_map-append f front (i ∷ []) ∙ ap (λ ys. flat_map f front ++ ys) (append-nil (f i))

  -- the first of all is the first of a number before which there is none
  pub first_gathered : (front back : List ℕ) (i : ℕ) (x : A) → flat_map f front ≡ [] → slice_get (f i) 0 ≡ Some x → slice_get (flat_map f (front ++ i ∷ back)) 0 ≡ Some x
  first_gathered front back i x none first =
      ap (λ ys. slice_get ys 0) (flat_map-append f front (i ∷ back))
      ∙ ap (λ ys. slice_get (ys ++ (f i ++ flat_map f back)) 0) none
      ∙ first_in_front (f i) (flat_map f back) x first

pub none_where_not : {A : Type 0} (o : Option A) → ((a : A) → o ≡ Some a → ⊥) → o ≡ None
none_where_not None not = refl
none_where_not (Some a) not = absurd (not a refl)
