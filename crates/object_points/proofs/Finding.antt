-- The nearest of some elements of a list, which is found by its index.
use Rattle.std.proofs.Common.{◌≡◌, ℕ, zero, suc, ◌<◌, Bool, true, false, cond, not, ◌&&◌, ◌||◌, List, [], ◌∷◌, length, get_or, find, filter, Option, Some, None, refl, ap, ◌∙◌, arith}
use Rattle.std.specs.List.{list_any}
use Rattle.std.proofs.lemmas.Bool.{and_from, and_left}
use Rattle.std.proofs.lemmas.List.Elements.{All-from_get_or}
use Rattle.std.proofs.lemmas.List.Folds.{list_any_at, list_any_none}

find_more : {X : Type 0} (q : X → Bool) (x : X) (b : Bool) (rest : List X) (found : Option X) → find q rest ≡ found → find q (cond b (x ∷ rest) rest) ≡ cond (b && q x) (Some x) found
find_more q x true rest found is = ap (λ o. cond (q x) (Some x) o) is
find_more q x false rest found is = is

find_kept : {X : Type 0} (p q : X → Bool) (xs : List X) → find q (filter p xs) ≡ find (λ x. p x && q x) xs
find_kept p q [] = refl
find_kept p q (x ∷ xs) = find_more q x (p x) (filter p xs) (find (λ x. p x && q x) xs) (find_kept p q xs)

any_more : {X : Type 0} (q : X → Bool) (x : X) (b : Bool) (rest : List X) (found : Bool) → list_any q rest ≡ found → list_any q (cond b (x ∷ rest) rest) ≡ ((b && q x) || found)
any_more q x true rest found is = ap (λ o. q x || o) is
any_more q x false rest found is = is

any_kept : {X : Type 0} (p q : X → Bool) (xs : List X) → list_any q (filter p xs) ≡ list_any (λ x. p x && q x) xs
any_kept p q [] = refl
any_kept p q (x ∷ xs) = any_more q x (p x) (filter p xs) (list_any (λ x. p x && q x) xs) (any_kept p q xs)

module _ {X : Type 0} (p : X → Bool) where
  -- it is found where those before it fail
  found_first : (xs : List X) (n : ℕ) (d : X) → n < length xs → ((k : ℕ) → k < n → p (get_or xs k d) ≡ false) → p (get_or xs n d) ≡ true → find p xs ≡ Some (get_or xs n d)
  found_first [] n d inside before here = absurd (omega arith)
  found_first (x ∷ xs) zero d inside before here = ap (λ b. cond b (Some x) (find p xs)) here
  found_first (x ∷ xs) (suc n) d inside before here =
      ap (λ b. cond b (Some x) (find p xs)) (before 0 (omega arith))
      ∙ found_first xs n d (omega arith) (λ k h. before (suc k) (omega arith)) here

  found_nowhere : (xs : List X) (d : X) → ((k : ℕ) → k < length xs → p (get_or xs k d) ≡ false) → find p xs ≡ None
  found_nowhere [] d all = refl
  found_nowhere (x ∷ xs) d all =
      ap (λ b. cond b (Some x) (find p xs)) (all 0 (omega arith))
      ∙ found_nowhere xs d (λ k h. all (suc k) (omega arith))

last_fails : (a b : Bool) → (a ≡ true → b ≡ false) → (a && b) ≡ false
last_fails true b fails = fails refl
last_fails false b fails = refl

-- of the elements that pass a test, the first that none is nearer than
module _ {X : Type 0} (p : X → Bool) (nearer : X → X → Bool) (xs : List X) (d : X) where
  abbrev is_best : X → Bool
  is_best one = not (list_any (λ other. nearer other one) (filter p xs))

  -- it stands at an index where it passes, none that passes is nearer, and it is nearer than those in front of it
  pub nearest_at : (n : ℕ) → n < length xs → p (get_or xs n d) ≡ true
      → ((k : ℕ) → k < length xs → p (get_or xs k d) ≡ true → nearer (get_or xs k d) (get_or xs n d) ≡ false)
      → ((k : ℕ) → k < n → p (get_or xs k d) ≡ true → nearer (get_or xs n d) (get_or xs k d) ≡ true)
      → find is_best (filter p xs) ≡ Some (get_or xs n d)
  nearest_at n inside passes none_nearer first =
      let one : X = get_or xs n d in
      find_kept p is_best xs
      ∙ found_first (λ x. p x && is_best x) xs n d inside
      (λ k lower. last_fails (p (get_or xs k d)) (is_best (get_or xs k d)) (λ other. ap not (any_kept p (λ x. nearer x (get_or xs k d)) xs ∙ list_any_at (λ x. p x && nearer x (get_or xs k d)) xs n d inside (and_from (p one) (nearer one (get_or xs k d)) passes (first k lower other)))))
      (and_from (p one) (is_best one) passes (ap not (any_kept p (λ x. nearer x one) xs ∙ list_any_none (λ x. p x && nearer x one) xs (All-from_get_or (λ x. (p x && nearer x one) ≡ false) xs d (λ k within. last_fails (p (get_or xs k d)) (nearer (get_or xs k d) one) (none_nearer k within))))))

  -- there is none where none passes
  pub nearest_nowhere : ((k : ℕ) → k < length xs → p (get_or xs k d) ≡ false) → find is_best (filter p xs) ≡ None
  nearest_nowhere none =
      find_kept p is_best xs
      ∙ found_nowhere (λ x. p x && is_best x) xs d (λ k inside. and_left (p (get_or xs k d)) (is_best (get_or xs k d)) (none k inside))
