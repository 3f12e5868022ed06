-- A list in another order has its elements as often.
use Rattle.std.proofs.Common.{◌≡◌, ◌≢◌, ℕ, suc, ◌<◌, ◌≤◌, Bool, true, false, cond, eqb, List, [], ◌∷◌, ◌++◌, length, get_or, take, arith, refl, ap, ◌∙◌}
use Rattle.std.specs.Prelude.{sum_by}
use Rattle.std.specs.List.{AllPairs}
use Rattle.std.specs.List.Sorted.{IsPermutation}
use Rattle.std.proofs.lemmas.Bool.{eq-eqb, ne_eqb, eqb-true, eqb-false}
use Rattle.std.proofs.lemmas.List.{get_or-take, length-take}
use Rattle.std.proofs.lemmas.List.Sums.{sum_by_more_le, sum_by-cons}
use Rattle.std.proofs.lemmas.List.Sorted.{IsPermutation-append_comm, IsPermutation-cons, sum_by-IsPermutation}

module _ {X : Type 0} (key : X → ℕ) where
  -- 1 where an element has a key
  has : ℕ → X → ℕ
  has k x = cond (eqb (key x) k) 1 0

  has_one : (k : ℕ) (x : X) → key x ≡ k → has k x ≡ 1
  unfolding has
  has_one k x e = ap (λ (b : Bool). cond b 1 0) (eq-eqb (key x) k e)

  has_none : (k : ℕ) (x : X) → key x ≢ k → has k x ≡ 0
  unfolding has
  has_none k x e = ap (λ (b : Bool). cond b 1 0) (ne_eqb (key x) k e)

  -- two elements with a key count as two
  at_least_two : (xs : List X) (i j : ℕ) (d : X) → i < j → j < length xs → key (get_or xs i d) ≡ key (get_or xs j d) → 2 ≤ sum_by (has (key (get_or xs j d))) xs
  at_least_two xs i j d l inside e =
      let k : ℕ = key (get_or xs j d) in
      let short : i < length (take j xs) = omega (arith, length-take j xs) in
      let one : has k (get_or (take j xs) i d) ≡ 1 = ap (has k) (get_or-take j xs i d l) ∙ has_one k (get_or xs i d) e in
      let first = sum_by_more_le (has k) (take j xs) i d short in
      let both = sum_by_more_le (has k) xs j d inside in
      let last : has k (get_or xs j d) ≡ 1 = has_one k (get_or xs j d) refl in
      omega (arith, first, both, one, last)

  -- where keys ascend each counts once
  none_there : (xs : List X) (k : ℕ) → ((i : ℕ) (d : X) → i < length xs → k < key (get_or xs i d)) → sum_by (has k) xs ≡ 0
  none_there [] k above = refl
  none_there (x ∷ xs) k above =
      let rest : sum_by (has k) xs ≡ 0 = none_there xs k (λ i d l. above (suc i) d (omega arith)) in
      let l : k < key x = above 0 x (omega arith) in
      let here : has k x ≡ 0 = has_none k x (λ e. omega arith) in
      omega (arith, sum_by-cons (has k) x xs, rest, here)

  at_most_one : (xs : List X) (k : ℕ) → AllPairs (λ x y. key x < key y) xs → sum_by (has k) xs ≤ 1
  at_most_one [] k up = omega arith
  at_most_one (x ∷ xs) k up = go (eqb (key x) k) refl (at_most_one xs k (λ i j d l inside. up (suc i) (suc j) d (omega arith) (omega arith)))
    where
      go : (b : Bool) → eqb (key x) k ≡ b → sum_by (has k) xs ≤ 1 → sum_by (has k) (x ∷ xs) ≤ 1
      go true e rest =
          let is : key x ≡ k = eqb-true (key x) k e in
          let none : sum_by (has k) xs ≡ 0 = none_there xs k (λ i d l. let m : key x < key (get_or xs i d) = up 0 (suc i) d (omega arith) (omega arith) in omega arith) in
          omega (arith, sum_by-cons (has k) x xs, none, has_one k x is)
      go false e rest =
          let none : has k x ≡ 0 = has_none k x (eqb-false (key x) k e) in
          omega (arith, sum_by-cons (has k) x xs, rest, none)

  -- no key is twice in a list whose keys ascend in another order
  pub keys_differ : (xs ys : List X) → AllPairs (λ x y. key x < key y) xs → IsPermutation xs ys → (i j : ℕ) (d : X) → i < j → j < length ys → key (get_or ys i d) ≢ key (get_or ys j d)
  keys_differ xs ys up same i j d l inside e =
      let k : ℕ = key (get_or ys j d) in
      let once : sum_by (has k) xs ≤ 1 = at_most_one xs k up in
      let total : sum_by (has k) ys ≡ sum_by (has k) xs = sum_by-IsPermutation (has k) xs ys same in
      let twice : 2 ≤ sum_by (has k) ys = at_least_two ys i j d l inside e in
      omega (arith, once, total, twice)

-- an element behind two lists, and between them
pub moved_between : {X : Type 0} (xs ys : List X) (x : X) → IsPermutation ((xs ++ ys) ++ x ∷ []) ((xs ++ x ∷ []) ++ ys)
moved_between [] ys x = IsPermutation-append_comm ys (x ∷ [])
moved_between (y ∷ xs) ys x = IsPermutation-cons y ((xs ++ ys) ++ x ∷ []) ((xs ++ x ∷ []) ++ ys) (moved_between xs ys x)

pub push_behind : {X : Type 0} (xs ys : List X) (x : X) → (xs ++ ys) ++ x ∷ [] ≡ xs ++ (ys ++ x ∷ [])
push_behind [] ys x = refl
push_behind {X} (y ∷ xs) ys x = ap (λ (zs : List X). y ∷ zs) (push_behind xs ys x)
