-- Parts of lists.
use Rattle.std.proofs.Common.{◌≡◌, ℕ, zero, suc, ◌+◌, ◌-◌, ◌<◌, ◌≤◌, ◌⊎◌, inl, inr, List, ◌++◌, Contains, length, get_or, take, drop, refl, sym, ap, ◌∙◌, subst, arith, length-append, length-drop, add-one}
use Rattle.std.specs.Prelude.{slice_range}
use Rattle.std.proofs.Math.Seq.{drop-append-add}
use Rattle.std.proofs.lemmas.List.{drop-drop, drop-take, take-take, get_or-take, get_or-drop, get_or_default, length-take-le, drop-append-le, take-append-le, take_all, drop_at}
use Rattle.return_search.specs.declared.searched_flow.Flow.{Flow}
use Rattle.return_search.specs.Told.{start_of}
use Rattle.return_search.specs.Shape.{HasShape, points_of}

module _ {X : Type 0} (xs : List X) (a b : ℕ) (within : b ≤ length xs) where
  pub length_range : length (slice_range xs a b) ≡ b - a
  length_range = length-take-le (b - a) (drop a xs) (omega (arith, length-drop a xs))

  range_at : (k : ℕ) (d : X) → k < b - a → get_or (slice_range xs a b) k d ≡ get_or xs (a + k) d
  range_at k d l = get_or-take (b - a) (drop a xs) k d l ∙ get_or-drop a xs k d

  -- what stands in a part of a list
  pub in_range : (i : ℕ) (d : X) → a ≤ i → i < b → Contains (slice_range xs a b) (get_or xs i d)
  in_range i d from to =
      let there : a + (i - a) ≡ i = omega arith in
      let x : X = get_or xs i d in
      (i - a, omega (arith, length_range), range_at (i - a) x (omega arith) ∙ (ap (λ (k : ℕ). get_or xs k x) there ∙ get_or_default xs i x d (omega arith)))

  pub from_range : (x d : X) → Contains (slice_range xs a b) x → (i : ℕ) × (a ≤ i) × (i < b) × (get_or xs i d ≡ x)
  from_range x d (k, l, is) =
      let short : k < b - a = omega (arith, length_range) in
      (a + k, omega arith, omega arith, get_or_default xs (a + k) d x (omega arith) ∙ (sym (range_at k x short) ∙ is))

-- a part stays when more is put behind, and what is put behind is a part
pub range_push : {X : Type 0} (xs ys : List X) (a b : ℕ) → a ≤ b → b ≤ length xs → slice_range (xs ++ ys) a b ≡ slice_range xs a b
range_push xs ys a b ordered within =
    ap (take (b - a)) (drop-append-le a xs ys (omega arith)) ∙ take-append-le (b - a) (drop a xs) ys (omega (arith, length-drop a xs))

pub range_new : {X : Type 0} (xs ys : List X) → slice_range (xs ++ ys) (length xs) (length (xs ++ ys)) ≡ ys
range_new xs ys =
    ap (take (length (xs ++ ys) - length xs)) (drop_at xs ys (length xs) refl) ∙ take_all (length (xs ++ ys) - length xs) ys (omega (arith, length-append xs ys))

-- a part of what is put behind, and of a part
pub range_behind : {X : Type 0} (xs ys : List X) (a b : ℕ) → slice_range (xs ++ ys) (length xs + a) (length xs + b) ≡ slice_range ys a b
range_behind xs ys a b =
    let size : length xs + b - (length xs + a) ≡ b - a = omega arith in
    ap (take (length xs + b - (length xs + a))) (drop-append-add xs ys a) ∙ ap (λ (n : ℕ). take n (drop a ys)) size

pub range_of_range : {X : Type 0} (xs : List X) (a b i j : ℕ) → i ≤ j → a + j ≤ b → slice_range (slice_range xs a b) i j ≡ slice_range xs (a + i) (a + j)
range_of_range {X = X} xs a b i j ordered within =
    let size : b - a ≡ i + (b - a - i) = omega arith in
    let short : j - i ≡ a + j - (a + i) = omega arith in
    ap (λ (n : ℕ). take (j - i) (drop i (take n (drop a xs)))) size
    ∙ (ap (take (j - i)) (drop-take i (b - a - i) (drop a xs))
    ∙ (take-take (j - i) (b - a - i) (drop i (drop a xs)) (omega arith)
    ∙ (ap (take (j - i)) (drop-drop i a xs) ∙ ap (λ (n : ℕ). take n (drop (a + i) xs)) short)))

-- where edges begin ascends
pub starts_ascend : (flow : Flow) → HasShape flow → (q n : ℕ) → q ≤ n → n ≤ points_of flow → start_of flow q ≤ start_of flow n
starts_ascend flow shape q zero l within = let e : q ≡ 0 = omega arith in subst (λ (k : ℕ). start_of flow q ≤ start_of flow k) e (omega arith)
starts_ascend flow shape q (suc n) l within = go (grind arith) (λ less. starts_ascend flow shape q n less (omega arith))
  where
    go : (q ≤ n) ⊎ (q ≡ suc n) → (q ≤ n → start_of flow q ≤ start_of flow n) → start_of flow q ≤ start_of flow (suc n)
    go (inl less) earlier =
        let before : start_of flow q ≤ start_of flow n = earlier less in
        let step : start_of flow n ≤ start_of flow (suc n) = rw (← add-one) (shape.ascending n (omega arith)) in
        omega (arith, before, step)
    go (inr same) earlier = subst (λ (k : ℕ). start_of flow q ≤ start_of flow k) same (omega arith)

-- the edges of a point end in the list of edges
pub ends_within : (flow : Flow) → HasShape flow → (q : ℕ) → q < points_of flow → start_of flow (q + 1) ≤ length flow.edges.items
ends_within flow shape q point =
    let h : start_of flow (q + 1) ≤ start_of flow (points_of flow) = starts_ascend flow shape (q + 1) (points_of flow) (omega arith) (omega arith) in
    omega (arith, h, shape.last)
