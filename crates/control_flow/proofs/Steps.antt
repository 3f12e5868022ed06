-- Lists of what points have, one point more at a time.
use Rattle.std.proofs.Common.{◌≡◌, ℕ, ◌+◌, ◌<◌, List, [], ◌∷◌, ◌++◌, Some, All, length, get_or, inl, inr, sym, ap, ◌∙◌, subst, arith}
use Rattle.std.specs.Prelude.{IfOk, Result, Ok, Err, slice_get}
use Rattle.std.proofs.lemmas.Bool.{cases_lt}
use Rattle.std.proofs.lemmas.List.{get_or_append_left, get_or_past, get_or_push, length_push}
use Rattle.std.proofs.lemmas.Option.{slice_get_within}
use Rattle.object_points.proofs.Items.{earlier_item, last_item}

-- what a list has at each number, with one item more
pub each_more : {X : Type 0} (of : ℕ → X) (xs : List X) (x : X) (n : ℕ) → length xs ≡ n → ((q : ℕ) (d : X) → q < n → get_or xs q d ≡ of q) → x ≡ of n → (q : ℕ) (d : X) → q < n + 1 → get_or (xs ++ x ∷ []) q d ≡ of q
each_more of xs x n long each here q d below = elim (cases_lt q n) [
  | inl less ↦ get_or_append_left xs (x ∷ []) d q (omega arith) ∙ each q d less
  | inr more ↦ let same : q ≡ n = omega arith in get_or_push xs x d q (long ∙ sym same) ∙ (here ∙ ap of (sym same))
]

-- what holds of each item by its number, with one item more
pub items_more : {X : Type 0} (P : ℕ → X → Type 0) (xs : List X) (x : X) → ((q : ℕ) (y : X) → slice_get xs q ≡ Some y → P q y) → P (length xs) x → (q : ℕ) (y : X) → slice_get (xs ++ x ∷ []) q ≡ Some y → P q y
items_more P xs x each here q y at = elim (cases_lt q (length xs)) [
  | inl less ↦ each q y (earlier_item xs x y q less at)
  | inr more ↦
      let within : q < length (xs ++ x ∷ []) = slice_get_within (xs ++ x ∷ []) q y at in
      let same : q ≡ length xs = omega (arith, within, length_push xs x) in
      subst (P q) (last_item xs x y q same at) (subst (λ (k : ℕ). P k x) (sym same) here)
]

-- what holds of all items and of the default holds of what stands at a number
pub all_at : {X : Type 0} (P : X → Type 0) (xs : List X) (d : X) (q : ℕ) → All P xs → P d → P (get_or xs q d)
all_at P xs d q each default = elim (cases_lt q (length xs)) [
  | inl less ↦ each q d less
  | inr past ↦ subst P (sym (get_or_past xs q d past)) default
]

-- what holds of a value, if there is one, and what follows from it
pub all_ok : {T E : Type 0} {P Q : T → Type 0} (r : Result T E) → ((x : T) → P x → Q x) → IfOk r P → IfOk r Q
all_ok (Ok x) f is = f x is
all_ok (Err e) f is = is
