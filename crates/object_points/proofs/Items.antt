-- Items of a list, one more at a time.
use Rattle.std.proofs.Common.{◌≡◌, ℕ, ◌<◌, List, [], ◌∷◌, ◌++◌, length, length-append, get_or, Some, inl, inr, sym, ap, ◌∙◌, subst, arith}
use Rattle.std.specs.Prelude.{slice_get}
use Rattle.std.proofs.Math.ListN.{get_or-append}
use Rattle.std.proofs.Math.Seq.{get_or-append_seam}
use Rattle.std.proofs.lemmas.Bool.{cases_lt}
use Rattle.std.proofs.lemmas.Option.{get_or_from_slice_get, slice_get-get_or, slice_get_within}

-- an item in front of the last stands there without it too
pub earlier_item : {X : Type 0} (xs : List X) (last y : X) (i : ℕ) → i < length xs → slice_get (xs ++ last ∷ []) i ≡ Some y → slice_get xs i ≡ Some y
earlier_item xs last y i inside at =
    slice_get-get_or xs i y inside
    ∙ ap (λ z. Some z) (sym (get_or-append xs (last ∷ []) y i inside) ∙ get_or_from_slice_get (xs ++ last ∷ []) i y y at)

pub last_item : {X : Type 0} (xs : List X) (last y : X) (i : ℕ) → i ≡ length xs → slice_get (xs ++ last ∷ []) i ≡ Some y → last ≡ y
last_item xs last y i is at =
    sym (get_or-append_seam xs last [] y)
    ∙ ap (λ k. get_or (xs ++ last ∷ []) k y) (sym is)
    ∙ get_or_from_slice_get (xs ++ last ∷ []) i y y at

-- what holds of each item and of one more behind them holds of all
pub one_more : {X : Type 0} (P : ℕ → X → Type 0) (xs : List X) (last : X) → ((i : ℕ) (x : X) → slice_get xs i ≡ Some x → P i x) → P (length xs) last → (i : ℕ) (x : X) → slice_get (xs ++ last ∷ []) i ≡ Some x → P i x
one_more {X} P xs last each here i x at = elim (cases_lt i (length xs)) [
  | inl less ↦ each i x (earlier_item xs last x i less at)
  | inr more ↦
      let inside : i < length (xs ++ last ∷ []) = slice_get_within (xs ++ last ∷ []) i x at in
      let same : i ≡ length xs = omega (arith, length-append xs (last ∷ [])) in
      subst (P i) (last_item xs last x i same at) (subst (λ (k : ℕ). P k last) (sym same) here)
]
