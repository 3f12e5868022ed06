-- One more number in a range, and those that pass a test.
use Rattle.std.proofs.Common.{◌≡◌, ℕ, zero, suc, ◌+◌, Bool, true, false, cond, List, [], ◌∷◌, ◌++◌, filter, map, arith, ap, ◌∙◌, append-nil}
use Rattle.std.specs.List.{range_with_len, flat_map}
use Rattle.std.proofs.lemmas.List.{map-append}
use Rattle.std.proofs.lemmas.List.Concat.{flat_map-append}
use Rattle.std.proofs.lemmas.List.Elements.{filter-append}

more_from : (a n : ℕ) → range_with_len a (n + 1) ≡ range_with_len a n ++ (a + n) ∷ []
more_from a zero = ap (λ b. b ∷ []) {x = a} {y = a + zero} (omega arith)
more_from a (suc n) =
    ap (λ k. range_with_len a k) {x = suc n + 1} {y = suc (n + 1)} (omega arith)
    ∙ ap (λ xs. a ∷ xs) (more_from (a + 1) n)
    ∙ ap (λ b. a ∷ (range_with_len (a + 1) n ++ b ∷ [])) {x = a + 1 + n} {y = a + suc n} (omega arith)

pub range_more : (n : ℕ) → range_with_len 0 (n + 1) ≡ range_with_len 0 n ++ n ∷ []
range_more n = more_from 0 n ∙ ap (λ b. range_with_len 0 n ++ b ∷ []) {x = 0 + n} {y = n} (omega arith)

module _ {X : Type 0} (f : ℕ → X) (p : ℕ → Bool) (n : ℕ) where
  pub mapped_more : p n ≡ true → map f (filter p (range_with_len 0 (n + 1))) ≡ map f (filter p (range_with_len 0 n)) ++ f n ∷ []
  mapped_more passes =
      ap (λ ns. map f (filter p ns)) (range_more n)
      ∙ ap (map f) (filter-append p (range_with_len 0 n) (n ∷ []))
      ∙ ap (λ b. map f (filter p (range_with_len 0 n) ++ cond b (n ∷ []) [])) passes
      ∙ map-append f (filter p (range_with_len 0 n)) (n ∷ [])

  pub mapped_same : p n ≡ false → map f (filter p (range_with_len 0 (n + 1))) ≡ map f (filter p (range_with_len 0 n))
  mapped_same fails =
      ap (λ ns. map f (filter p ns)) (range_more n)
      ∙ ap (map f) (filter-append p (range_with_len 0 n) (n ∷ []))
      ∙ ap (λ b. map f (filter p (range_with_len 0 n) ++ cond b (n ∷ []) [])) fails
      ∙ ap (map f) (append-nil (filter p (range_with_len 0 n)))

module _ {X : Type 0} (f : ℕ → List X) (p : ℕ → Bool) (n : ℕ) where
  pub joined_more : p n ≡ true → flat_map f (filter p (range_with_len 0 (n + 1))) ≡ flat_map f (filter p (range_with_len 0 n)) ++ f n
  joined_more passes =
      ap (λ ns. flat_map f (filter p ns)) (range_more n)
      ∙ ap (flat_map f) (filter-append p (range_with_len 0 n) (n ∷ []))
      ∙ ap (λ b. flat_map f (filter p (range_with_len 0 n) ++ cond b (n ∷ []) [])) passes
      ∙ flat_map-append f (filter p (range_with_len 0 n)) (n ∷ [])
      ∙ ap (λ xs. flat_map f (filter p (range_with_len 0 n)) ++ xs) (append-nil (f n))

  pub joined_same : p n ≡ false → flat_map f (filter p (range_with_len 0 (n + 1))) ≡ flat_map f (filter p (range_with_len 0 n))
  joined_same fails =
      ap (λ ns. flat_map f (filter p ns)) (range_more n)
      ∙ ap (flat_map f) (filter-append p (range_with_len 0 n) (n ∷ []))
      ∙ ap (λ b. flat_map f (filter p (range_with_len 0 n) ++ cond b (n ∷ []) [])) fails
      ∙ ap (flat_map f) (append-nil (filter p (range_with_len 0 n)))
