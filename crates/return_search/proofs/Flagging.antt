-- Flags of points, when those of some points more are told.
use Rattle.std.proofs.Common.{◌≡◌, ℕ, ◌+◌, ◌<◌, ◌≤◌, ◌⊎◌, inl, inr, Bool, List, get_or, replicate, set, sym, ap, ◌∙◌, arith, get_or-set_other, get_or-set_same, length-set}
use Rattle.std.proofs.lemmas.List.{get_or-replicate, length-replicate}
use Rattle.return_search.specs.Flagged.{AreFlagged}

-- of none yet
pub flagged_none : (holds : ℕ → Bool) (usual : Bool) (count : ℕ) → AreFlagged holds usual (replicate count usual) count 0
flagged_none holds usual count = record {
  long = length-replicate count usual;
  told = λ q d l. absurd (omega (arith, l));
  rest = λ q d from l. get_or-replicate count q usual d l;
}

split_at : (q n : ℕ) → (q < n) ⊎ (n ≤ q)
split_at q n = grind arith

split_last : (q n : ℕ) → q < n + 1 → (q < n) ⊎ (q ≡ n)
split_last q n l = grind arith

module _ (holds : ℕ → Bool) (usual : Bool) (flags : List Bool) (count n : ℕ) (are : AreFlagged holds usual flags count n) where
  -- of points that have the usual one
  pub flagged_usual : (m : ℕ) → n ≤ m → m ≤ count → ((q : ℕ) → n ≤ q → q < m → holds q ≡ usual) → AreFlagged holds usual flags count m
  flagged_usual m ordered inside same = record {
    long = are.long;
    told = λ q d l. elim (split_at q n) [
      | inl below ↦ are.told q d below
      | inr from ↦ are.rest q d from (omega (arith, l, inside)) ∙ sym (same q from l)
    ];
    rest = λ q d from l. are.rest q d (omega (arith, ordered, from)) l;
  }

  -- of one that has another
  pub flagged_other : (other : Bool) → n < count → holds n ≡ other → AreFlagged holds usual (set flags n other) count (n + 1)
  flagged_other other inside is = record {
    long = length-set flags n other ∙ are.long;
    told = λ q d l. elim (split_last q n l) [
      | inl below ↦ get_or-set_other flags n q other d (omega (arith, below)) ∙ are.told q d below
      | inr same ↦ ap (λ (k : ℕ). get_or (set flags n other) k d) same ∙ (get_or-set_same flags n other d (omega (arith, inside, are.long)) ∙ (sym is ∙ ap holds (sym same)))
    ];
    rest = λ q d from l. get_or-set_other flags n q other d (omega (arith, from)) ∙ are.rest q d (omega (arith, from)) l;
  }
