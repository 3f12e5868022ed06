-- Intervals that share no number have together no more numbers than there are.
use Rattle.std.proofs.Common.{◌≡◌, ℕ, zero, suc, ◌+◌, ◌-◌, ◌<◌, ◌≤◌, min, arith}
use Rattle.special_sections.proofs.Totals.{total, total_le, total_plus, total_one, total_zero}

-- how many numbers below m are in the interval of a size from a start on
below : ℕ → ℕ → ℕ → ℕ
below start size m = min m (start + size) - min m start

has : ℕ → ℕ → ℕ → ℕ
has start size m = below start size (suc m) - below start size m

below_none : (start size : ℕ) → below start size 0 ≡ 0
unfolding below
below_none start size = omega arith

below_all : (start size n : ℕ) → start + size ≤ n → size ≤ below start size n
unfolding below
below_all start size n inside = omega arith

below_more : (start size m : ℕ) → below start size (suc m) ≤ below start size m + has start size m
unfolding has
below_more start size m = omega arith

has_one : (start size m : ℕ) → has start size m ≤ 1
unfolding has below
has_one start size m = omega arith

has_from : (start size m : ℕ) → has start size m ≡ 1 → start ≤ m
unfolding has below
has_from start size m one = omega arith

has_to : (start size m : ℕ) → has start size m ≡ 1 → m < start + size
unfolding has below
has_to start size m one = omega arith

module _ (start size : ℕ → ℕ) (count n : ℕ) (apart : (s t x : ℕ) → s < count → t < count → start s ≤ x → x < start s + size s → start t ≤ x → x < start t + size t → s ≡ t) where
  few_below : (m : ℕ) → total (λ s. below (start s) (size s) m) count ≤ m
  few_below zero =
      let none : total (λ s. below (start s) (size s) 0) count ≡ 0 = total_zero (λ s. below (start s) (size s) 0) count (λ s l. below_none (start s) (size s)) in
      omega arith
  few_below (suc m) =
      let rest : total (λ s. below (start s) (size s) m) count ≤ m = few_below m in
      let here : total (λ s. has (start s) (size s) m) count ≤ 1 = total_one (λ s. has (start s) (size s) m) count (λ s l. has_one (start s) (size s) m) (λ s t l k one other. apart s t m l k (has_from (start s) (size s) m one) (has_to (start s) (size s) m one) (has_from (start t) (size t) m other) (has_to (start t) (size t) m other)) in
      let both : total (λ s. below (start s) (size s) (suc m)) count ≤ total (λ s. below (start s) (size s) m) count + total (λ s. has (start s) (size s) m) count = total_plus (λ s. below (start s) (size s) m) (λ s. has (start s) (size s) m) (λ s. below (start s) (size s) (suc m)) count (λ s l. below_more (start s) (size s) m) in
      omega arith

  pub sizes_fit : ((s : ℕ) → s < count → start s + size s ≤ n) → total size count ≤ n
  sizes_fit inside =
      let all : total size count ≤ total (λ s. below (start s) (size s) n) count = total_le size (λ s. below (start s) (size s) n) count (λ s l. below_all (start s) (size s) n (inside s l)) in
      let few : total (λ s. below (start s) (size s) n) count ≤ n = few_below n in
      omega arith
