-- Sums over the numbers below a bound.
use Rattle.std.proofs.Common.{◌≡◌, ℕ, zero, suc, ◌+◌, ◌<◌, ◌≤◌, Bool, true, false, cond, List, [], ◌∷◌, filter, inl, inr, ◌⊎◌, refl, ap, sym, subst, arith}
use Rattle.std.specs.List.{range_with_len}

-- the sum of f over the numbers below n
abbrev pub total : (ℕ → ℕ) → ℕ → ℕ
total f zero = 0
total f (suc n) = total f n + f n

pub total_le : (f g : ℕ → ℕ) (n : ℕ) → ((k : ℕ) → k < n → f k ≤ g k) → total f n ≤ total g n
total_le f g zero each = omega arith
total_le f g (suc n) each =
    let rest : total f n ≤ total g n = total_le f g n (λ k l. each k (omega arith)) in
    let here : f n ≤ g n = each n (omega arith) in
    omega arith

pub total_plus : (f g h : ℕ → ℕ) (n : ℕ) → ((k : ℕ) → k < n → h k ≤ f k + g k) → total h n ≤ total f n + total g n
total_plus f g h zero each = omega arith
total_plus f g h (suc n) each =
    let rest : total h n ≤ total f n + total g n = total_plus f g h n (λ k l. each k (omega arith)) in
    let here : h n ≤ f n + g n = each n (omega arith) in
    omega arith

pub total_zero : (f : ℕ → ℕ) (n : ℕ) → ((k : ℕ) → k < n → f k ≡ 0) → total f n ≡ 0
total_zero f zero each = omega arith
total_zero f (suc n) each =
    let rest : total f n ≡ 0 = total_zero f n (λ k l. each k (omega arith)) in
    let here : f n ≡ 0 = each n (omega arith) in
    omega arith

zero_or_one : (n : ℕ) → n ≤ 1 → (n ≡ 0) ⊎ (n ≡ 1)
zero_or_one zero small = inl (omega arith)
zero_or_one (suc n) small = inr (omega arith)

-- where at most one is 1 and the others are 0
pub total_one : (f : ℕ → ℕ) (n : ℕ) → ((k : ℕ) → k < n → f k ≤ 1) → ((j k : ℕ) → j < n → k < n → f j ≡ 1 → f k ≡ 1 → j ≡ k) → total f n ≤ 1
total_one f zero each one = omega arith
total_one f (suc n) each one = elim (zero_or_one (f n) (each n (omega arith))) [
  | inl none ↦
      let rest : total f n ≤ 1 = total_one f n (λ k l. each k (omega arith)) (λ j k l m. one j k (omega arith) (omega arith)) in
      omega arith
  | inr here ↦
      let rest : total f n ≡ 0 = total_zero f n (λ k l.
      elim (zero_or_one (f k) (each k (omega arith))) [
        | inl none ↦ none
        | inr other ↦ let same : k ≡ n = one k n (omega arith) (omega arith) other here in absurd (omega arith)
      ]) in
      omega arith
]

pub total_same : (f g : ℕ → ℕ) (n : ℕ) → ((k : ℕ) → k < n → f k ≡ g k) → total f n ≡ total g n
total_same f g zero each = omega arith
total_same f g (suc n) each =
    let rest : total f n ≡ total g n = total_same f g n (λ k l. each k (omega arith)) in
    let here : f n ≡ g n = each n (omega arith) in
    omega arith

total_front : (f : ℕ → ℕ) (n : ℕ) → total f (suc n) ≡ f 0 + total (λ k. f (suc k)) n
total_front f zero = omega arith
total_front f (suc n) =
    let rest : total f (suc n) ≡ f 0 + total (λ k. f (suc k)) n = total_front f n in
    omega arith

-- the sum of f over a list
abbrev pub sum_of : (ℕ → ℕ) → List ℕ → ℕ
sum_of f [] = 0
sum_of f (x ∷ xs) = f x + sum_of f xs

pub sum_range : (g : ℕ → ℕ) (a n : ℕ) → sum_of g (range_with_len a n) ≡ total (λ k. g (a + k)) n
sum_range g a zero = refl
sum_range g a (suc n) =
    let rest : sum_of g (range_with_len (a + 1) n) ≡ total (λ k. g (a + 1 + k)) n = sum_range g (a + 1) n in
    let moved : total (λ k. g (a + 1 + k)) n ≡ total (λ k. g (a + suc k)) n = total_same (λ k. g (a + 1 + k)) (λ k. g (a + suc k)) n (λ k l. ap g {x = a + 1 + k} {y = a + suc k} (omega arith)) in
    let front : total (λ k. g (a + k)) (suc n) ≡ g (a + 0) + total (λ k. g (a + suc k)) n = total_front (λ k. g (a + k)) n in
    let first : g (a + 0) ≡ g a = ap g {x = a + 0} {y = a} (omega arith) in
    let step : sum_of g (range_with_len a (suc n)) ≡ g a + sum_of g (range_with_len (a + 1) n) = refl in
    omega arith

pub sum_passing : (g : ℕ → ℕ) (p : ℕ → Bool) (xs : List ℕ) → sum_of g (filter p xs) ≤ sum_of g xs
sum_passing g p [] = omega arith
sum_passing g p (x ∷ xs) =
    let rest : sum_of g (filter p xs) ≤ sum_of g xs = sum_passing g p xs in
    let with : sum_of g (x ∷ filter p xs) ≡ g x + sum_of g (filter p xs) = refl in
    let all : sum_of g (x ∷ xs) ≡ g x + sum_of g xs = refl in
    let most : sum_of g (filter p (x ∷ xs)) ≤ g x + sum_of g xs =
    elim (p x) as (λ b. sum_of g (cond b (x ∷ filter p xs) (filter p xs)) ≤ g x + sum_of g xs) [
      | true ↦ subst (λ n. n ≤ g x + sum_of g xs) (sym with) (omega arith)
      | false ↦ omega arith
    ] in
    omega arith
