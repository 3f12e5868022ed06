-- When two originals share a byte, in plain numbers: sections a and c, offsets b and d, lengths m and n.
use Rattle.std.proofs.Common.{◌≡◌, ◌⊎◌, ◌≢◌, ℕ, zero, suc, ◌+◌, ◌-◌, ◌<◌, ◌≤◌, Bool, true, false, ◌&&◌, not, eqb, ltb, List, length, get_or, All, inl, inr, arith, refl, subst}
use Rattle.std.specs.Ordering.{nat_cmp, is_lt, ordering_then}
use Rattle.std.proofs.lemmas.Bool.{cases_lt}
use Rattle.std.proofs.lemmas.Bool.Decides.{eqb_tells, nat_tests}
use Rattle.std.proofs.Math.Bool.{and_comm}
use Rattle.alternatives.specs.declared.original.Original.{Original}
use Rattle.alternatives.specs.Sorted.{AreByPlace, NoneMeet}

abbrev pub met : ℕ → ℕ → ℕ → ℕ → ℕ → ℕ → Bool
met a b m c d n =
    ((not (eqb m 0) && not (eqb n 0))
    && (eqb a c
    && (ltb b (d + n) && ltb d (b + m))))
    && not (eqb b d && eqb m n)

-- one lies before the other, or they are the same
pub data Apart (a b m c d n : ℕ) : Type 0 where
  earlier : a < c → Apart a b m c d n
  ends : a ≡ c → b + m ≤ d → Apart a b m c d n
  same : a ≡ c → b ≡ d → m ≡ n → Apart a b m c d n

pub apart_on : (a b m c d n e f o : ℕ) → Apart a b m c d n → Apart c d n e f o → Apart a b m e f o
apart_on a b m c d n e f o (earlier h) (earlier k) = earlier (omega arith)
apart_on a b m c d n e f o (earlier h) (ends k l) = earlier (omega arith)
apart_on a b m c d n e f o (earlier h) (same k l j) = earlier (omega arith)
apart_on a b m c d n e f o (ends h i) (earlier k) = earlier (omega arith)
apart_on a b m c d n e f o (ends h i) (ends k l) = ends (omega arith) (omega arith)
apart_on a b m c d n e f o (ends h i) (same k l j) = ends (omega arith) (omega arith)
apart_on a b m c d n e f o (same h i g) (earlier k) = earlier (omega arith)
apart_on a b m c d n e f o (same h i g) (ends k l) = ends (omega arith) (omega arith)
apart_on a b m c d n e f o (same h i g) (same k l j) = same (omega arith) (omega arith) (omega arith)

met_earlier : (a b m c d n : ℕ) → a < c → met a b m c d n ≡ false
met_earlier a b m c d n h = grind (arith, nat_tests)

met_ends : (a b m c d n : ℕ) → b + m ≤ d → met a b m c d n ≡ false
met_ends a b m c d n h = grind (arith, nat_tests)

met_same : (a b m c d n : ℕ) → b ≡ d → m ≡ n → met a b m c d n ≡ false
met_same a b m c d n h i = grind (arith, nat_tests)

pub apart_not_met : (a b m c d n : ℕ) → Apart a b m c d n → met a b m c d n ≡ false
apart_not_met a b m c d n (earlier h) = met_earlier a b m c d n h
apart_not_met a b m c d n (ends h i) = met_ends a b m c d n i
apart_not_met a b m c d n (same h i j) = met_same a b m c d n i j

eqb-comm : (a b : ℕ) → eqb a b ≡ eqb b a
eqb-comm a b = grind (arith, nat_tests)

pub met_comm : (a b m c d n : ℕ) → met a b m c d n ≡ met c d n a b m
met_comm a b m c d n =
    simp (and_comm (not (eqb m 0)) (not (eqb n 0)), eqb-comm a c, and_comm (ltb b (d + n)) (ltb d (b + m)), eqb-comm b d, eqb-comm m n) refl

-- what is in order and not met is apart
before_sec : (a b c d i j : ℕ) → c < a → is_lt (ordering_then (ordering_then (nat_cmp c a) (nat_cmp d b)) (nat_cmp j i)) ≡ true
before_sec a b c d i j h = grind (arith, nat_tests)

before_off : (a b c d i j : ℕ) → c ≡ a → d < b → is_lt (ordering_then (ordering_then (nat_cmp c a) (nat_cmp d b)) (nat_cmp j i)) ≡ true
before_off a b c d i j h l = grind (arith, nat_tests)

met_where : (a b m c d n : ℕ) → a ≡ c → b ≤ d → d < b + m → 0 < m → 0 < n → (b ≢ d) ⊎ (m ≢ n) → met a b m c d n ≡ true
met_where a b m c d n h i j k l (inl other) = grind (arith, nat_tests)
met_where a b m c d n h i j k l (inr other) = grind (arith, nat_tests)

not_both : (b : Bool) → b ≡ false → b ≡ true → ⊥
not_both b f t = cc

pub in_order_apart : (a b m c d n i j : ℕ) → 0 < m → 0 < n → is_lt (ordering_then (ordering_then (nat_cmp c a) (nat_cmp d b)) (nat_cmp j i)) ≡ false → met a b m c d n ≡ false → Apart a b m c d n
in_order_apart a b m c d n i j some other order apart =
    elim (cases_lt a c) [
      | inl lower ↦ earlier lower
      | inr not_lower ↦ elim (cases_lt c a) [
        | inl higher ↦ absurd (not_both _ order (before_sec a b c d i j higher))
        | inr not_higher ↦
            let one : a ≡ c = omega arith in
            elim (cases_lt d b) [
              | inl below ↦ absurd (not_both _ order (before_off a b c d i j (omega arith) below))
              | inr from ↦ elim (cases_lt d (b + m)) [
                | inr behind ↦ ends one behind
                | inl inside ↦ elim (eqb_tells b d) [
                  | inr (h, differ) ↦ absurd (not_both _ apart (met_where a b m c d n one from inside some other (inl differ)))
                  | inl (h, equal) ↦ elim (eqb_tells m n) [
                    | inr (g, differ) ↦ absurd (not_both _ apart (met_where a b m c d n one from inside some other (inr differ)))
                    | inl (g, alike) ↦ same one equal alike
                  ]
                ]
              ]
            ]
      ]
    ]

abbrev pub ApartTwo : Original → Original → Type 0
ApartTwo x y = Apart x.place.sec x.place.off x.len y.place.sec y.place.off y.len

-- where neighbours are, all are
module _ (os : List Original) (order : AreByPlace os) (apart : NoneMeet os) (some : All (λ o. 0 < o.len) os) (d : Original) where
  next : (k : ℕ) → k + 1 < length os → ApartTwo (get_or os k d) (get_or os (k + 1) d)
  next k within =
      let x : Original = get_or os k d in
      let y : Original = get_or os (k + 1) d in
      in_order_apart x.place.sec x.place.off x.len y.place.sec y.place.off y.len x.entry y.entry (some k d (omega arith)) (some (k + 1) d within) (order k d (omega arith) within) (apart k d within)

  pub all_apart : (i n : ℕ) → i + suc n < length os → ApartTwo (get_or os i d) (get_or os (i + suc n) d)
  all_apart i zero inside =
      let there : i + 1 ≡ i + suc zero = omega arith in
      subst (λ j. ApartTwo (get_or os i d) (get_or os j d)) there (next i (omega arith))
  all_apart i (suc n) inside =
      let x : Original = get_or os i d in
      let y : Original = get_or os (i + suc n) d in
      let z : Original = get_or os (i + suc n + 1) d in
      let there : i + suc n + 1 ≡ i + suc (suc n) = omega arith in
      let far : ApartTwo x z = apart_on x.place.sec x.place.off x.len y.place.sec y.place.off y.len z.place.sec z.place.off z.len (all_apart i n (omega arith)) (next (i + suc n) (omega arith)) in
      subst (λ j. ApartTwo x (get_or os j d)) there far

  pub apart_pair : (m n : ℕ) → m < n → n < length os → ApartTwo (get_or os m d) (get_or os n d)
  apart_pair m n lower inside =
      let k : ℕ = n - m - 1 in
      let there : m + suc k ≡ n = omega arith in
      subst (λ j. ApartTwo (get_or os m d) (get_or os j d)) there (all_apart m k (omega arith))
