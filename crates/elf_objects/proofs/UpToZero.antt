-- Texts up to their zero byte, byte by byte.
use Rattle.std.proofs.Common.{◌≡◌, ◌≢◌, ℕ, suc, Bool, true, false, ◌&&◌, ◌||◌, not, List, [], ◌∷◌, length, take, get_or, refl, ap, sym, ◌∙◌, arith, subst}
use Rattle.std.specs.Prelude.{◌==◌, eqb}
use Rattle.std.specs.List.{list_any}
use Rattle.std.specs.Cmp.Lexicographic.{pointwise}
use Rattle.std.proofs.lemmas.List.Sums.{take_while-cons}
use Rattle.std.proofs.lemmas.Bool.{eqb-true}
use Rattle.std.proofs.lemmas.Bool.Decides.{nat_tests}
use Rattle.elf_objects.specs.Strings.{BeginsWith, up_to_zero}

up-zero : (y : ℕ) (bs : List ℕ) → y ≡ 0 → up_to_zero (y ∷ bs) ≡ []
unfolding up_to_zero
up-zero y bs e = rw e refl

up-byte : (y : ℕ) (bs : List ℕ) → (y == 0) ≡ false → up_to_zero (y ∷ bs) ≡ y ∷ up_to_zero bs
unfolding up_to_zero
up-byte y bs e = rw (take_while-cons (λ c. not (c == 0)) y bs, e) refl

up-none : up_to_zero [] ≡ []
unfolding up_to_zero
up-none = refl

-- the text that begins here begins with t: so do the bytes, and t has no zero byte
pub begins-from : (t bs : List ℕ) → pointwise eqb t (take (length t) bs) ≡ true → list_any (λ y. y == 0) t ≡ false → BeginsWith (up_to_zero bs) t
begins-from [] bs same none = refl
begins-from (x ∷ t) [] same none = absurd cc
begins-from (x ∷ t) (y ∷ bs) same none = by (begins-from t bs) (y == 0) refl
  where
    by :
        (pointwise eqb t (take (length t) bs) ≡ true → list_any (λ c. c == 0) t ≡ false → BeginsWith (up_to_zero bs) t)
        → (z : Bool) → (y == 0) ≡ z → take (suc (length t)) (up_to_zero (y ∷ bs)) ≡ x ∷ t
    by more true e = grind (arith, nat_tests)
    by more false e =
        let heads : x ≡ y = grind (arith, nat_tests) in
        let tails : pointwise eqb t (take (length t) bs) ≡ true = grind (arith, nat_tests) in
        let free : list_any (λ c. c == 0) t ≡ false = grind (arith, nat_tests) in
        rw (up-byte y bs e, more tails free, heads) refl

pub begins-same : (t bs : List ℕ) → BeginsWith (up_to_zero bs) t → pointwise eqb t (take (length t) bs) ≡ true
begins-same [] bs h = refl
begins-same (x ∷ t) [] h = let e = rw up-none at h in absurd cc
begins-same (x ∷ t) (y ∷ bs) h = by (begins-same t bs) (y == 0) refl
  where
    by : (BeginsWith (up_to_zero bs) t → pointwise eqb t (take (length t) bs) ≡ true) → (z : Bool) → (y == 0) ≡ z → pointwise eqb (x ∷ t) (take (suc (length t)) (y ∷ bs)) ≡ true
    by more true e = let z : y ≡ 0 = eqb-true y 0 e in let none = rw (up-zero y bs z) at h in absurd cc
    by more false e =
        let k = rw (up-byte y bs e) at h in
        let heads : y ≡ x = cc in
        let tails : take (length t) (up_to_zero bs) ≡ t = cc in
        let ih = more tails in
        grind (arith, nat_tests)

pub begins-nonzero : (t bs : List ℕ) → BeginsWith (up_to_zero bs) t → list_any (λ y. y == 0) t ≡ false
begins-nonzero [] bs h = refl
begins-nonzero (x ∷ t) [] h = let e = rw up-none at h in absurd cc
begins-nonzero (x ∷ t) (y ∷ bs) h = by (begins-nonzero t bs) (y == 0) refl
  where
    by : (BeginsWith (up_to_zero bs) t → list_any (λ c. c == 0) t ≡ false) → (z : Bool) → (y == 0) ≡ z → list_any (λ c. c == 0) (x ∷ t) ≡ false
    by more true e = let z : y ≡ 0 = eqb-true y 0 e in let none = rw (up-zero y bs z) at h in absurd cc
    by more false e =
        let k = rw (up-byte y bs e) at h in
        let heads : y ≡ x = cc in
        let tails : take (length t) (up_to_zero bs) ≡ t = cc in
        let ih = more tails in
        grind (arith, nat_tests)

-- a text that begins with t is t where the byte behind is zero, or nothing
pub is-from : (t bs : List ℕ) → BeginsWith (up_to_zero bs) t → get_or bs (length t) 0 ≡ 0 → up_to_zero bs ≡ t
is-from [] [] h e = up-none
is-from [] (y ∷ bs) h e = up-zero y bs e
is-from (x ∷ t) [] h e = let n = rw up-none at h in absurd cc
is-from (x ∷ t) (y ∷ bs) h e = by (is-from t bs) (y == 0) refl
  where
    by : (BeginsWith (up_to_zero bs) t → get_or bs (length t) 0 ≡ 0 → up_to_zero bs ≡ t) → (z : Bool) → (y == 0) ≡ z → up_to_zero (y ∷ bs) ≡ x ∷ t
    by more true w = let z : y ≡ 0 = eqb-true y 0 w in let none = rw (up-zero y bs z) at h in absurd cc
    by more false w =
        let k = rw (up-byte y bs w) at h in
        let heads : y ≡ x = cc in
        let tails : take (length t) (up_to_zero bs) ≡ t = cc in
        rw (up-byte y bs w, more tails e, heads) refl

pub is-end : (t bs : List ℕ) → up_to_zero bs ≡ t → get_or bs (length t) 0 ≡ 0
is-end [] [] e = refl
is-end [] (y ∷ bs) e = by (y == 0) refl
  where
    by : (z : Bool) → (y == 0) ≡ z → y ≡ 0
    by true w = eqb-true y 0 w
    by false w = let k = rw (up-byte y bs w) at e in absurd cc
is-end (x ∷ t) [] e = let n = rw up-none at e in absurd cc
is-end (x ∷ t) (y ∷ bs) e = by (is-end t bs) (y == 0) refl
  where
    by : (up_to_zero bs ≡ t → get_or bs (length t) 0 ≡ 0) → (z : Bool) → (y == 0) ≡ z → get_or bs (length t) 0 ≡ 0
    by more true w = let z : y ≡ 0 = eqb-true y 0 w in let none = rw (up-zero y bs z) at e in absurd cc
    by more false w = let k = rw (up-byte y bs w) at e in let tails : up_to_zero bs ≡ t = cc in more tails

pub is-begun : (t bs : List ℕ) → up_to_zero bs ≡ t → BeginsWith (up_to_zero bs) t
is-begun t bs e = rw e (take-all t)
  where
    take-all : (xs : List ℕ) → take (length xs) xs ≡ xs
    take-all [] = refl
    take-all (x ∷ xs) = ap (λ r. x ∷ r) (take-all xs)
