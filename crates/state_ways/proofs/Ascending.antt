-- Warnings in ascending order.
use Rattle.std.proofs.Common.{◌≡◌, ℕ, ◌+◌, ◌<◌, ◌≤◌, ◌⊎◌, inl, inr, List, Some, AllPairs, Contains, get_or, slice_get, sym, ◌∙◌, ap, subst, arith}
use Rattle.std.specs.Prelude.{ℤ, ◌<ℤ◌}
use Rattle.std.proofs.lemmas.Bool.{cases_lt}
use Rattle.std.proofs.lemmas.Int.{ints}
use Rattle.std.proofs.lemmas.Option.{get_or_from_slice_get, slice_get-get_or, slice_get_within}
use Rattle.ot_base.specs.declared.warning.Warning.{Warning}
use Rattle.stack_rules.specs.Before.{ComesBefore}

-- by one number, and then by another order
by_number : {R S T : Type 0} (a b c : ℕ) → (R → S → T) → (a < b) ⊎ ((a ≡ b) × R) → (b < c) ⊎ ((b ≡ c) × S) → (a < c) ⊎ ((a ≡ c) × T)
by_number a b c f (inl l) (inl m) = inl (omega (arith, l, m))
by_number a b c f (inl l) (inr (e, s)) = inl (omega (arith, l, e))
by_number a b c f (inr (e, r)) (inl m) = inl (omega (arith, m, e))
by_number a b c f (inr (e, r)) (inr (d, s)) = inr (e ∙ d, f r s)

by_integer : {R S T : Type 0} (a b c : ℤ) → (R → S → T) → (a <ℤ b) ⊎ ((a ≡ b) × R) → (b <ℤ c) ⊎ ((b ≡ c) × S) → (a <ℤ c) ⊎ ((a ≡ c) × T)
by_integer a b c f (inl l) (inl m) = inl (omega (arith, ints, l, m))
by_integer a b c f (inl l) (inr (e, s)) = inl (omega (arith, ints, l, e))
by_integer a b c f (inr (e, r)) (inl m) = inl (omega (arith, ints, m, e))
by_integer a b c f (inr (e, r)) (inr (d, s)) = inr (e ∙ d, f r s)

before_all : (a b c : ℤ) → a <ℤ b → b <ℤ c → a <ℤ c
before_all a b c l m = omega (arith, ints, l, m)

-- what comes before a warning comes before what that comes before
pub before_before : (u v w : Warning) → ComesBefore u v → ComesBefore v w → ComesBefore u w
before_before u v w = by_number u.place.sec v.place.sec w.place.sec (by_number u.place.off v.place.off w.place.off (by_number u.rule v.rule w.rule (by_integer u.a v.a w.a (before_all u.b v.b w.b))))

not_itself : {R : Type 0} (a : ℕ) → (R → ⊥) → (a < a) ⊎ ((a ≡ a) × R) → ⊥
not_itself a f (inl l) = omega (arith, l)
not_itself a f (inr (e, r)) = f r

not_itself_either : {R : Type 0} (a : ℤ) → (R → ⊥) → (a <ℤ a) ⊎ ((a ≡ a) × R) → ⊥
not_itself_either a f (inl l) = omega (arith, ints, l)
not_itself_either a f (inr (e, r)) = f r

no_less : (a : ℤ) → a <ℤ a → ⊥
no_less a l = omega (arith, ints, l)

-- none comes before itself
pub before_none : (w : Warning) → ComesBefore w w → ⊥
before_none w = not_itself w.place.sec (not_itself w.place.off (not_itself w.rule (not_itself_either w.a (no_less w.b))))

module _ (warnings : List Warning) (ascend : AllPairs ComesBefore warnings) where
  -- of two the earlier one comes before the later one
  pub earlier : (i j : ℕ) (v w : Warning) → i < j → slice_get warnings i ≡ Some v → slice_get warnings j ≡ Some w → ComesBefore v w
  earlier i j v w l e f =
      let k : ComesBefore (get_or warnings i v) (get_or warnings j v) = ascend i j v l (slice_get_within warnings j w f) in
      subst (λ (x : Warning). ComesBefore x w) (get_or_from_slice_get warnings i v v e) (subst (λ (x : Warning). ComesBefore (get_or warnings i v) x) (get_or_from_slice_get warnings j w v f) k)

  -- those up to one that comes before
  pub before_more : (key v : Warning) (m : ℕ) → slice_get warnings m ≡ Some v → ComesBefore v key → (k : ℕ) (w : Warning) → k < m + 1 → slice_get warnings k ≡ Some w → ComesBefore w key
  before_more key v m e b k w l f = elim (cases_lt k m) [
    | inl lower ↦ before_before w v key (earlier k m w v lower f e) b
    | inr same ↦ (let s : m ≡ k = omega arith in let x : Some v ≡ Some w = sym e ∙ (ap (slice_get warnings) s ∙ f) in let y : v ≡ w = cc in subst (λ (z : Warning). ComesBefore z key) y b)
  ]

  -- those from one on that doesn't
  pub behind_more : (key v : Warning) (m : ℕ) → slice_get warnings m ≡ Some v → (ComesBefore v key → ⊥) → (k : ℕ) (w : Warning) → m ≤ k → slice_get warnings k ≡ Some w → ComesBefore w key → ⊥
  behind_more key v m e isnt k w l f b = elim (cases_lt m k) [
    | inl lower ↦ isnt (before_before v w key (earlier m k v w lower e f) b)
    | inr same ↦ (let s : m ≡ k = omega arith in let x : Some v ≡ Some w = sym e ∙ (ap (slice_get warnings) s ∙ f) in let y : w ≡ v = cc in isnt (subst (λ (z : Warning). ComesBefore z key) y b))
  ]

  -- one that doesn't stand behind those before it is nowhere
  pub not_listed : (key : Warning) (m : ℕ) → ((k : ℕ) (w : Warning) → k < m → slice_get warnings k ≡ Some w → ComesBefore w key) → ((k : ℕ) (w : Warning) → m ≤ k → slice_get warnings k ≡ Some w → ComesBefore w key → ⊥) → (slice_get warnings m ≡ Some key → ⊥) → Contains warnings key → ⊥
  not_listed key m before behind isnt (k, l, e) = go (three k m)
    where
      here : slice_get warnings k ≡ Some key
      here = slice_get-get_or warnings k key l ∙ ap Some e

      three : (k m : ℕ) → (k < m) ⊎ ((k ≡ m) ⊎ (m < k))
      three k m = grind arith

      go : (k < m) ⊎ ((k ≡ m) ⊎ (m < k)) → ⊥
      go (inl lower) = before_none key (before k key lower here)
      go (inr (inl same)) = isnt (subst (λ (i : ℕ). slice_get warnings i ≡ Some key) same here)
      go (inr (inr above)) =
          let v : Warning = get_or warnings m key in
          let f : slice_get warnings m ≡ Some v = slice_get-get_or warnings m key (omega (arith, above, l)) in
          behind m v (omega arith) f (earlier m k v key above f here)

  -- a warning stands at one place
  pub one_place : (i j : ℕ) (w : Warning) → slice_get warnings i ≡ Some w → slice_get warnings j ≡ Some w → i ≡ j
  one_place i j w e f = go (three i j)
    where
      three : (i j : ℕ) → (i < j) ⊎ ((i ≡ j) ⊎ (j < i))
      three i j = grind arith

      go : (i < j) ⊎ ((i ≡ j) ⊎ (j < i)) → i ≡ j
      go (inl l) = absurd (before_none w (earlier i j w w l e f))
      go (inr (inl s)) = s
      go (inr (inr l)) = absurd (before_none w (earlier j i w w l f e))
