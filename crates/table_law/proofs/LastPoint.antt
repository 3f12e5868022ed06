-- The last of some points in the order (offset, the greater variant first).
use Rattle.std.proofs.Common.{◌≡◌, ℕ, zero, suc, ◌<◌, ◌≤◌, ◌⊎◌, Bool, true, false, refl, sym, ap, ◌∙◌, subst, inl, inr, arith}

module _ (test : ℕ → Bool) (off variant : ℕ → ℕ) where
  -- one number comes no later than another: at a lower offset, or at the same with no smaller variant
  abbrev pub IsNoLaterThan : ℕ → ℕ → Type 0
  IsNoLaterThan q r = (off q < off r) ⊎ ((off q ≡ off r) × (variant r ≤ variant q))

  -- of the points below a number that pass the test, the last
  pub record IsLastBelow (n r : ℕ) : Type 0 where
    pub below : r < n
    pub passes : test r ≡ true
    pub last : (q : ℕ) → q < n → test q ≡ true → IsNoLaterThan q r

  -- a number comes no later than itself
  same_is_no_later : (q r : ℕ) → q ≡ r → IsNoLaterThan q r
  same_is_no_later q r e = inr (ap off e, let k : variant q ≡ variant r = ap variant e in omega arith)

  -- this is an order
  no_later_chain : (a b c : ℕ) → IsNoLaterThan a b → IsNoLaterThan b c → IsNoLaterThan a c
  no_later_chain a b c h k = go (off a) (off b) (off c) (variant a) (variant b) (variant c) h k
    where
      go : (x y z i j k : ℕ) → (x < y) ⊎ ((x ≡ y) × (j ≤ i)) → (y < z) ⊎ ((y ≡ z) × (k ≤ j)) → (x < z) ⊎ ((x ≡ z) × (k ≤ i))
      go x y z i j k (inl h) (inl l) = inl (omega arith)
      go x y z i j k (inl h) (inr l) = inl (let e = l.0 in omega arith)
      go x y z i j k (inr h) (inl l) = inl (let e = h.0 in omega arith)
      go x y z i j k (inr h) (inr l) = inr (h.0 ∙ l.0, let e = h.1 in let f = l.1 in omega arith)

  -- of two numbers one comes no later than the other
  either : (a b : ℕ) → IsNoLaterThan a b ⊎ IsNoLaterThan b a
  either a b = go (off a) (off b) (variant a) (variant b)
    where
      go : (x y i j : ℕ) → ((x < y) ⊎ ((x ≡ y) × (j ≤ i))) ⊎ ((y < x) ⊎ ((y ≡ x) × (i ≤ j)))
      go x y i j = pick (let t : (x < y) ⊎ ((y < x) ⊎ (x ≡ y)) = grind arith in t) (let t : (j ≤ i) ⊎ (i ≤ j) = grind arith in t)
        where
          pick : (x < y) ⊎ ((y < x) ⊎ (x ≡ y)) → (j ≤ i) ⊎ (i ≤ j) → ((x < y) ⊎ ((x ≡ y) × (j ≤ i))) ⊎ ((y < x) ⊎ ((y ≡ x) × (i ≤ j)))
          pick (inl l) v = inl (inl l)
          pick (inr (inl l)) v = inr (inl l)
          pick (inr (inr e)) (inl v) = inl (inr (e, v))
          pick (inr (inr e)) (inr v) = inr (inr (sym e, v))

  -- one more number that passes
  last_with : (n : ℕ) → test n ≡ true → ((q : ℕ) → q < n → test q ≡ false) ⊎ ((r : ℕ) × IsLastBelow n r) → (r : ℕ) × IsLastBelow (suc n) r
  last_with n h (inl none) = (n, record { below = omega arith; passes = h; last = λ q l t. go q t (let c : (q < n) ⊎ (q ≡ n) = grind arith in c) })
    where
      go : (q : ℕ) → test q ≡ true → (q < n) ⊎ (q ≡ n) → IsNoLaterThan q n
      go q t (inl l) = let e : test q ≡ false = none q l in absurd (let k : ⊥ = cc in k)
      go q t (inr e) = same_is_no_later q n e
  last_with n h (inr (r, k)) = pick (either n r)
    where
      new : IsNoLaterThan r n → (q : ℕ) → test q ≡ true → (q < n) ⊎ (q ≡ n) → IsNoLaterThan q n
      new m q t (inl l) = no_later_chain q r n (k.last q l t) m
      new m q t (inr e) = same_is_no_later q n e

      old : IsNoLaterThan n r → (q : ℕ) → test q ≡ true → (q < n) ⊎ (q ≡ n) → IsNoLaterThan q r
      old m q t (inl l) = k.last q l t
      old m q t (inr e) = subst (λ (z : ℕ). IsNoLaterThan z r) (sym e) m

      pick : IsNoLaterThan n r ⊎ IsNoLaterThan r n → (x : ℕ) × IsLastBelow (suc n) x
      pick (inl m) = (r, record { below = let l = k.below in omega arith; passes = k.passes; last = λ q l t. old m q t (let c : (q < n) ⊎ (q ≡ n) = grind arith in c) })
      pick (inr m) = (n, record { below = omega arith; passes = h; last = λ q l t. new m q t (let c : (q < n) ⊎ (q ≡ n) = grind arith in c) })

  -- no point passes, or there is a last one
  last_below : (n : ℕ) → ((q : ℕ) → q < n → test q ≡ false) ⊎ ((r : ℕ) × IsLastBelow n r)
  last_below zero = inl (λ q h. absurd (omega arith))
  last_below (suc n) = go (test n) refl (last_below n)
    where
      go : (b : Bool) → test n ≡ b → ((q : ℕ) → q < n → test q ≡ false) ⊎ ((r : ℕ) × IsLastBelow n r) → ((q : ℕ) → q < suc n → test q ≡ false) ⊎ ((r : ℕ) × IsLastBelow (suc n) r)
      go true h o = inr (last_with n h o)
      go false h (inl none) = inl (λ q l. pick q (let c : (q < n) ⊎ (q ≡ n) = grind arith in c))
        where
          pick : (q : ℕ) → (q < n) ⊎ (q ≡ n) → test q ≡ false
          pick q (inl l) = none q l
          pick q (inr e) = ap test e ∙ h
      go false h (inr (r, k)) = inr (r, record { below = let l = k.below in omega arith; passes = k.passes; last = λ q l t. pick q t (let c : (q < n) ⊎ (q ≡ n) = grind arith in c) })
        where
          pick : (q : ℕ) → test q ≡ true → (q < n) ⊎ (q ≡ n) → IsNoLaterThan q r
          pick q t (inl l) = k.last q l t
          pick q t (inr e) = let f : test q ≡ false = ap test e ∙ h in absurd (let z : ⊥ = cc in z)

  -- where one passes there is a last one
  pub last_of_some : (n q : ℕ) → q < n → test q ≡ true → (r : ℕ) × IsLastBelow n r
  last_of_some n q l h = elim (last_below n) [ inl none ↦ let e : test q ≡ false = none q l in absurd (let k : ⊥ = cc in k) | inr r ↦ r ]
