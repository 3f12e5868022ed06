-- How gains add up.
use Rattle.std.proofs.Common.{◌≡◌, ◌↔◌, ℕ, ◌+◌, ◌<◌, ◌≤◌, Bool, IsTrue, Option, Some, List, [], ◌∷◌, ◌++◌, ◌⊎◌, inl, inr, Contains, length, take, get_or, sym, subst, arith}
use Rattle.std.proofs.lemmas.Bool.{cases_lt}
use Rattle.std.proofs.lemmas.List.{take_more}
use Rattle.std.proofs.lemmas.List.Elements.{Contains-append_left, Contains-append_right, Contains-append_cases}
use Rattle.ot_base.specs.declared.warning.Warning.{Warning}
use Rattle.unwinding_law.proofs.Lists.{here, cases, nowhere}
use Rattle.stack_rules.specs.Gains.{Gains}

-- nothing more
pub gains_none : (xs : List Warning) (P : Warning → Type 0) → ((w : Warning) → P w → ⊥) → Gains xs xs P
gains_none xs P none w = (λ c. inl c, λ k. elim k [ inl c ↦ c | inr h ↦ absurd (none w h) ])

-- the same warnings by another property
pub gains_same : (old new : List Warning) (P Q : Warning → Type 0) → Gains old new P → ((w : Warning) → P w ↔ Q w) → Gains old new Q
gains_same old new P Q gains same w =
    (λ c. elim ((gains w).0 c) [ inl d ↦ inl d | inr h ↦ inr ((same w).0 h) ], λ k. elim k [ inl d ↦ (gains w).1 (inl d) | inr h ↦ (gains w).1 (inr ((same w).1 h)) ])

-- one after the other
pub gains_both : (old mid new : List Warning) (P Q : Warning → Type 0) → Gains old mid P → Gains mid new Q → Gains old new (λ w. P w ⊎ Q w)
gains_both old mid new P Q one two w = (λ c. to ((two w).0 c), λ k. from k)
  where
    to : Contains mid w ⊎ Q w → Contains old w ⊎ (P w ⊎ Q w)
    to (inl c) = elim ((one w).0 c) [ inl d ↦ inl d | inr h ↦ inr (inl h) ]
    to (inr h) = inr (inr h)

    from : Contains old w ⊎ (P w ⊎ Q w) → Contains new w
    from (inl c) = (two w).1 (inl ((one w).1 (inl c)))
    from (inr (inl h)) = (two w).1 (inl ((one w).1 (inr h)))
    from (inr (inr h)) = (two w).1 (inr h)

-- one more
pub gains_push : (xs new : List Warning) (x : Warning) → new ≡ xs ++ x ∷ [] → Gains xs new (λ w. w ≡ x)
gains_push xs new x e = subst (λ (ys : List Warning). Gains xs ys (λ w. w ≡ x)) (sym e) (λ w. (λ c. to w c, λ k. from w k))
  where
    to : (w : Warning) → Contains (xs ++ x ∷ []) w → Contains xs w ⊎ (w ≡ x)
    to w c = elim (Contains-append_cases xs (x ∷ []) w c) [ inl d ↦ inl d | inr d ↦ elim (cases x [] w d) [ inl f ↦ inr (sym f) | inr n ↦ nowhere w n ] ]

    from : (w : Warning) → Contains xs w ⊎ (w ≡ x) → Contains (xs ++ x ∷ []) w
    from w (inl c) = Contains-append_left xs (x ∷ []) w c
    from w (inr f) = Contains-append_right xs (x ∷ []) w (subst (λ (v : Warning). Contains (x ∷ []) v) (sym f) (here x []))

-- what the elements of a list give, one after another
abbrev pub OfSome : {X : Type 0} → List X → (X → Warning → Type 0) → Warning → Type 0
OfSome {X} xs P w = (x : X) × Contains xs x × P x w

pub gains_no_element : {X : Type 0} (old : List Warning) (xs : List X) (P : X → Warning → Type 0) → Gains old old (OfSome (take 0 xs) P)
gains_no_element old xs P = gains_none old (OfSome (take 0 xs) P) (λ w k. nowhere k.0 k.1)

pub gains_element : {X : Type 0} (old mid new : List Warning) (xs : List X) (P : X → Warning → Type 0) (i : ℕ) (d : X) → i < length xs → Gains old mid (OfSome (take i xs) P) → Gains mid new (P (get_or xs i d)) → Gains old new (OfSome (take (i + 1) xs) P)
gains_element {X} old mid new xs P i d l one two = gains_same old new (λ w. OfSome (take i xs) P w ⊎ P (get_or xs i d) w) (OfSome (take (i + 1) xs) P) (gains_both old mid new (OfSome (take i xs) P) (P (get_or xs i d)) one two) (λ w. (λ k. to w k, λ k. from w k))
  where
    to : (w : Warning) → OfSome (take i xs) P w ⊎ P (get_or xs i d) w → OfSome (take (i + 1) xs) P w
    to w (inl (x, c, h)) = (x, subst (λ (ys : List X). Contains ys x) (sym (take_more xs i d l)) (Contains-append_left (take i xs) (get_or xs i d ∷ []) x c), h)
    to w (inr h) = (get_or xs i d, subst (λ (ys : List X). Contains ys (get_or xs i d)) (sym (take_more xs i d l)) (Contains-append_right (take i xs) (get_or xs i d ∷ []) (get_or xs i d) (here (get_or xs i d) [])), h)

    from : (w : Warning) → OfSome (take (i + 1) xs) P w → OfSome (take i xs) P w ⊎ P (get_or xs i d) w
    from w (x, c, h) = elim (Contains-append_cases (take i xs) (get_or xs i d ∷ []) x (subst (λ (ys : List X). Contains ys x) (take_more xs i d l) c)) [ inl a ↦ inl (x, a, h) | inr b ↦ elim (cases (get_or xs i d) [] x b) [ inl e ↦ inr (subst (λ (y : X). P y w) (sym e) h) | inr n ↦ nowhere x n ] ]

-- what the numbers below one give
abbrev pub OfBelow : ℕ → (ℕ → Warning → Type 0) → Warning → Type 0
OfBelow n P w = (q : ℕ) × (q < n) × P q w

pub gains_no_number : (old : List Warning) (P : ℕ → Warning → Type 0) → Gains old old (OfBelow 0 P)
gains_no_number old P = gains_none old (OfBelow 0 P) (λ w k. let l : k.0 < 0 = k.1 in omega (arith, l))

-- the same, where those from one number on give nothing
pub gains_passed : (old new : List Warning) (P : ℕ → Warning → Type 0) (n m : ℕ) → n ≤ m → ((k : ℕ) → n ≤ k → k < m → (w : Warning) → P k w → ⊥) → Gains old new (OfBelow n P) → Gains old new (OfBelow m P)
gains_passed old new P n m order none gains = gains_same old new (OfBelow n P) (OfBelow m P) gains (λ w. (λ k. (k.0, omega (arith, order, k.1), k.2), λ k. from w k))
  where
    from : (w : Warning) → OfBelow m P w → OfBelow n P w
    from w (q, l, h) = elim (cases_lt q n) [ inl k ↦ (q, k, h) | inr far ↦ absurd (none q far l w h) ]

pub gains_number : (old mid new : List Warning) (P : ℕ → Warning → Type 0) (n : ℕ) → Gains old mid (OfBelow n P) → Gains mid new (P n) → Gains old new (OfBelow (n + 1) P)
gains_number old mid new P n one two = gains_same old new (λ w. OfBelow n P w ⊎ P n w) (OfBelow (n + 1) P) (gains_both old mid new (OfBelow n P) (P n) one two) (λ w. (λ k. to w k, λ k. from w k))
  where
    to : (w : Warning) → OfBelow n P w ⊎ P n w → OfBelow (n + 1) P w
    to w (inl (q, l, h)) = (q, omega (arith, l), h)
    to w (inr h) = (n, omega arith, h)

    split : (q : ℕ) → q < n + 1 → (q < n) ⊎ (q ≡ n)
    split q l = grind arith

    from : (w : Warning) → OfBelow (n + 1) P w → OfBelow n P w ⊎ P n w
    from w (q, l, h) = elim (split q l) [ inl k ↦ inl (q, k, h) | inr e ↦ inr (subst (λ (x : ℕ). P x w) e h) ]

-- a warning by what it is
pub gains_told : (old new : List Warning) (P : Type 0) (x y : Warning) → x ≡ y → Gains old new (λ w. P × w ≡ x) → Gains old new (λ w. P × w ≡ y)
gains_told old new P x y e gains = subst (λ (z : Warning). Gains old new (λ w. P × w ≡ z)) e gains

-- a warning, by another reason that it is told for
pub gains_for : (old new : List Warning) (P Q : Type 0) (x y : Warning) → x ≡ y → P ↔ Q → Gains old new (λ w. P × w ≡ x) → Gains old new (λ w. Q × w ≡ y)
gains_for old new P Q x y e same gains = gains_same old new (λ w. P × w ≡ y) (λ w. Q × w ≡ y) (gains_told old new P x y e gains) (λ w. (λ k. (same.0 k.0, k.1), λ k. (same.1 k.0, k.1)))

-- whether a rule is broken, by what is broken
pub by_rule : (broken is : Option ℕ) (rule : ℕ) (b : Bool) → broken ≡ is → IsTrue b ↔ (broken ≡ Some rule) → IsTrue b ↔ (is ≡ Some rule)
by_rule broken is rule b e same = subst (λ (o : Option ℕ). IsTrue b ↔ (o ≡ Some rule)) e same
