-- Lists that ascend: joined, mapped, kept in part, and the same where they have the same elements.
use Rattle.std.proofs.Common.{◌≡◌, ℕ, zero, suc, ◌+◌, ◌<◌, ◌≤◌, Bool, true, false, cond, List, [], ◌∷◌, ◌++◌, map, filter, Contains, ◌⊎◌, inl, inr, refl, sym, ap, ◌∙◌, subst, arith}
use Rattle.std.specs.List.{AllByRecursion, flat_map, range_with_len}
use Rattle.std.specs.List.Sorted.{IsStrictlySortedBy}
use Rattle.std.specs.Cmp.{IsTotalOrder}
use Rattle.std.specs.declared.cmp.Ordering.{Ordering}
use Rattle.std.specs.declared.cmp.Ordering.TheVariants.{Less, Equal}
use Rattle.std.proofs.lemmas.Bool.{cases_lt}
use Rattle.std.proofs.lemmas.Cmp.{tied_itself}

module _ {X : Type 0} (P : X → Type 0) where
  pub every-append : (xs ys : List X) → AllByRecursion P xs → AllByRecursion P ys → AllByRecursion P (xs ++ ys)
  every-append [] ys a b = b
  every-append (x ∷ xs) ys a b = (a.0, every-append xs ys a.1 b)

  pub every-each : ((x : X) → P x) → (xs : List X) → AllByRecursion P xs
  every-each each [] = tt
  every-each each (x ∷ xs) = (each x, every-each each xs)

  pub every-filter : (p : X → Bool) (xs : List X) → AllByRecursion P xs → AllByRecursion P (filter p xs)
  every-filter p [] a = tt
  every-filter p (x ∷ xs) a = elim (p x) as (λ b. AllByRecursion P (cond b (x ∷ filter p xs) (filter p xs))) [
    | true ↦ (a.0, every-filter p xs a.1)
    | false ↦ every-filter p xs a.1
  ]

pub every-weaker : {X : Type 0} (P Q : X → Type 0) → ((x : X) → P x → Q x) → (xs : List X) → AllByRecursion P xs → AllByRecursion Q xs
every-weaker P Q weaker [] a = tt
every-weaker P Q weaker (x ∷ xs) a = (weaker x a.0, every-weaker P Q weaker xs a.1)

kept_passes : {X : Type 0} (p : X → Bool) (x : X) (ys : List X) (b : Bool) → p x ≡ b → AllByRecursion (λ y. p y ≡ true) ys → AllByRecursion (λ y. p y ≡ true) (cond b (x ∷ ys) ys)
kept_passes p x ys true h rest = (h, rest)
kept_passes p x ys false h rest = rest

pub every-passes : {X : Type 0} (p : X → Bool) (xs : List X) → AllByRecursion (λ x. p x ≡ true) (filter p xs)
every-passes p [] = tt
every-passes p (x ∷ xs) = kept_passes p x (filter p xs) (p x) refl (every-passes p xs)

pub every-map : {X Y : Type 0} (P : Y → Type 0) (f : X → Y) (xs : List X) → AllByRecursion (λ x. P (f x)) xs → AllByRecursion P (map f xs)
every-map P f [] a = tt
every-map P f (x ∷ xs) a = (a.0, every-map P f xs a.1)

pub every-flat_map : {X Y : Type 0} (P : Y → Type 0) (f : X → List Y) (xs : List X) → AllByRecursion (λ x. AllByRecursion P (f x)) xs → AllByRecursion P (flat_map f xs)
every-flat_map P f [] a = tt
every-flat_map P f (x ∷ xs) a = every-append P (f x) (flat_map f xs) a.0 (every-flat_map P f xs a.1)

-- an element of a list
abbrev pub In : {X : Type 0} → X → List X → Type 0
In q [] = ⊥
In q (x ∷ xs) = (x ≡ q) ⊎ In q xs

pub in_contains : {X : Type 0} (xs : List X) (q : X) → Contains xs q → In q xs
in_contains [] q h = absurd (omega (arith, h.1))
in_contains (x ∷ xs) q (zero, inside, is) = inl is
in_contains (x ∷ xs) q (suc k, inside, is) = inr (in_contains xs q (k, (omega arith), is))

pub contains_in : {X : Type 0} (xs : List X) (q : X) → In q xs → Contains xs q
contains_in [] q h = absurd h
contains_in (x ∷ xs) q (inl is) = (0, (omega arith), is)
contains_in (x ∷ xs) q (inr h) = let rest : Contains xs q = contains_in xs q h in (suc rest.0, (omega (arith, rest.1)), rest.2)

pub every-in : {X : Type 0} (P : X → Type 0) (xs : List X) (q : X) → AllByRecursion P xs → In q xs → P q
every-in P [] q a h = absurd h
every-in P (x ∷ xs) q a (inl is) = subst P is a.0
every-in P (x ∷ xs) q a (inr h) = every-in P xs q a.1 h

pub every-from_in : {X : Type 0} (P : X → Type 0) (xs : List X) → ((q : X) → In q xs → P q) → AllByRecursion P xs
every-from_in P [] each = tt
every-from_in P (x ∷ xs) each = (each x (inl refl), every-from_in P xs (λ q h. each q (inr h)))

pub in-append_left : {X : Type 0} (xs ys : List X) (q : X) → In q xs → In q (xs ++ ys)
in-append_left [] ys q h = absurd h
in-append_left (x ∷ xs) ys q (inl is) = inl is
in-append_left (x ∷ xs) ys q (inr h) = inr (in-append_left xs ys q h)

pub in-append_right : {X : Type 0} (xs ys : List X) (q : X) → In q ys → In q (xs ++ ys)
in-append_right [] ys q h = h
in-append_right (x ∷ xs) ys q h = inr (in-append_right xs ys q h)

pub in-map : {X Y : Type 0} (f : X → Y) (xs : List X) (q : X) → In q xs → In (f q) (map f xs)
in-map f [] q h = absurd h
in-map f (x ∷ xs) q (inl is) = inl (ap f is)
in-map f (x ∷ xs) q (inr h) = inr (in-map f xs q h)

pub in-flat_map : {X Y : Type 0} (f : X → List Y) (xs : List X) (x : X) (q : Y) → In x xs → In q (f x) → In q (flat_map f xs)
in-flat_map f [] x q h at = absurd h
in-flat_map f (y ∷ xs) x q (inl is) at = in-append_left (f y) (flat_map f xs) q (subst (λ z. In q (f z)) (sym is) at)
in-flat_map f (y ∷ xs) x q (inr h) at = in-append_right (f y) (flat_map f xs) q (in-flat_map f xs x q h at)

pub in-filter : {X : Type 0} (p : X → Bool) (xs : List X) (q : X) → In q xs → p q ≡ true → In q (filter p xs)
in-filter p [] q h passes = absurd h
in-filter p (x ∷ xs) q (inl is) passes =
    let here : true ≡ p x = sym (ap p is ∙ passes) in
    subst (λ b. In q (cond b (x ∷ filter p xs) (filter p xs))) here (inl is)
in-filter p (x ∷ xs) q (inr h) passes =
    let rest : In q (filter p xs) = in-filter p xs q h passes in
    elim (p x) as (λ b. In q (cond b (x ∷ filter p xs) (filter p xs))) [ true ↦ inr rest | false ↦ rest ]

pub in-range : (a n k : ℕ) → a ≤ k → k < a + n → In k (range_with_len a n)
in-range a zero k from below = absurd (omega arith)
in-range a (suc n) k from below = elim (cases_lt a k) [
  | inl less ↦ inr (in-range (a + 1) n k (omega arith) (omega arith))
  | inr not_less ↦ inl (omega arith)
]

-- each is in the relation to all behind it
abbrev pub Rising : {X : Type 0} → (X → X → Type 0) → List X → Type 0
Rising R [] = Unit {0}
Rising R (x ∷ xs) = AllByRecursion (R x) xs × Rising R xs

pub rising-filter : {X : Type 0} (R : X → X → Type 0) (p : X → Bool) (xs : List X) → Rising R xs → Rising R (filter p xs)
rising-filter R p [] r = tt
rising-filter R p (x ∷ xs) r = elim (p x) as (λ b. Rising R (cond b (x ∷ filter p xs) (filter p xs))) [
  | true ↦ (every-filter (R x) p xs r.0, rising-filter R p xs r.1)
  | false ↦ rising-filter R p xs r.1
]

pub every-range : (a n : ℕ) → AllByRecursion (λ k. (a ≤ k) × (k < a + n)) (range_with_len a n)
every-range a zero = tt
every-range a (suc n) = ((omega arith, omega arith), every-weaker (λ k. (a + 1 ≤ k) × (k < a + 1 + n)) (λ k. (a ≤ k) × (k < a + suc n)) (λ k h. (omega (arith, h.0), omega (arith, h.1))) (range_with_len (a + 1) n) (every-range (a + 1) n))

pub rising-range : (a n : ℕ) → Rising (λ i j. i < j) (range_with_len a n)
rising-range a zero = tt
rising-range a (suc n) = (every-weaker (λ k. (a + 1 ≤ k) × (k < a + 1 + n)) (λ k. a < k) (λ k h. omega (arith, h.0)) (range_with_len (a + 1) n) (every-range (a + 1) n), rising-range (a + 1) n)

less_not_equal : Less ≡ Equal → ⊥
less_not_equal e = cc

module _ {K : Type 0} (c : K → K → Ordering) where
  pub sorted-append : (xs ys : List K) → IsStrictlySortedBy c xs → IsStrictlySortedBy c ys → AllByRecursion (λ x. AllByRecursion (λ y. c x y ≡ Less) ys) xs → IsStrictlySortedBy c (xs ++ ys)
  unfolding IsStrictlySortedBy
  sorted-append [] ys a b less = b
  sorted-append (x ∷ xs) ys a b less = (every-append (λ y. c x y ≡ Less) xs ys a.0 less.0, sorted-append xs ys a.1 b less.1)

  pub sorted-map : {X : Type 0} (R : X → X → Type 0) (f : X → K) → ((x y : X) → R x y → c (f x) (f y) ≡ Less) → (xs : List X) → Rising R xs → IsStrictlySortedBy c (map f xs)
  unfolding IsStrictlySortedBy
  sorted-map R f less [] r = tt
  sorted-map R f less (x ∷ xs) r = (every-map (λ y. c (f x) y ≡ Less) f xs (every-weaker (R x) (λ y. c (f x) (f y) ≡ Less) (less x) xs r.0), sorted-map R f less xs r.1)

  -- joined blocks, each of which ascends, where all elements of one come before those of the next
  module _ {X : Type 0} (R : X → X → Type 0) (Of : X → K → Type 0) (less : (x y : X) (a b : K) → R x y → Of x a → Of y b → c a b ≡ Less) (f : X → List K) (owned : (x : X) → AllByRecursion (Of x) (f x)) (each : (x : X) → IsStrictlySortedBy c (f x)) where
    rest_less : (x : X) (a : K) → Of x a → (ys : List X) → AllByRecursion (R x) ys → AllByRecursion (λ b. c a b ≡ Less) (flat_map f ys)
    rest_less x a of-x [] r = tt
    rest_less x a of-x (y ∷ ys) r =
        every-append (λ b. c a b ≡ Less) (f y) (flat_map f ys)
        (every-weaker (Of y) (λ b. c a b ≡ Less) (λ b of-y. less x y a b r.0 of-x of-y) (f y) (owned y))
        (rest_less x a of-x ys r.1)

    pub sorted-flat_map : (xs : List X) → Rising R xs → IsStrictlySortedBy c (flat_map f xs)
    unfolding IsStrictlySortedBy
    sorted-flat_map [] r = tt
    sorted-flat_map (x ∷ xs) r =
        sorted-append (f x) (flat_map f xs) (each x) (sorted-flat_map xs r.1)
        (every-weaker (Of x) (λ a. AllByRecursion (λ b. c a b ≡ Less) (flat_map f xs)) (λ a of-x. rest_less x a of-x xs r.0) (f x) (owned x))

  -- two lists that ascend are the same where they have the same elements
  module _ (total : IsTotalOrder c) (same : (x y : K) → c x y ≡ Equal → x ≡ y) where
    never : (x : K) → c x x ≡ Less → ⊥
    never x h = less_not_equal (sym h ∙ tied_itself total x)

    other : (x y : K) (xs : List K) → x ≡ y → AllByRecursion (λ z. c x z ≡ Less) xs → (q : K) → In q xs → y ≡ q → ⊥
    other x y xs same_heads less q h is = never q (subst (λ z. c z q ≡ Less) (same_heads ∙ is) (every-in (λ z. c x z ≡ Less) xs q less h))

    heads : (x y : K) (xs ys : List K) → AllByRecursion (λ z. c x z ≡ Less) xs → AllByRecursion (λ z. c y z ≡ Less) ys → In x (y ∷ ys) → In y (x ∷ xs) → x ≡ y
    heads x y xs ys a b (inl e) back = sym e
    heads x y xs ys a b (inr h) (inl e) = e
    heads x y xs ys a b (inr h) (inr k) = absurd (never x (total.trans x y x (every-in (λ z. c x z ≡ Less) xs y a k) (every-in (λ z. c y z ≡ Less) ys x b h)))

    behind_heads : (x y : K) (xs ys : List K) → x ≡ y → AllByRecursion (λ z. c x z ≡ Less) xs → ((q : K) → In q (x ∷ xs) → In q (y ∷ ys)) → (q : K) → In q xs → In q ys
    behind_heads x y xs ys same_heads less to q h = elim (to q (inr h)) [ inl is ↦ absurd (other x y xs same_heads less q h is) | inr k ↦ k ]

    pub same_elements : (xs ys : List K) → IsStrictlySortedBy c xs → IsStrictlySortedBy c ys → ((q : K) → In q xs → In q ys) → ((q : K) → In q ys → In q xs) → xs ≡ ys
    unfolding IsStrictlySortedBy
    same_elements [] [] a b to back = refl
    same_elements [] (y ∷ ys) a b to back = absurd (back y (inl refl))
    same_elements (x ∷ xs) [] a b to back = absurd (to x (inl refl))
    same_elements (x ∷ xs) (y ∷ ys) a b to back =
        let first : x ≡ y = heads x y xs ys a.0 b.0 (to x (inl refl)) (back y (inl refl)) in
        let rest : xs ≡ ys = same_elements xs ys a.1 b.1 (behind_heads x y xs ys first a.0 to) (behind_heads y x ys xs (sym first) b.0 back) in
        ap (λ z. z ∷ xs) first ∙ ap (λ zs. y ∷ zs) rest
