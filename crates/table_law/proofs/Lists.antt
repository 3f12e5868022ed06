-- Elements of lists: those that are found, and those to which something is given.
use Rattle.std.proofs.Common.{◌≡◌, ◌⊎◌, Bool, true, false, cond, List, [], ◌∷◌, Option, Some, None, Contains, refl, sym, ap, ◌∙◌, subst, inl, inr}
use Rattle.std.specs.Prelude.{filter_map, find}
use Rattle.std.specs.List.{cons_option}
use Rattle.unwinding_law.proofs.Lists.{here, there, cases, nowhere}

-- equal somethings have equal contents
pub some_is : {X : Type 0} {x y : X} → Some x ≡ Some y → x ≡ y
some_is e = cc

-- there is nothing or something
pub some_or_none : {X : Type 0} (o : Option X) → (o ≡ None) ⊎ ((x : X) × (o ≡ Some x))
some_or_none None = inl refl
some_or_none (Some x) = inr (x, refl)

module _ {X Y : Type 0} (h : X → Option Y) where
  -- what is given in front is there
  given_first : (o : Option Y) (rest : List Y) (y : Y) → o ≡ Some y → Contains (cons_option o rest) y
  given_first o rest y e = subst (λ (z : Option Y). Contains (cons_option z rest) y) (sym e) (here y rest)

  -- and so is the rest
  given_later : (o : Option Y) (rest : List Y) (y : Y) → Contains rest y → Contains (cons_option o rest) y
  given_later None rest y c = c
  given_later (Some z) rest y c = there z rest y c

  -- what is given to an element is in the list
  pub in_filter_map : (xs : List X) (x : X) (y : Y) → Contains xs x → h x ≡ Some y → Contains (filter_map h xs) y
  in_filter_map [] x y c e = nowhere x c
  in_filter_map (z ∷ xs) x y c e = elim (cases z xs x c) as (λ _. Contains (cons_option (h z) (filter_map h xs)) y) [ inl q ↦ given_first (h z) (filter_map h xs) y (ap h q ∙ e) | inr d ↦ given_later (h z) (filter_map h xs) y (in_filter_map xs x y d e) ]

  -- what is there was given in front, or is of the rest
  given_cases : (o : Option Y) (rest : List Y) (y : Y) → Contains (cons_option o rest) y → (o ≡ Some y) ⊎ Contains rest y
  given_cases None rest y c = inr c
  given_cases (Some z) rest y c = elim (cases z rest y c) [ inl e ↦ inl (ap Some e) | inr d ↦ inr d ]

  -- what is in the list was given to an element
  pub from_filter_map : (xs : List X) (y : Y) → Contains (filter_map h xs) y → (x : X) × Contains xs x × (h x ≡ Some y)
  from_filter_map [] y c = nowhere y c
  from_filter_map (z ∷ xs) y c = elim (given_cases (h z) (filter_map h xs) y c) [ inl e ↦ (z, here z xs, e) | inr d ↦ let r = from_filter_map xs y d in (r.0, there z xs r.0 r.1, r.2) ]

module _ {X : Type 0} (test : X → Bool) where
  -- one more element in front
  found_here : (y : X) (xs : List X) (b : Bool) → test y ≡ b
      → ((find test xs ≡ None) × ((x : X) → Contains xs x → test x ≡ false)) ⊎ ((x : X) × (find test xs ≡ Some x) × Contains xs x × (test x ≡ true))
      → ((cond b (Some y) (find test xs) ≡ None) × ((x : X) → Contains (y ∷ xs) x → test x ≡ false)) ⊎ ((x : X) × (cond b (Some y) (find test xs) ≡ Some x) × Contains (y ∷ xs) x × (test x ≡ true))
  found_here y xs true e h = inr (y, refl, here y xs, e)
  found_here y xs false e (inl h) = inl (h.0, λ x c. elim (cases y xs x c) [ inl q ↦ subst (λ (z : X). test z ≡ false) q e | inr d ↦ h.1 x d ])
  found_here y xs false e (inr h) = inr (h.0, h.1, there y xs h.0 h.2, h.3)

  -- a search finds none, and no element passes, or it finds an element that does
  pub finds : (xs : List X) → ((find test xs ≡ None) × ((x : X) → Contains xs x → test x ≡ false)) ⊎ ((x : X) × (find test xs ≡ Some x) × Contains xs x × (test x ≡ true))
  finds [] = inl (refl, λ x c. nowhere x c)
  finds (y ∷ xs) = found_here y xs (test y) refl (finds xs)

  -- it finds one where one passes
  pub finds_one : (xs : List X) (x : X) → Contains xs x → test x ≡ true → (y : X) × (find test xs ≡ Some y) × Contains xs y × (test y ≡ true)
  finds_one xs x c h = elim (finds xs) [ inl none ↦ absurd (let e : test x ≡ false = none.1 x c in let k : ⊥ = cc in k) | inr one ↦ one ]

  -- and none where none does
  pub finds_none : (xs : List X) → ((x : X) → Contains xs x → test x ≡ true → ⊥) → find test xs ≡ None
  finds_none xs f = elim (finds xs) [ inl none ↦ none.0 | inr one ↦ absurd (f one.0 one.2 one.3) ]
