-- What a program has at a point.
use Rattle.std.proofs.Common.{◌≡◌, ◌⊎◌, inl, inr, ℕ, zero, suc, ◌<◌, Bool, true, false, cond, List, [], ◌∷◌, length, arith, lit<, refl, sym, ap, ◌∙◌, subst}
use Rattle.std.specs.Prelude.{Option, Some, None, IfSome, Contains, filter, slice_get}
use Rattle.std.proofs.lemmas.Bool.{cases_lt}
use Rattle.std.proofs.lemmas.Option.{slice_get_past}
use Rattle.std.proofs.lemmas.List.Elements.{Contains-append_left, Contains-append_right}
use Rattle.ot_base.specs.declared.place.Place.{Place}
use Rattle.machine_defs.specs.Program.{below, entry_points}
use Rattle.program_model.specs.declared.program.Program.{Program}
use Rattle.program_model.specs.declared.program.ModelPoint.{ModelPoint}
use Rattle.program_model.specs.Program.{point_or, of_point, no_place, stands_at, arrives, program_of}

-- what a point that is there has
pub of_point_is : {A : Type 0} (p : Program) (other : A) (field : ModelPoint → A) (q : ℕ) (x : ModelPoint) → slice_get p.points.items q ≡ Some x → of_point p other field q ≡ field x
of_point_is p other field q x e = ap (λ (o : Option ModelPoint). point_or other field o) e

-- what stands in a list that a point has
pub contains_at : {A : Type 0} (p : Program) (field : ModelPoint → List A) (q : ℕ) (x : ModelPoint) (xs : List A) (y : A) → slice_get p.points.items q ≡ Some x
    → xs ≡ field x → Contains xs y → Contains (of_point p [] field q) y
contains_at p field q x xs y e same h = subst (λ (zs : List _). Contains zs y) (same ∙ sym (of_point_is p [] field q x e)) h

-- numbers below a bound
in_below : (n q : ℕ) → q < n → Contains (below n) q
in_below zero q lt = absurd (omega (arith, lt))
in_below (suc n) q lt = elim (cases_lt q n) [
  | inl less ↦ Contains-append_left (below n) (n ∷ []) q (in_below n q less)
  | inr ge ↦
      let e : n ≡ q = omega (arith, lt, ge) in
      Contains-append_right (below n) (n ∷ []) q (0, lit< tt, e)
]

-- an element that passes a filter's test
here : (x : ℕ) (xs : List ℕ) → Contains (x ∷ xs) x
here x xs = (0, omega arith, refl)

there : (y : ℕ) (xs : List ℕ) (x : ℕ) → Contains xs x → Contains (y ∷ xs) x
there y xs x (k, l, e) = (suc k, omega (arith, l), e)

first_or_later : (y : ℕ) (xs : List ℕ) (x : ℕ) → Contains (y ∷ xs) x → (y ≡ x) ⊎ Contains xs x
first_or_later y xs x (zero, l, e) = inl e
first_or_later y xs x (suc k, l, e) = inr (k, omega (arith, l), e)

filtered : (test : ℕ → Bool) (y : ℕ) (xs : List ℕ) (x : ℕ) (b : Bool) → test y ≡ b → test x ≡ true → (y ≡ x) ⊎ Contains (filter test xs) x
    → Contains (cond b (y ∷ filter test xs) (filter test xs)) x
filtered test y xs x true e h (inl q) = subst (λ (z : ℕ). Contains (z ∷ filter test xs) x) (sym q) (here x (filter test xs))
filtered test y xs x true e h (inr c) = there y (filter test xs) x c
filtered test y xs x false e h (inl q) = let k : test y ≡ true = subst (λ (z : ℕ). test z ≡ true) (sym q) h in absurd (cc)
filtered test y xs x false e h (inr c) = c

in_filter : (test : ℕ → Bool) (xs : List ℕ) (x : ℕ) → Contains xs x → test x ≡ true → Contains (filter test xs) x
in_filter test [] x c h = c
in_filter test (y ∷ xs) x c h =
    elim (first_or_later y xs x c) as (λ _. Contains (cond (test y) (y ∷ filter test xs) (filter test xs)) x) [
      | inl q ↦ filtered test y xs x (test y) refl h (inl q)
      | inr d ↦ filtered test y xs x (test y) refl h (inr (in_filter test xs x d h))
    ]

-- a point where control arrives is one
arrives_at : (p : Program) (place : Place) (q : ℕ) → arrives p place q ≡ true → q < length p.points.items
arrives_at p place q holds =
    elim (cases_lt q (length p.points.items)) [
      | inl less ↦ less
      | inr past ↦
          let none : arrives p place q ≡ false = ap (λ (o : Option ModelPoint). point_or false (stands_at p place) o) (slice_get_past p.points.items q past) in
          absurd (cc)
    ]

pub enters_at : (p : Program) (set : List Bool) (entry q : ℕ) (place : Place) → place ≡ of_point p no_place (λ x. x.place) entry → arrives p place q ≡ true
    → Contains (entry_points (program_of p set) entry) q
enters_at p set entry q place e holds =
    subst (λ (at : Place). Contains (filter (λ r. arrives p at r) (below (length p.points.items))) q) e
    (in_filter (λ r. arrives p place r) (below (length p.points.items)) q (in_below (length p.points.items) q (arrives_at p place q holds)) holds)

-- a sum in place of one of its parts
pub sum_at : (o : Option ℕ) (x y : ℕ) → x ≡ y → IfSome o (λ z. z ≡ x) → IfSome o (λ z. z ≡ y)
sum_at None x y e h = h
sum_at (Some z) x y e h = h ∙ e
