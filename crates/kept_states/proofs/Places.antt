-- The points that are reached, by their places.
use Rattle.std.proofs.Common.{◌≡◌, ◌≢◌, ℕ, zero, suc, ◌+◌, ◌-◌, ◌<◌, ◌≤◌, true, false, List, [], ◌∷◌, ◌++◌, ◌⊎◌, inl, inr, Option, Some, None, IsSome, All, Contains, replicate, length, map, take, drop, get_or, set, slice_get, refl, ap, sym, ◌∙◌, subst, arith, length-append, length-set, get_or-set_same, get_or-set_other}
use Rattle.std.specs.Prelude.{nat_lt}
use Rattle.std.proofs.lemmas.List.{get_or-map, length-map, length-take-le, take-append-le, length-drop, get_or-take, get_or-drop, get_or_past, set-get_or, ext_get_or}
use Rattle.std.proofs.lemmas.Option.{slice_get-get_or, slice_get_past, slice_get_within}
use Rattle.std.proofs.lemmas.List.{get_or-replicate, length-replicate}
use Rattle.std.proofs.lemmas.List.Elements.{All-push}
use Rattle.std.proofs.lemmas.Grind.{get_or_default_zero}
use Rattle.state_defs.specs.declared.state.State.{State}
use Rattle.state_defs.specs.Order.{lesser}
use Rattle.state_defs.specs.State.{initial}
use Rattle.machine_defs.specs.Kept.{kept_or}
use Rattle.kept_states.specs.LevelStates.{at, after_offer, is_one, count_some, count_open}
use Rattle.kept_states.specs.Reached.{nowhere, kept_at, offered_at, AreReached}

-- what a list has at a point after a write
pub at_same : (xs : List (Option State)) (q : ℕ) (o : Option State) → q < length xs → at (set xs q o) q ≡ o
at_same xs q o h = rw get_or-set_same refl

pub at_other : (xs : List (Option State)) (q r : ℕ) (o : Option State) → r ≢ q → at (set xs q o) r ≡ at xs r
at_other xs q r o h = rw get_or-set_other refl

pub same_or_not : (q r : ℕ) → (r ≡ q) ⊎ (r ≢ q)
same_or_not q r = grind arith

some_is_few : (xs : List (Option State)) → count_some xs ≤ length xs
some_is_few [] = omega arith
some_is_few (None ∷ xs) = let h : count_some xs ≤ length xs = some_is_few xs in omega (arith, h)
some_is_few (Some s ∷ xs) = let h : count_some xs ≤ length xs = some_is_few xs in omega (arith, h)

-- a write changes the count by what it replaces
count_some-set : (xs : List (Option State)) (q : ℕ) (o : Option State) → q < length xs → count_some (set xs q o) + is_one (at xs q) ≡ count_some xs + is_one o
count_some-set [] q o h = absurd (omega (arith, h))
count_some-set (x ∷ xs) zero o h = omega arith
count_some-set (x ∷ xs) (suc q) o h = let k : count_some (set xs q o) + is_one (at xs q) ≡ count_some xs + is_one o = count_some-set xs q o (omega (arith, h)) in omega (arith, k)

-- there is room for a point that has no state
room_for_new : (xs : List (Option State)) (q : ℕ) → q < length xs → at xs q ≡ None → count_some xs < length xs
room_for_new xs q h none =
    let e : count_some (set xs q (Some initial)) + is_one (at xs q) ≡ count_some xs + 1 = count_some-set xs q (Some initial) h in
    let f : is_one (at xs q) ≡ 0 = ap is_one none in
    let g : count_some (set xs q (Some initial)) ≤ length (set xs q (Some initial)) = some_is_few (set xs q (Some initial)) in
    let l : length (set xs q (Some initial)) ≡ length xs = length-set xs q (Some initial) in
    omega (arith, e, f, g, l)

-- a point has a state or is open
open_or_some : (xs : List (Option State)) → count_open xs + count_some xs ≡ length xs
open_or_some [] = refl
open_or_some (None ∷ xs) = let h : count_open xs + count_some xs ≡ length xs = open_or_some xs in omega (arith, h)
open_or_some (Some s ∷ xs) = let h : count_open xs + count_some xs ≡ length xs = open_or_some xs in omega (arith, h)

-- what lists made by places have at a point
pub at-map : (f : ℕ → Option State) (places : List ℕ) (q : ℕ) → q < length places → at (map f places) q ≡ f (get_or places q 0)
at-map f places q h = get_or-map f places q 0 None h

pub at_past : (f : ℕ → Option State) (places : List ℕ) (q : ℕ) → length places ≤ q → at (map f places) q ≡ None
at_past f places q h = let l : length (map f places) ≤ q = rw length-map h in get_or_past (map f places) q None l

pub within : (q n : ℕ) → (q < n) ⊎ (n ≤ q)
within q n = grind arith

-- lists made by the same places are equal where they are at each point
map_same : (f g : ℕ → Option State) (places : List ℕ) → ((p : ℕ) → f p ≡ g p) → map f places ≡ map g places
map_same f g [] h = refl
map_same f g (p ∷ places) h = ap (λ (o : Option State). o ∷ map f places) (h p) ∙ ap (λ (os : List (Option State)). g p ∷ os) (map_same f g places h)

-- the state at a place below a bound, and at another
pub below : (kept : ℕ) (states : List State) (p : ℕ) → p < kept → kept_at kept states p ≡ slice_get states p
below kept states p h = let e : nat_lt p kept ≡ true = grind arith in rw e refl

pub not_below : (kept : ℕ) (states : List State) (p : ℕ) → kept ≤ p → kept_at kept states p ≡ None
not_below kept states p h = let e : nat_lt p kept ≡ false = grind arith in rw e refl

from_bound : (kept : ℕ) (states : List State) (p : ℕ) → kept ≤ p → offered_at kept states p ≡ slice_get states p
from_bound kept states p h = let e : nat_lt p kept ≡ false = grind arith in rw e refl

not_from : (kept : ℕ) (states : List State) (p : ℕ) → p < kept → offered_at kept states p ≡ None
not_from kept states p h = let e : nat_lt p kept ≡ true = grind arith in rw e refl

-- where all are kept
all_below : (states : List State) (p : ℕ) → kept_at (length states) states p ≡ slice_get states p
all_below states p = elim (within p (length states)) [ inl h ↦ below (length states) states p h | inr h ↦ not_below (length states) states p h ∙ sym (slice_get_past states p h) ]

none_from : (states : List State) (p : ℕ) → offered_at (length states) states p ≡ None
none_from states p = elim (within p (length states)) [ inl h ↦ not_from (length states) states p h | inr h ↦ from_bound (length states) states p h ∙ slice_get_past states p h ]

both : (kept : ℕ) (states : List State) (p : ℕ) → slice_get states p ≡ kept_or (kept_at kept states p) (offered_at kept states p)
both kept states p = elim (within p kept) [
  | inl h ↦ rw (below kept states p h, not_from kept states p h) (alone (slice_get states p))
  | inr h ↦ rw (not_below kept states p h, from_bound kept states p h) refl
]
  where
    alone : (o : Option State) → o ≡ kept_or o None
    alone None = refl
    alone (Some s) = refl

-- the states of a list after a write, and after one is put behind the others
slice_get-set_same : (xs : List State) (i : ℕ) (s : State) → i < length xs → slice_get (set xs i s) i ≡ Some s
slice_get-set_same [] i s h = absurd (omega (arith, h))
slice_get-set_same (x ∷ xs) zero s h = refl
slice_get-set_same (x ∷ xs) (suc i) s h = slice_get-set_same xs i s (omega (arith, h))

slice_get-set_other : (xs : List State) (i j : ℕ) (s : State) → j ≢ i → slice_get (set xs i s) j ≡ slice_get xs j
slice_get-set_other [] i j s h = refl
slice_get-set_other (x ∷ xs) zero zero s h = absurd (h refl)
slice_get-set_other (x ∷ xs) zero (suc j) s h = refl
slice_get-set_other (x ∷ xs) (suc i) zero s h = refl
slice_get-set_other (x ∷ xs) (suc i) (suc j) s h = slice_get-set_other xs i j s (λ e. h (ap suc e))

slice_get-append_new : (xs : List State) (s : State) → slice_get (xs ++ s ∷ []) (length xs) ≡ Some s
slice_get-append_new [] s = refl
slice_get-append_new (x ∷ xs) s = slice_get-append_new xs s

slice_get-append_other : (xs : List State) (j : ℕ) (s : State) → j ≢ length xs → slice_get (xs ++ s ∷ []) j ≡ slice_get xs j
slice_get-append_other [] zero s h = absurd (h refl)
slice_get-append_other [] (suc j) s h = refl
slice_get-append_other (x ∷ xs) zero s h = refl
slice_get-append_other (x ∷ xs) (suc j) s h = slice_get-append_other xs j s (λ e. h (ap suc e))

get_or-append_new : (xs : List ℕ) (n : ℕ) → get_or (xs ++ n ∷ []) (length xs) 0 ≡ n
get_or-append_new [] n = refl
get_or-append_new (x ∷ xs) n = get_or-append_new xs n

get_or-append_other : (xs : List ℕ) (j n : ℕ) → j < length xs → get_or (xs ++ n ∷ []) j 0 ≡ get_or xs j 0
get_or-append_other [] j n h = absurd (omega (arith, h))
get_or-append_other (x ∷ xs) zero n h = refl
get_or-append_other (x ∷ xs) (suc j) n h = get_or-append_other xs j n (omega (arith, h))

-- two lists by points are equal where they are at each point
same_lists : (xs ys : List (Option State)) → length xs ≡ length ys → ((q : ℕ) → q < length xs → at xs q ≡ at ys q) → xs ≡ ys
same_lists xs ys l h = ext_get_or None xs ys l h

-- where no point is reached
map_none : (f : ℕ → Option State) → ((p : ℕ) → f p ≡ None) → (n x : ℕ) → map f (replicate n x) ≡ replicate n None
map_none f h zero x = refl
map_none f h (suc n) x = ap (λ (o : Option State). o ∷ map f (replicate n x)) (h x) ∙ ap (λ (os : List (Option State)). None ∷ os) (map_none f h n x)

none_counted : (n : ℕ) → count_some (replicate n None) ≡ 0
none_counted zero = refl
none_counted (suc n) = let h : count_some (replicate n None) ≡ 0 = none_counted n in omega (arith, h)

pub no_kept : (n : ℕ) → map (kept_at 0 []) (replicate n nowhere) ≡ replicate n None
no_kept n = map_none (kept_at 0 []) (λ p. not_below 0 [] p (omega arith)) n nowhere

pub none_reached : (n : ℕ) → n < 4294967296 → AreReached (replicate n nowhere) [] [] 0
none_reached n few = record {
  few = let l : length (replicate n nowhere) ≡ n = length-replicate n nowhere in omega (arith, l, few);
  long = refl;
  ordered = omega arith;
  back = λ i h. absurd (omega (arith, h));
  points = λ k d h. absurd (omega (arith, h));
  placed = λ q h. inl (get_or-replicate n q nowhere 0 (let l : length (replicate n nowhere) ≡ n = length-replicate n nowhere in omega (arith, l, h)));
  kept_count = ap count_some (no_kept n) ∙ none_counted n;
  count = ap count_some (map_none (slice_get []) (λ p. refl) n nowhere) ∙ none_counted n;
}

-- a point of a list made by places has a place, and which that is
pub point_inside : (places : List ℕ) (f : ℕ → Option State) (n : ℕ) → n < length (map f places) → n < length places
point_inside places f n h = let l : length (map f places) ≡ length places = length-map places f in omega (arith, l, h)

pub read_place : (places : List ℕ) (n p : ℕ) → n < length places → p ≡ get_or places n p → p ≡ get_or places n 0
read_place places n p h e = e ∙ get_or_default_zero places n p h

-- how many are in front where all are kept
pub front_length : (kept : ℕ) (reached : List ℕ) → length (drop kept (take (length reached) reached)) ≡ length reached - kept
front_length kept reached = length-drop kept (take (length reached) reached) ∙ ap (λ (n : ℕ). n - kept) (length-take-le (length reached) reached (omega arith))

module _ (places reached : List ℕ) (states : List State) (kept : ℕ) (are : AreReached places reached states kept) where
  -- at most all points are reached
  pub reached_few : length reached ≤ length places
  reached_few =
      let h : count_some (map (slice_get states) places) ≤ length (map (slice_get states) places) = some_is_few (map (slice_get states) places) in
      let l : length (map (slice_get states) places) ≡ length places = length-map places (slice_get states) in
      omega (arith, h, l, are.count)

  -- the place of a point that has a state
  placed_at : (q : ℕ) → q < length places → get_or places q 0 < length states → get_or reached (get_or places q 0) 0 ≡ q
  placed_at q h inside = elim (are.placed q h) [
    | inl e ↦ absurd (omega (arith, e, inside, are.few, are.long, reached_few))
    | inr r ↦ r.1
  ]

  -- No two points have one place.
  apart : (q r : ℕ) → q < length places → r < length places → get_or places q 0 < length states → r ≢ q → get_or places r 0 ≢ get_or places q 0
  apart q r qin rin inside ne e =
      let a : get_or reached (get_or places q 0) 0 ≡ q = placed_at q qin inside in
      let b : get_or reached (get_or places r 0) 0 ≡ r = placed_at r rin (omega (arith, e, inside)) in
      ne (sym b ∙ (ap (λ (p : ℕ). get_or reached p 0) e ∙ a))

  -- from one level to the next
  pub kept_then : (q : ℕ) → at (map (kept_at (length reached) states) places) q ≡ kept_or (at (map (kept_at kept states) places) q) (at (map (offered_at kept states) places) q)
  kept_then q = elim (within q (length places)) [
    | inl h ↦ rw (at-map (kept_at (length reached) states) places q h, at-map (kept_at kept states) places q h, at-map (offered_at kept states) places q h, sym are.long, all_below states (get_or places q 0)) (both kept states (get_or places q 0))
    | inr h ↦ rw (at_past (kept_at (length reached) states) places q h, at_past (kept_at kept states) places q h, at_past (offered_at kept states) places q h) refl
  ]

  pub none_then : (q : ℕ) → at (map (offered_at (length reached) states) places) q ≡ None
  none_then q = elim (within q (length places)) [
    | inl h ↦ rw (at-map (offered_at (length reached) states) places q h, sym are.long) (none_from states (get_or places q 0))
    | inr h ↦ at_past (offered_at (length reached) states) places q h
  ]

  pub in_front_then : (q : ℕ) → IsSome (at (map (offered_at kept states) places) q) → Contains (drop kept (take (length reached) reached)) q
  in_front_then q some = elim (within q (length places)) [ inl h ↦ here h (within (get_or places q 0) kept) | inr h ↦ absurd (none (at_past (offered_at kept states) places q h)) ]
    where
      none : at (map (offered_at kept states) places) q ≡ None → ⊥
      none e = let k : IsSome {T = State} None = subst IsSome e some in let z : ⊥ = cc in z

      here : q < length places → (get_or places q 0 < kept) ⊎ (kept ≤ get_or places q 0) → Contains (drop kept (take (length reached) reached)) q
      here h (inl b) = absurd (none (at-map (offered_at kept states) places q h ∙ not_from kept states (get_or places q 0) b))
      here h (inr b) = found (within (get_or places q 0) (length states))
        where
          found : (get_or places q 0 < length states) ⊎ (length states ≤ get_or places q 0) → Contains (drop kept (take (length reached) reached)) q
          found (inr past) = absurd (none (at-map (offered_at kept states) places q h ∙ (from_bound kept states (get_or places q 0) b ∙ slice_get_past states (get_or places q 0) past)))
          found (inl inside) =
              let p : ℕ = get_or places q 0 in
              let e : kept + (p - kept) ≡ p = omega (arith, b) in
              let l : p < length reached = omega (arith, inside, are.long) in
              let n : length (take (length reached) reached) ≡ length reached = length-take-le (length reached) reached (omega arith) in
              let m : length (drop kept (take (length reached) reached)) ≡ length (take (length reached) reached) - kept = length-drop kept (take (length reached) reached) in
              (p - kept, omega (arith, m, n, l, b), get_or-drop kept (take (length reached) reached) (p - kept) q ∙ (ap (λ (i : ℕ). get_or (take (length reached) reached) i q) e ∙ (get_or-take (length reached) reached p q l ∙ (get_or_default_zero reached p q l ∙ placed_at q h inside))))

  kept_count_then : count_some (map (kept_at (length reached) states) places) ≡ length reached
  kept_count_then = ap count_some (map_same (kept_at (length reached) states) (slice_get states) places (λ p. subst (λ (n : ℕ). kept_at n states p ≡ slice_get states p) are.long (all_below states p))) ∙ are.count

  pub fewer : count_open (map (kept_at (length reached) states) places) + (length reached - kept) ≡ count_open (map (kept_at kept states) places)
  fewer =
      let a : count_open (map (kept_at kept states) places) + count_some (map (kept_at kept states) places) ≡ length (map (kept_at kept states) places) = open_or_some (map (kept_at kept states) places) in
      let b : count_open (map (kept_at (length reached) states) places) + count_some (map (kept_at (length reached) states) places) ≡ length (map (kept_at (length reached) states) places) = open_or_some (map (kept_at (length reached) states) places) in
      let l : length (map (kept_at kept states) places) ≡ length places = length-map places (kept_at kept states) in
      let m : length (map (kept_at (length reached) states) places) ≡ length places = length-map places (kept_at (length reached) states) in
      omega (arith, a, b, l, m, are.kept_count, kept_count_then, are.ordered)

  pub advanced : AreReached places reached states (length reached)
  advanced = record {
    few = are.few;
    long = are.long;
    ordered = omega arith;
    back = are.back;
    points = are.points;
    placed = are.placed;
    kept_count = kept_count_then;
    count = are.count;
  }

  module _ (n : ℕ) (s : State) (inside : n < length places) where
    -- one point has another state, and the others what they had
    one_more : (f new : ℕ → Option State) (moved : List ℕ) (o : Option State) → length moved ≡ length places → new (get_or moved n 0) ≡ o → ((r : ℕ) → r < length places → r ≢ n → new (get_or moved r 0) ≡ f (get_or places r 0)) → map new moved ≡ set (map f places) n o
    one_more f new moved o long here others = same_lists (map new moved) (set (map f places) n o) (new_length ∙ sym set_length) one
      where
        new_length : length (map new moved) ≡ length places
        new_length = length-map moved new ∙ long

        set_length : length (set (map f places) n o) ≡ length places
        set_length = length-set (map f places) n o ∙ length-map places f

        one : (r : ℕ) → r < length (map new moved) → at (map new moved) r ≡ at (set (map f places) n o) r
        one r k = elim (same_or_not n r) [
          | inl e ↦ subst (λ (x : ℕ). at (map new moved) x ≡ at (set (map f places) n o) x) (sym e) (at-map new moved n (omega (arith, inside, long)) ∙ (here ∙ sym (at_same (map f places) n o (let l : length (map f places) ≡ length places = length-map places f in omega (arith, l, inside)))))
          | inr ne ↦ let l : r < length places = omega (arith, k, new_length) in at-map new moved r (omega (arith, l, long)) ∙ (others r l ne ∙ sym (at_other (map f places) n r o ne ∙ at-map f places r l))
        ]

    -- a point that is kept is offered a state
    pub leaves_kept : get_or places n 0 < kept → map (offered_at kept states) places ≡ set (map (offered_at kept states) places) n (after_offer (at (map (kept_at kept states) places) n) (at (map (offered_at kept states) places) n) s)
    leaves_kept h =
        let l : get_or places n 0 < length states = omega (arith, h, are.long, are.ordered) in
        let a : at (map (kept_at kept states) places) n ≡ Some (get_or states (get_or places n 0) initial) = at-map (kept_at kept states) places n inside ∙ (below kept states (get_or places n 0) h ∙ slice_get-get_or states (get_or places n 0) initial l) in
        rw a (sym (set-get_or (map (offered_at kept states) places) n None))

    -- one that isn't
    pub none_kept : kept ≤ get_or places n 0 → at (map (kept_at kept states) places) n ≡ None
    none_kept h = at-map (kept_at kept states) places n inside ∙ not_below kept states (get_or places n 0) h

    what_was_offered : kept ≤ get_or places n 0 → at (map (offered_at kept states) places) n ≡ slice_get states (get_or places n 0)
    what_was_offered h = at-map (offered_at kept states) places n inside ∙ from_bound kept states (get_or places n 0) h

    -- one that isn't reached
    pub none_offered : length states ≤ get_or places n 0 → at (map (offered_at kept states) places) n ≡ None
    none_offered h = what_was_offered (omega (arith, h, are.long, are.ordered)) ∙ slice_get_past states (get_or places n 0) h

    pub not_reached : at (map (kept_at kept states) places) n ≡ None → at (map (offered_at kept states) places) n ≡ None → length states ≤ get_or places n 0
    not_reached not_kept not_offered = elim (within (get_or places n 0) (length states)) [
      | inl l ↦ absurd (
          let place : ℕ = get_or places n 0 in
          let k : kept_at kept states place ≡ None = sym (at-map (kept_at kept states) places n inside) ∙ not_kept in
          let o : offered_at kept states place ≡ None = sym (at-map (offered_at kept states) places n inside) ∙ not_offered in
          let some : slice_get states place ≡ Some (get_or states place initial) = slice_get-get_or states place initial l in
          let none : slice_get states place ≡ None = both kept states place ∙ rw (k, o) refl in
          let z : ⊥ = cc in
          z)
      | inr h ↦ h
    ]

    -- one that was offered another before
    module _ (h : kept ≤ get_or places n 0) (best t : State) (was : slice_get states (get_or places n 0) ≡ Some best) where
      l : get_or places n 0 < length states
      l = slice_get_within states (get_or places n 0) best was

      others_as_before : (r : ℕ) → r < length places → r ≢ n → slice_get (set states (get_or places n 0) t) (get_or places r 0) ≡ slice_get states (get_or places r 0)
      others_as_before r rin ne = slice_get-set_other states (get_or places n 0) (get_or places r 0) t (apart n r inside rin l ne)

      pub kept_same : map (kept_at kept (set states (get_or places n 0) t)) places ≡ map (kept_at kept states) places
      kept_same = map_same (kept_at kept (set states (get_or places n 0) t)) (kept_at kept states) places one
        where
          one : (p : ℕ) → kept_at kept (set states (get_or places n 0) t) p ≡ kept_at kept states p
          one p = elim (within p kept) [
            | inl b ↦ below kept (set states (get_or places n 0) t) p b ∙ (slice_get-set_other states (get_or places n 0) p t (λ e. absurd (omega (arith, b, e, h))) ∙ sym (below kept states p b))
            | inr b ↦ not_below kept (set states (get_or places n 0) t) p b ∙ sym (not_below kept states p b)
          ]

      offered_same : map (offered_at kept (set states (get_or places n 0) t)) places ≡ set (map (offered_at kept states) places) n (Some t)
      offered_same = one_more (offered_at kept states) (offered_at kept (set states (get_or places n 0) t)) places (Some t) refl (from_bound kept (set states (get_or places n 0) t) (get_or places n 0) h ∙ slice_get-set_same states (get_or places n 0) t l) (λ r rin ne. go r rin ne (within (get_or places r 0) kept))
        where
          go : (r : ℕ) → r < length places → r ≢ n → (get_or places r 0 < kept) ⊎ (kept ≤ get_or places r 0) → offered_at kept (set states (get_or places n 0) t) (get_or places r 0) ≡ offered_at kept states (get_or places r 0)
          go r rin ne (inl b) = not_from kept (set states (get_or places n 0) t) (get_or places r 0) b ∙ sym (not_from kept states (get_or places r 0) b)
          go r rin ne (inr b) = from_bound kept (set states (get_or places n 0) t) (get_or places r 0) b ∙ (others_as_before r rin ne ∙ sym (from_bound kept states (get_or places r 0) b))

      pub offered_better : t ≡ lesser best s → map (offered_at kept (set states (get_or places n 0) t)) places ≡ set (map (offered_at kept states) places) n (after_offer (at (map (kept_at kept states) places) n) (at (map (offered_at kept states) places) n) s)
      offered_better e = rw (none_kept h, what_was_offered h, was, sym e) offered_same

      pub better_reached : AreReached places reached (set states (get_or places n 0) t) kept
      better_reached = record {
        few = are.few;
        long = length-set states (get_or places n 0) t ∙ are.long;
        ordered = are.ordered;
        back = are.back;
        points = are.points;
        placed = are.placed;
        kept_count = ap count_some kept_same ∙ are.kept_count;
        count = count;
      }
        where
          count : count_some (map (slice_get (set states (get_or places n 0) t)) places) ≡ length reached
          count =
              let e : map (slice_get (set states (get_or places n 0) t)) places ≡ set (map (slice_get states) places) n (Some t) =
              one_more (slice_get states) (slice_get (set states (get_or places n 0) t)) places (Some t) refl (slice_get-set_same states (get_or places n 0) t l) others_as_before in
              let k : n < length (map (slice_get states) places) = let m : length (map (slice_get states) places) ≡ length places = length-map places (slice_get states) in omega (arith, m, inside) in
              let c : count_some (set (map (slice_get states) places) n (Some t)) + is_one (at (map (slice_get states) places) n) ≡ count_some (map (slice_get states) places) + 1 = count_some-set (map (slice_get states) places) n (Some t) k in
              let o : is_one (at (map (slice_get states) places) n) ≡ 1 = ap is_one (at-map (slice_get states) places n inside ∙ was) in
              let d : count_some (map (slice_get (set states (get_or places n 0) t)) places) ≡ count_some (set (map (slice_get states) places) n (Some t)) = ap count_some e in
              omega (arith, c, o, d, are.count)

    -- and one that was offered none
    module _ (h : length states ≤ get_or places n 0) where
      past_all : length states ≤ get_or places n 0
      past_all = h

      past : kept ≤ get_or places n 0
      past = omega (arith, h, are.ordered, are.long)

      no_state : at (map (slice_get states) places) n ≡ None
      no_state = at-map (slice_get states) places n inside ∙ slice_get_past states (get_or places n 0) h

      in_all : n < length (map (slice_get states) places)
      in_all = let m : length (map (slice_get states) places) ≡ length places = length-map places (slice_get states) in omega (arith, m, inside)

      pub has_room : length reached < length places
      has_room =
          let r : count_some (map (slice_get states) places) < length (map (slice_get states) places) = room_for_new (map (slice_get states) places) n in_all no_state in
          let m : length (map (slice_get states) places) ≡ length places = length-map places (slice_get states) in
          omega (arith, r, m, are.count)

      its_place : get_or (set places n (length states)) n 0 ≡ length states
      its_place = get_or-set_same places n (length states) 0 inside

      other_place : (r : ℕ) → r ≢ n → get_or (set places n (length states)) r 0 ≡ get_or places r 0
      other_place r ne = get_or-set_other places n r (length states) 0 ne

      not_its : (r : ℕ) → r < length places → get_or places r 0 ≢ length states
      not_its r rin e = elim (are.placed r rin) [
        | inl k ↦ absurd (omega (arith, e, k, has_room, are.few, are.long))
        | inr k ↦ absurd (omega (arith, e, k.0, are.long))
      ]

      others_too : (r : ℕ) → r < length places → r ≢ n → slice_get (states ++ s ∷ []) (get_or (set places n (length states)) r 0) ≡ slice_get states (get_or places r 0)
      others_too r rin ne = ap (slice_get (states ++ s ∷ [])) (other_place r ne) ∙ slice_get-append_other states (get_or places r 0) s (not_its r rin)

      it_too : slice_get (states ++ s ∷ []) (get_or (set places n (length states)) n 0) ≡ Some s
      it_too = ap (slice_get (states ++ s ∷ [])) its_place ∙ slice_get-append_new states s

      it_past : kept ≤ get_or (set places n (length states)) n 0
      it_past = omega (arith, its_place, are.ordered, are.long)

      moved_length : length (set places n (length states)) ≡ length places
      moved_length = length-set places n (length states)

      pub kept_too : map (kept_at kept (states ++ s ∷ [])) (set places n (length states)) ≡ map (kept_at kept states) places
      kept_too = one_more (kept_at kept states) (kept_at kept (states ++ s ∷ [])) (set places n (length states)) None moved_length (not_below kept (states ++ s ∷ []) (get_or (set places n (length states)) n 0) it_past) (λ r rin ne. go r rin ne (within (get_or places r 0) kept)) ∙ (ap (set (map (kept_at kept states) places) n) (sym (none_kept past)) ∙ set-get_or (map (kept_at kept states) places) n None)
        where
          go : (r : ℕ) → r < length places → r ≢ n → (get_or places r 0 < kept) ⊎ (kept ≤ get_or places r 0) → kept_at kept (states ++ s ∷ []) (get_or (set places n (length states)) r 0) ≡ kept_at kept states (get_or places r 0)
          go r rin ne (inl b) = below kept (states ++ s ∷ []) (get_or (set places n (length states)) r 0) (let e : get_or (set places n (length states)) r 0 ≡ get_or places r 0 = other_place r ne in omega (arith, e, b)) ∙ (others_too r rin ne ∙ sym (below kept states (get_or places r 0) b))
          go r rin ne (inr b) = not_below kept (states ++ s ∷ []) (get_or (set places n (length states)) r 0) (let e : get_or (set places n (length states)) r 0 ≡ get_or places r 0 = other_place r ne in omega (arith, e, b)) ∙ sym (not_below kept states (get_or places r 0) b)

      pub offered_too : map (offered_at kept (states ++ s ∷ [])) (set places n (length states)) ≡ set (map (offered_at kept states) places) n (after_offer (at (map (kept_at kept states) places) n) (at (map (offered_at kept states) places) n) s)
      offered_too =
          let m : map (offered_at kept (states ++ s ∷ [])) (set places n (length states)) ≡ set (map (offered_at kept states) places) n (Some s) =
          one_more (offered_at kept states) (offered_at kept (states ++ s ∷ [])) (set places n (length states)) (Some s) moved_length (from_bound kept (states ++ s ∷ []) (get_or (set places n (length states)) n 0) it_past ∙ it_too) (λ r rin ne. go r rin ne (within (get_or places r 0) kept)) in
          let e : slice_get states (get_or places n 0) ≡ None = slice_get_past states (get_or places n 0) h in
          rw (none_kept past, what_was_offered past, e) m
        where
          go : (r : ℕ) → r < length places → r ≢ n → (get_or places r 0 < kept) ⊎ (kept ≤ get_or places r 0) → offered_at kept (states ++ s ∷ []) (get_or (set places n (length states)) r 0) ≡ offered_at kept states (get_or places r 0)
          go r rin ne (inl b) = not_from kept (states ++ s ∷ []) (get_or (set places n (length states)) r 0) (let e : get_or (set places n (length states)) r 0 ≡ get_or places r 0 = other_place r ne in omega (arith, e, b)) ∙ sym (not_from kept states (get_or places r 0) b)
          go r rin ne (inr b) = from_bound kept (states ++ s ∷ []) (get_or (set places n (length states)) r 0) (let e : get_or (set places n (length states)) r 0 ≡ get_or places r 0 = other_place r ne in omega (arith, e, b)) ∙ (others_too r rin ne ∙ sym (from_bound kept states (get_or places r 0) b))

      pub front_too : (from to : ℕ) → to ≤ length reached → drop from (take to (reached ++ n ∷ [])) ≡ drop from (take to reached)
      front_too from to h = ap (drop from) (take-append-le to reached (n ∷ []) h)

      -- each place has the point behind
      back : (i : ℕ) → i < length (reached ++ n ∷ []) → get_or (set places n (length states)) (get_or (reached ++ n ∷ []) i 0) 0 ≡ i
      back i k = elim (within i (length reached)) [ inl h ↦ old h | inr h ↦ new (let e : length (reached ++ n ∷ []) ≡ length reached + 1 = length-append reached (n ∷ []) in omega (arith, h, k, e)) ]
        where
          old : i < length reached → get_or (set places n (length states)) (get_or (reached ++ n ∷ []) i 0) 0 ≡ i
          old h =
              let r : get_or places (get_or reached i 0) 0 ≡ i = are.back i h in
              let e : get_or (reached ++ n ∷ []) i 0 ≡ get_or reached i 0 = get_or-append_other reached i n h in
              let ne : get_or reached i 0 ≢ n = λ same. let x : get_or places n 0 ≡ i = subst (λ (q : ℕ). get_or places q 0 ≡ i) same r in absurd (omega (arith, x, past_all, h, are.long)) in
              ap (λ (q : ℕ). get_or (set places n (length states)) q 0) e ∙ (other_place (get_or reached i 0) ne ∙ r)

          new : i ≡ length reached → get_or (set places n (length states)) (get_or (reached ++ n ∷ []) i 0) 0 ≡ i
          new e =
              let x : get_or (reached ++ n ∷ []) i 0 ≡ n = ap (λ (j : ℕ). get_or (reached ++ n ∷ []) j 0) e ∙ get_or-append_new reached n in
              ap (λ (q : ℕ). get_or (set places n (length states)) q 0) x ∙ (its_place ∙ (are.long ∙ sym e))

      pub new_reached : AreReached (set places n (length states)) (reached ++ n ∷ []) (states ++ s ∷ []) kept
      new_reached = record {
        few = omega (arith, moved_length, are.few);
        long = length-append states (s ∷ []) ∙ (ap (λ (k : ℕ). k + 1) are.long ∙ sym (length-append reached (n ∷ [])));
        ordered = let e : length (reached ++ n ∷ []) ≡ length reached + 1 = length-append reached (n ∷ []) in omega (arith, e, are.ordered);
        back = back;
        points = points;
        placed = placed;
        kept_count = ap count_some kept_too ∙ are.kept_count;
        count = count;
      }
        where
          points : All (λ q. q < length (set places n (length states))) (reached ++ n ∷ [])
          points = rw moved_length (All-push (λ (q : ℕ). q < length places) reached n are.points inside)

          placed : (q : ℕ) → q < length (set places n (length states)) → (get_or (set places n (length states)) q 0 ≡ nowhere) ⊎ ((get_or (set places n (length states)) q 0 < length (reached ++ n ∷ [])) × (get_or (reached ++ n ∷ []) (get_or (set places n (length states)) q 0) 0 ≡ q))
          placed q k =
              let e : length (reached ++ n ∷ []) ≡ length reached + 1 = length-append reached (n ∷ []) in
              elim (same_or_not n q) [
                | inl same ↦ subst (λ (x : ℕ). (get_or (set places n (length states)) x 0 ≡ nowhere) ⊎ ((get_or (set places n (length states)) x 0 < length (reached ++ n ∷ [])) × (get_or (reached ++ n ∷ []) (get_or (set places n (length states)) x 0) 0 ≡ x))) (sym same) (inr (omega (arith, its_place, e, are.long), ap (λ (p : ℕ). get_or (reached ++ n ∷ []) p 0) (its_place ∙ are.long) ∙ get_or-append_new reached n))
                | inr ne ↦ other q (omega (arith, k, moved_length)) ne e (are.placed q (omega (arith, k, moved_length)))
              ]
            where
              other : (q : ℕ) → q < length places → q ≢ n → length (reached ++ n ∷ []) ≡ length reached + 1 → (get_or places q 0 ≡ nowhere) ⊎ ((get_or places q 0 < length reached) × (get_or reached (get_or places q 0) 0 ≡ q)) → (get_or (set places n (length states)) q 0 ≡ nowhere) ⊎ ((get_or (set places n (length states)) q 0 < length (reached ++ n ∷ [])) × (get_or (reached ++ n ∷ []) (get_or (set places n (length states)) q 0) 0 ≡ q))
              other q qin ne e (inl k) = inl (other_place q ne ∙ k)
              other q qin ne e (inr k) = inr (let m : get_or (set places n (length states)) q 0 ≡ get_or places q 0 = other_place q ne in omega (arith, m, e, k.0), ap (λ (p : ℕ). get_or (reached ++ n ∷ []) p 0) (other_place q ne) ∙ (get_or-append_other reached (get_or places q 0) n k.0 ∙ k.1))

          count : count_some (map (slice_get (states ++ s ∷ [])) (set places n (length states))) ≡ length (reached ++ n ∷ [])
          count =
              let e : map (slice_get (states ++ s ∷ [])) (set places n (length states)) ≡ set (map (slice_get states) places) n (Some s) =
              one_more (slice_get states) (slice_get (states ++ s ∷ [])) (set places n (length states)) (Some s) moved_length it_too others_too in
              let c : count_some (set (map (slice_get states) places) n (Some s)) + is_one (at (map (slice_get states) places) n) ≡ count_some (map (slice_get states) places) + 1 = count_some-set (map (slice_get states) places) n (Some s) in_all in
              let o : is_one (at (map (slice_get states) places) n) ≡ 0 = ap is_one no_state in
              let d : count_some (map (slice_get (states ++ s ∷ [])) (set places n (length states))) ≡ count_some (set (map (slice_get states) places) n (Some s)) = ap count_some e in
              let l : length (reached ++ n ∷ []) ≡ length reached + 1 = length-append reached (n ∷ []) in
              omega (arith, c, o, d, l, are.count)
