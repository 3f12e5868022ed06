-- Points of level 0, in front and settled, by their places.
use Rattle.std.proofs.Common.{◌≡◌, ℕ, ◌+◌, ◌-◌, ◌<◌, ◌≤◌, Bool, true, false, ◌||◌, ◌&&◌, ◌⊎◌, ◌↔◌, inl, inr, List, Option, Some, None, IsSome, Contains, length, map, take, drop, get_or, set, slice_get, refl, ap, sym, ◌∙◌, subst, arith}
use Rattle.std.specs.Prelude.{nat_lt, nat_le}
use Rattle.std.proofs.lemmas.List.{get_or-map, get_or_past, length-map, map-set, set-get_or, length-take-le, length-drop, get_or-take, get_or-drop}
use Rattle.std.proofs.lemmas.Option.{slice_get-get_or}
use Rattle.std.proofs.lemmas.List.Elements.{All-contains}
use Rattle.std.proofs.lemmas.Grind.{get_or_default_zero}
use Rattle.state_defs.specs.declared.state.State.{State}
use Rattle.state_defs.specs.State.{initial}
use Rattle.kept_states.specs.LevelStates.{Offers, at}
use Rattle.kept_states.specs.Reached.{AreReached, kept_at, settled_at}
use Rattle.kept_states.proofs.Places.{at-map, at_past, below, not_below, reached_few, within}

-- whether a point is settled, by its place
pub settled_of : (first settled : ℕ) (places : List ℕ) (q : ℕ) → q < length places → get_or (map (settled_at first settled) places) q false ≡ settled_at first settled (get_or places q 0)
settled_of first settled places q h = get_or-map (settled_at first settled) places q 0 false h

pub behind_settled : (first settled place : ℕ) → settled ≤ place → settled_at first settled place ≡ false
behind_settled first settled place h = let e : nat_lt place settled ≡ false = grind arith in rw e (and_false (nat_le first place))
  where
    and_false : (b : Bool) → (b && false) ≡ false
    and_false true = refl
    and_false false = refl

pub or_false : (b c : Bool) → c ≡ false → b ≡ (b || c)
or_false true c e = refl
or_false false c e = sym e

-- a point behind them may move
pub settled_stay : (first settled : ℕ) (places : List ℕ) (n place : ℕ) → n < length places → settled ≤ get_or places n 0 → settled ≤ place → map (settled_at first settled) (set places n place) ≡ map (settled_at first settled) places
settled_stay first settled places n place inside was now =
    let old : get_or (map (settled_at first settled) places) n false ≡ false = settled_of first settled places n inside ∙ behind_settled first settled (get_or places n 0) was in
    let e : settled_at first settled place ≡ get_or (map (settled_at first settled) places) n false = behind_settled first settled place now ∙ sym old in
    map-set (settled_at first settled) places n place ∙ (ap (set (map (settled_at first settled) places) n) e ∙ set-get_or (map (settled_at first settled) places) n false)

-- three parts of what was offered
abbrev pub make_offers : List (Option State) → List Bool → Bool → Offers
make_offers states settled met = record { states = states; settled = settled; met = met }

pub same_offers : (a b : List (Option State)) (c d : List Bool) (e f : Bool) → a ≡ b → c ≡ d → e ≡ f → make_offers a c e ≡ make_offers b d f
same_offers a b c d e f x y z = rw (x, y, z) refl

-- which element of the rest of a list something is
pub in_drop : {X : Type 0} (xs : List X) (from : ℕ) (x : X) → Contains (drop from xs) x → (i : ℕ) × (from ≤ i) × (i < length xs) × (get_or xs i x ≡ x)
in_drop xs from x (k, l, e) = (from + k, omega arith, let n : length (drop from xs) ≡ length xs - from = length-drop from xs in omega (arith, l, n), sym (get_or-drop from xs k x) ∙ e)

-- what is behind a place is before another or behind it
pub split_drop : {X : Type 0} (xs : List X) (from to : ℕ) (x : X) → from ≤ to → to ≤ length xs → Contains (drop from xs) x → Contains (drop from (take to xs)) x ⊎ Contains (drop to xs) x
split_drop xs from to x h k c = go (in_drop xs from x c)
  where
    go : (i : ℕ) × (from ≤ i) × (i < length xs) × (get_or xs i x ≡ x) → Contains (drop from (take to xs)) x ⊎ Contains (drop to xs) x
    go (i, low, high, e) = elim (within i to) [
      | inl b ↦ inl (
        i - from,
        (let n : length (take to xs) ≡ to = length-take-le to xs k in
            let m : length (drop from (take to xs)) ≡ length (take to xs) - from = length-drop from (take to xs) in
            omega (arith, n, m, b, low)),
        get_or-drop from (take to xs) (i - from) x ∙ (ap (λ (j : ℕ). get_or (take to xs) j x) (let z : from + (i - from) ≡ i = omega (arith, low) in z) ∙ (get_or-take to xs i x b ∙ e)),
      )
      | inr b ↦ inr (
        i - to,
        (let m : length (drop to xs) ≡ length xs - to = length-drop to xs in omega (arith, m, high, b)),
        get_or-drop to xs (i - to) x ∙ (ap (λ (j : ℕ). get_or xs j x) (let z : to + (i - to) ≡ i = omega (arith, b) in z) ∙ e),
      )
    ]

pub in_part : {X : Type 0} (xs : List X) (from to : ℕ) (x : X) → to ≤ length xs → Contains (drop from (take to xs)) x → Contains xs x
in_part xs from to x k c = go (in_drop (take to xs) from x c)
  where
    go : (i : ℕ) × (from ≤ i) × (i < length (take to xs)) × (get_or (take to xs) i x ≡ x) → Contains xs x
    go (i, low, high, e) =
        let n : length (take to xs) ≡ to = length-take-le to xs k in
        let b : i < to = omega (arith, n, high) in
        (i, omega (arith, b, k), sym (get_or-take to xs i x b) ∙ e)

module _ (places reached : List ℕ) (states : List State) (kept : ℕ) (are : AreReached places reached states kept) where
  -- a place has its point
  place_of : (i q : ℕ) → i < length reached → get_or reached i q ≡ q → (q < length places) × (get_or places q 0 ≡ i)
  place_of i q h e =
      let is : get_or reached i 0 ≡ q = sym (get_or_default_zero reached i q h) ∙ e in
      (All-contains (λ (x : ℕ). x < length places) reached q are.points (i, h, e), subst (λ (x : ℕ). get_or places x 0 ≡ i) is (are.back i h))

  -- the points at the first places
  place_of_first : (b q : ℕ) → b ≤ length reached → Contains (take b reached) q → (q < length places) × (get_or places q 0 < b)
  place_of_first b q h (i, l, e) =
      let n : length (take b reached) ≡ b = length-take-le b reached h in
      let i_in : i < b = omega (arith, n, l) in
      let r = place_of i q (omega (arith, i_in, h)) (sym (get_or-take b reached i q i_in) ∙ e) in
      (r.0, let same : get_or places q 0 ≡ i = r.1 in omega (arith, same, i_in))

  pub has_point : (q : ℕ) → q < length places → get_or places q 0 < length reached → get_or reached (get_or places q 0) 0 ≡ q
  has_point q h inside = elim (are.placed q h) [ inl e ↦ absurd (omega (arith, e, inside, few, are.few)) | inr r ↦ r.1 ]
    where
      few : length reached ≤ length places
      few = reached_few places reached states kept are

  first_of_place : (b q : ℕ) → b ≤ length reached → q < length places → get_or places q 0 < b → Contains (take b reached) q
  first_of_place b q h qin inside =
      let p : ℕ = get_or places q 0 in
      let n : length (take b reached) ≡ b = length-take-le b reached h in
      let l : p < length reached = omega (arith, inside, h) in
      (p, omega (arith, n, inside), get_or-take b reached p q inside ∙ (get_or_default_zero reached p q l ∙ has_point q qin l))

  kept_of_place : (b q : ℕ) → b ≤ length reached → q < length places → get_or places q 0 < b → IsSome (at (map (kept_at b states) places) q)
  kept_of_place b q h qin inside =
      let e : at (map (kept_at b states) places) q ≡ Some (get_or states (get_or places q 0) initial) = at-map (kept_at b states) places q qin ∙ (below b states (get_or places q 0) inside ∙ slice_get-get_or states (get_or places q 0) initial (omega (arith, inside, h, are.long))) in
      rw e refl

  place_of_kept : (b q : ℕ) → IsSome (at (map (kept_at b states) places) q) → (q < length places) × (get_or places q 0 < b)
  place_of_kept b q some = elim (within q (length places)) [
    | inr h ↦ absurd (none (at_past (kept_at b states) places q h))
    | inl h ↦ (h, elim (within (get_or places q 0) b) [ inl l ↦ l | inr l ↦ absurd (none (at-map (kept_at b states) places q h ∙ not_below b states (get_or places q 0) l)) ])
  ]
    where
      none : at (map (kept_at b states) places) q ≡ None → ⊥
      none e = let k : IsSome {T = State} None = subst IsSome e some in let z : ⊥ = cc in z

  -- the first ones are those that are kept where so many are
  pub firsts_kept : (q : ℕ) → Contains (take (length reached) reached) q ↔ IsSome (at (map (kept_at (length reached) states) places) q)
  firsts_kept q = (λ c. let r = place_of_first (length reached) q (omega arith) c in kept_of_place (length reached) q (omega arith) r.0 r.1, λ some. let r = place_of_kept (length reached) q some in first_of_place (length reached) q (omega arith) r.0 r.1)

  -- those in front weren't kept before, and are now
  pub fresh_then : (q : ℕ) → Contains (drop kept (take (length reached) reached)) q → (at (map (kept_at kept states) places) q ≡ None) × IsSome (at (map (kept_at (length reached) states) places) q)
  fresh_then q c = go (in_drop (take (length reached) reached) kept q c)
    where
      go : (i : ℕ) × (kept ≤ i) × (i < length (take (length reached) reached)) × (get_or (take (length reached) reached) i q ≡ q) → (at (map (kept_at kept states) places) q ≡ None) × IsSome (at (map (kept_at (length reached) states) places) q)
      go (i, low, high, e) =
          let n : length (take (length reached) reached) ≡ length reached = length-take-le (length reached) reached (omega arith) in
          let l : i < length reached = omega (arith, n, high) in
          let r = place_of i q l (sym (get_or-take (length reached) reached i q l) ∙ e) in
          let same : get_or places q 0 ≡ i = r.1 in
          (at-map (kept_at kept states) places q r.0 ∙ not_below kept states (get_or places q 0) (omega (arith, same, low)), kept_of_place (length reached) q (omega arith) r.0 (omega (arith, same, l)))

  -- the points at some of the places that are kept
  pub part_kept : (from to q : ℕ) → to ≤ kept → Contains (drop from (take to reached)) q → IsSome (at (map (kept_at kept states) places) q)
  part_kept from to q few c = go (in_drop (take to reached) from q c)
    where
      go : (i : ℕ) × (from ≤ i) × (i < length (take to reached)) × (get_or (take to reached) i q ≡ q) → IsSome (at (map (kept_at kept states) places) q)
      go (i, low, high, e) =
          let n : length (take to reached) ≡ to = length-take-le to reached (omega (arith, few, are.ordered)) in
          let i_in : i < to = omega (arith, n, high) in
          let r = place_of i q (omega (arith, i_in, few, are.ordered)) (sym (get_or-take to reached i q i_in) ∙ e) in
          let same : get_or places q 0 ≡ i = r.1 in
          kept_of_place kept q are.ordered r.0 (omega (arith, same, i_in, few))

  -- and their states
  pub part_state : (from to i : ℕ) → to ≤ kept → i < length (drop from (take to reached)) → at (map (kept_at kept states) places) (get_or (drop from (take to reached)) i 0) ≡ slice_get states (from + i)
  part_state from to i few inside =
      let q : ℕ = get_or (drop from (take to reached)) i 0 in
      let n : length (take to reached) ≡ to = length-take-le to reached (omega (arith, few, are.ordered)) in
      let m : length (drop from (take to reached)) ≡ length (take to reached) - from = length-drop from (take to reached) in
      let l : from + i < to = omega (arith, n, m, inside) in
      let is : get_or reached (from + i) q ≡ q = sym (get_or-take to reached (from + i) q l) ∙ (sym (get_or-drop from (take to reached) i q) ∙ get_or_default_zero (drop from (take to reached)) i q inside) in
      let r = place_of (from + i) q (omega (arith, l, few, are.ordered)) is in
      let same : get_or places q 0 ≡ from + i = r.1 in
      at-map (kept_at kept states) places q r.0 ∙ (ap (kept_at kept states) same ∙ below kept states (from + i) (omega (arith, l, few)))

  -- a batch of points of level 0 is kept, and beside level 0 all that is kept is settled
  module _ (first : ℕ) (few : first ≤ kept) where
    first_fits : first ≤ length reached
    first_fits = omega (arith, few, are.ordered)

    pub batch_kept : (from to q : ℕ) → to ≤ length (take first reached) → Contains (drop from (take to (take first reached))) q → IsSome (at (map (kept_at kept states) places) q)
    batch_kept from to q h c =
        let r = place_of_first first q first_fits (in_part (take first reached) from to q h c) in
        let l : get_or places q 0 < first = r.1 in
        kept_of_place kept q are.ordered r.0 (omega (arith, l, few))

    pub batch_settled : (q : ℕ) → get_or (map (settled_at first kept) places) q false ≡ true ↔ (IsSome (at (map (kept_at kept states) places) q) × (Contains (take first reached) q → ⊥))
    batch_settled q = (λ e. to e, λ r. from r.0 r.1)
      where
        places_of : (b : Bool) → b ≡ true → (x y : Bool) → b ≡ (x && y) → (x ≡ true) × (y ≡ true)
        places_of b e true true h = (refl, refl)
        places_of b e true false h = absurd (let k : ⊥ = cc in k)
        places_of b e false y h = absurd (let k : ⊥ = cc in k)

        past : length places ≤ q → get_or (map (settled_at first kept) places) q false ≡ false
        past h = get_or_past (map (settled_at first kept) places) q false (let l : length (map (settled_at first kept) places) ≡ length places = length-map places (settled_at first kept) in omega (arith, l, h))

        to : get_or (map (settled_at first kept) places) q false ≡ true → IsSome (at (map (kept_at kept states) places) q) × (Contains (take first reached) q → ⊥)
        to e = elim (within q (length places)) [
          | inr h ↦ absurd (let k : get_or (map (settled_at first kept) places) q false ≡ false = past h in let z : ⊥ = cc in z)
          | inl h ↦ (let r = places_of (settled_at first kept (get_or places q 0)) (sym (settled_of first kept places q h) ∙ e) (nat_le first (get_or places q 0)) (nat_lt (get_or places q 0) kept) refl in
              let low : first ≤ get_or places q 0 = (let x = r.0 in grind arith) in
              let high : get_or places q 0 < kept = (let x = r.1 in grind arith) in
              (kept_of_place kept q are.ordered h high, λ c. let l : get_or places q 0 < first = (place_of_first first q first_fits c).1 in omega (arith, l, low)))
        ]

        from : IsSome (at (map (kept_at kept states) places) q) → (Contains (take first reached) q → ⊥) → get_or (map (settled_at first kept) places) q false ≡ true
        from some isnt =
            let r = place_of_kept kept q some in
            let high : get_or places q 0 < kept = r.1 in
            let low : first ≤ get_or places q 0 = elim (within (get_or places q 0) first) [ inl l ↦ absurd (isnt (first_of_place first q first_fits r.0 l)) | inr l ↦ l ] in
            let x : nat_le first (get_or places q 0) ≡ true = grind arith in
            let y : nat_lt (get_or places q 0) kept ≡ true = grind arith in
            settled_of first kept places q r.0 ∙ (rw (x, y) refl)
