-- States with ranks are the ones that are kept.
use Rattle.std.proofs.Common.{◌≡◌, ℕ, zero, suc, ◌<◌, ◌≤◌, true, false, List, [], ◌⊎◌, inl, inr, Option, Some, None, IsSome, Contains, if◌then◌else◌, refl, sym, ◌∙◌, subst, arith}
use Rattle.std.specs.Prelude.{nat_lt}
use Rattle.state_defs.specs.declared.state.State.{State}
use Rattle.machine_defs.specs.Program.{Program, IsPoint, below}
use Rattle.machine_defs.specs.IsProgram.{IsProgram, HintsStandAtPoints}
use Rattle.machine_defs.specs.Kept.{kept_or, state_at, Kept, AreKeptStates}
use Rattle.unwinding_law.proofs.Lists.{nowhere, in_below, from_below}
use Rattle.unwinding_law.proofs.KeptPoints.{kept_are_points}
use Rattle.kept_states.specs.Least.{IsLeast}
use Rattle.kept_states.specs.Gives.{Gives, IsGiven, IsLevel}
use Rattle.kept_states.specs.Ranks.{AreRanked, IsEarly, AreSpread}
use Rattle.kept_states.proofs.Least.{least_same}
use Rattle.kept_states.proofs.LevelSteps.{next_level, some_state, not_none, state_of_some}

module _ (p : Program) (is : IsProgram p) (states : ℕ → Option State) (rank : ℕ → ℕ) (source : ℕ → List ℕ) (ranked : AreRanked p states rank source [] []) (points : (q : ℕ) (s : State) → states q ≡ Some s → IsPoint p q) where
  -- what a kept point gives
  arrives : (a q : ℕ) (s t : State) → IsPoint p q → states a ≡ Some s → Gives p a s q t → IsSome (states q) × IsEarly p rank source a q
  arrives a q s t pq e g = ranked.closed a q s t (points a s e) pq e (λ c. nowhere a c) (λ c. nowhere a c) g

  -- the states of the ranks up to one
  abbrev upto : ℕ → ℕ → Option State
  upto n q = if nat_lt n (rank q) then None else states q

  upto_in : (n q : ℕ) → rank q ≤ n → upto n q ≡ states q
  upto_in n q h = let e : nat_lt n (rank q) ≡ false = grind arith in rw e refl

  upto_past : (n q : ℕ) → n < rank q → upto n q ≡ None
  upto_past n q h = let e : nat_lt n (rank q) ≡ true = grind arith in rw e refl

  in_or_past : (n q : ℕ) → (rank q ≤ n) ⊎ (n < rank q)
  in_or_past n q = grind arith

  upto_some : (n q : ℕ) (s : State) → upto n q ≡ Some s → (rank q ≤ n) × (states q ≡ Some s)
  upto_some n q s e = elim (in_or_past n q) [ inl h ↦ (h, sym (upto_in n q h) ∙ e) | inr h ↦ absurd (let k : None ≡ Some s = sym (upto_past n q h) ∙ e in let z : ⊥ = cc in z) ]

  -- one of rank 0 is of level 0
  above : (q : ℕ) (s : State) → IsPoint p q → states q ≡ Some s → state_at p 0 q ≡ None → 0 < rank q
  above q s pq e none =
      let given : IsGiven p states (source q) q s = (ranked.later q s pq e none).0 in
      let k : rank q ≡ suc (rank given.0) = (ranked.from q s given.0 pq e none given.2).1 in
      omega (arith, k)

  -- what is given by the ranks up to one goes to the next at most
  near : (n a q : ℕ) (s t : State) → IsPoint p q → upto n a ≡ Some s → Gives p a s q t → IsSome (states q) × ((rank q ≤ n) ⊎ ((rank q ≡ suc n) × Contains (source q) a))
  near n a q s t pq e g =
      let k = upto_some n a s e in
      let r = arrives a q s t pq k.1 g in
      (r.0, go k.0 k.1 (state_of_some (states q) r.0) (some_state (state_at p 0 q)) r.1)
    where
      go : rank a ≤ n → states a ≡ Some s → (w : State) × (states q ≡ Some w) → (state_at p 0 q ≡ None) ⊎ ((u : State) × (state_at p 0 q ≡ Some u)) → IsEarly p rank source a q → (rank q ≤ n) ⊎ ((rank q ≡ suc n) × Contains (source q) a)
      go h f w (inr (u, first)) early = inl (let z : rank q ≡ 0 = (ranked.first q u pq first).1 in omega (arith, z))
      go h f w (inl none) (inl some) = not_none (state_at p 0 q) none some
      go h f w (inl none) (inr (inl le)) = inl (omega (arith, h, le))
      go h f w (inl none) (inr (inr c)) =
          let k : rank q ≡ suc (rank a) = (ranked.from q w.0 a pq w.1 none c).1 in
          elim (in_or_past n q) [ inl in_it ↦ inl in_it | inr past ↦ inr (omega (arith, k, h, past), c) ]

  lowest : (n q : ℕ) → IsPoint p q → upto n q ≡ None → IsLeast (IsGiven p (upto n) (below p.count) q) (upto (suc n) q)
  lowest n q pq vacant = go (some_state (states q)) (in_or_past n q) (in_or_past (suc n) q)
    where
      nothing : upto (suc n) q ≡ None → ((a : ℕ) (s t : State) → upto n a ≡ Some s → Gives p a s q t → ⊥) → IsLeast (IsGiven p (upto n) (below p.count) q) (upto (suc n) q)
      nothing e isnt = subst (λ (o : Option State). IsLeast (IsGiven p (upto n) (below p.count) q) o) (sym e) (λ t g. isnt g.0 g.1 t g.3 g.4)

      next : (s : State) → states q ≡ Some s → rank q ≡ suc n → IsLeast (IsGiven p (upto n) (below p.count) q) (upto (suc n) q)
      next s e r = subst (λ (o : Option State). IsLeast (IsGiven p (upto n) (below p.count) q) o) (sym (upto_in (suc n) q (omega (arith, r)) ∙ e)) (of_first (some_state (state_at p 0 q)))
        where
          of_first : (state_at p 0 q ≡ None) ⊎ ((u : State) × (state_at p 0 q ≡ Some u)) → IsLeast (IsGiven p (upto n) (below p.count) q) (Some s)
          of_first (inr (u, f)) = absurd (let z : rank q ≡ 0 = (ranked.first q u pq f).1 in omega (arith, z, r))
          of_first (inl none) = least_same (IsGiven p states (source q) q) (IsGiven p (upto n) (below p.count) q) (Some s) (λ t. (λ g. to t g, λ g. from t g)) (ranked.later q s pq e none)
            where
              to : (t : State) → IsGiven p states (source q) q t → IsGiven p (upto n) (below p.count) q t
              to t (a, w, c, h, g) =
                  let k : rank q ≡ suc (rank a) = (ranked.from q s a pq e none c).1 in
                  (a, w, in_below p.count a (points a w h), upto_in n a (omega (arith, k, r)) ∙ h, g)

              from : (t : State) → IsGiven p (upto n) (below p.count) q t → IsGiven p states (source q) q t
              from t (a, w, c, h, g) =
                  let k = near n a q w t pq h g in
                  elim k.1 [ inl le ↦ absurd (omega (arith, le, r)) | inr d ↦ (a, w, d.1, (upto_some n a w h).1, g) ]

      go : (states q ≡ None) ⊎ ((s : State) × (states q ≡ Some s)) → (rank q ≤ n) ⊎ (n < rank q) → (rank q ≤ suc n) ⊎ (suc n < rank q) → IsLeast (IsGiven p (upto n) (below p.count) q) (upto (suc n) q)
      go (inl none) x (inl h) = nothing (upto_in (suc n) q h ∙ none) (λ a s t e g. not_none (states q) none (near n a q s t pq e g).0)
      go o x (inr h) = nothing (upto_past (suc n) q h) (λ a s t e g. elim (near n a q s t pq e g).1 [ inl le ↦ omega (arith, le, h) | inr d ↦ let k : rank q ≡ suc n = d.0 in omega (arith, k, h) ])
      go (inr (s, e)) (inl h) y = absurd (let k : None ≡ Some s = sym vacant ∙ (upto_in n q h ∙ e) in let z : ⊥ = cc in z)
      go (inr (s, e)) (inr h) (inl k) = next s e (omega (arith, h, k))

  grows : (n q : ℕ) → upto (suc n) q ≡ kept_or (upto n q) (upto (suc n) q)
  grows n q = go (some_state (upto n q))
    where
      go : (upto n q ≡ None) ⊎ ((s : State) × (upto n q ≡ Some s)) → upto (suc n) q ≡ kept_or (upto n q) (upto (suc n) q)
      go (inl none) = rw none refl
      go (inr (s, e)) = let k = upto_some n q s e in rw e (upto_in (suc n) q (omega (arith, k.0)) ∙ k.1)

  -- they are those of the level
  levels : (n : ℕ) → IsLevel p n (upto n) (below p.count)
  levels zero = record { same = λ q pq. same q pq (some_state (state_at p 0 q)) (some_state (states q)); given = λ a q s t pa pq e isnt g. absurd (isnt (in_below p.count a pa)) }
    where
      same : (q : ℕ) → IsPoint p q → (state_at p 0 q ≡ None) ⊎ ((u : State) × (state_at p 0 q ≡ Some u)) → (states q ≡ None) ⊎ ((s : State) × (states q ≡ Some s)) → upto 0 q ≡ state_at p 0 q
      same q pq (inr (u, f)) x = let k = ranked.first q u pq f in upto_in 0 q (let z : rank q ≡ 0 = k.1 in omega (arith, z)) ∙ (k.0 ∙ sym f)
      same q pq (inl none) (inr (s, e)) = upto_past 0 q (above q s pq e none) ∙ sym none
      same q pq (inl none) (inl e) = elim (in_or_past 0 q) [ inl h ↦ upto_in 0 q h ∙ (e ∙ sym none) | inr h ↦ upto_past 0 q h ∙ sym none ]
  levels (suc n) = next_level p is n (upto n) (below p.count) (levels n) (λ a c. from_below p.count a c) (upto (suc n)) (λ q pq e. lowest n q pq e) (upto (suc n)) (below p.count) (λ q pq. grows n q) (λ q pq h. in_below p.count q pq)

  ranked_are_kept : HintsStandAtPoints p → AreKeptStates p states
  ranked_are_kept hints q s = (λ e. (rank q, sym ((levels (rank q)).same q (points q s e)) ∙ (upto_in (rank q) q (omega arith) ∙ e)), λ k. from k)
    where
      from : Kept p q s → states q ≡ Some s
      from (m, e) =
          let pq : IsPoint p q = kept_are_points p is hints q s (m, e) in
          (upto_some m q s ((levels m).same q pq ∙ e)).1

-- where all has been given
pub spread_are_kept : (p : Program) → IsProgram p → HintsStandAtPoints p → (states : ℕ → Option State) → AreSpread p states [] [] → ((q : ℕ) (s : State) → states q ≡ Some s → IsPoint p q) → AreKeptStates p states
spread_are_kept p is hints states (rank, source, ranked) points = ranked_are_kept p is states rank source ranked points hints
