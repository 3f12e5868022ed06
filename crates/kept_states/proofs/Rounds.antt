-- One level after another, and one batch after another.
use Rattle.std.proofs.Common.{◌≡◌, ℕ, zero, suc, ◌<◌, ◌≤◌, ◌⊎◌, ◌↔◌, inl, inr, Bool, true, false, List, [], ◌∷◌, Option, Some, None, IsSome, Contains, length, take, drop, refl, ap, sym, ◌∙◌, subst, arith}
use Rattle.std.proofs.lemmas.List.{take_all}
use Rattle.state_defs.specs.declared.state.State.{State}
use Rattle.machine_defs.specs.Program.{Program, IsPoint}
use Rattle.machine_defs.specs.Kept.{kept_or, state_at}
use Rattle.unwinding_law.proofs.Lists.{nowhere}
use Rattle.kept_states.specs.Batches.{AreFirst, InBatch, MetNoSettled}
use Rattle.kept_states.specs.Gives.{Gives, IsGiven}
use Rattle.kept_states.specs.Least.{IsLeast}
use Rattle.kept_states.specs.LevelStates.{LevelStates, Offers, StaysSame, at, is_settled}
use Rattle.kept_states.specs.Ranks.{AreRanked, AreSpread, IsEarly}
use Rattle.kept_states.specs.Told.{AreLeast, HaveGiven}
use Rattle.kept_states.proofs.Least.{least_same}
use Rattle.kept_states.proofs.Firsts.{in_part, split_drop}
use Rattle.kept_states.proofs.LevelSteps.{is_in, is_some_of, least_some, not_none, some_state, state_of_some}

-- what has a state is a point
pub at_some : (xs : List (Option State)) (q : ℕ) (s : State) → at xs q ≡ Some s → q < length xs
at_some [] q s e = absurd (let z : ⊥ = cc in z)
at_some (x ∷ xs) zero s e = omega arith
at_some (x ∷ xs) (suc q) s e = let h : q < length xs = at_some xs q s e in omega (arith, h)

-- what stays the same twice does
pub same_still : (a b c : LevelStates) → StaysSame a b → StaysSame b c → StaysSame a c
same_still a b c (f, s, m) (g, t, n) = (g ∙ f, t ∙ s, λ e. m (n e))

-- nothing is given yet
pub nothing_given : (p : Program) (kept : List (Option State)) (next : Offers) (front : List ℕ) → ((q : ℕ) → at next.states q ≡ None) → AreLeast kept next (IsGiven p (at kept) (take 0 front))
nothing_given p kept next front none = record { least = λ q l vacant. go q (at next.states q) (none q); unmet = λ e q u l g. nowhere g.0 g.2 }
  where
    go : (q : ℕ) (o : Option State) → o ≡ None → IsLeast (IsGiven p (at kept) (take 0 front) q) o
    go q None e = λ t g. nowhere g.0 g.2
    go q (Some s) e = absurd (let z : ⊥ = cc in z)

-- one of two things, by whether there is a state
abbrev by_state : {X : Type 0} → Option State → X → X → X
by_state (Some s) x y = x
by_state None x y = y

-- All points in front have given, and what was offered is kept. No settled point was met, or there is none.
module _ (p : Program) (old : LevelStates) (waiting : List ℕ) (batch : InBatch p old waiting) (next : Offers) (given : AreLeast old.kept next (IsGiven p (at old.kept) (take (length old.front) old.front)))
    (count : p.count ≡ length old.kept) (settled : next.settled ≡ old.next.settled) (clean : MetNoSettled next) (new : LevelStates) (is_after : (q : ℕ) → at new.kept q ≡ kept_or (at old.kept q) (at next.states q))
    (is_new : (q : ℕ) → IsSome (at next.states q) → Contains new.front q) (fresh : (q : ℕ) → Contains new.front q → (at old.kept q ≡ None) × IsSome (at new.kept q)) (still : new.next.settled ≡ next.settled) where
  abbrev kept : ℕ → Option State
  kept = at old.kept

  abbrev after : ℕ → Option State
  after = at new.kept

  abbrev rank : ℕ → ℕ
  rank q = by_state (kept q) (batch.rank q) (suc batch.level)

  abbrev source : ℕ → List ℕ
  source q = by_state (kept q) (batch.source q) old.front

  rank_old : (q : ℕ) (s : State) → kept q ≡ Some s → rank q ≡ batch.rank q
  rank_old q s e = rw e refl

  rank_new : (q : ℕ) → kept q ≡ None → rank q ≡ suc batch.level
  rank_new q e = rw e refl

  source_old : (q : ℕ) (s : State) → kept q ≡ Some s → source q ≡ batch.source q
  source_old q s e = rw e refl

  source_new : (q : ℕ) → kept q ≡ None → source q ≡ old.front
  source_new q e = rw e refl

  stays : (q : ℕ) (s : State) → kept q ≡ Some s → after q ≡ Some s
  stays q s e = is_after q ∙ ap (λ (o : Option State). kept_or o (at next.states q)) e

  comes : (q : ℕ) → kept q ≡ None → after q ≡ at next.states q
  comes q e = is_after q ∙ ap (λ (o : Option State). kept_or o (at next.states q)) e

  stays_some : (q : ℕ) → IsSome (kept q) → IsSome (after q)
  stays_some q some = let r = state_of_some (kept q) some in is_some_of (after q) r.0 (stays q r.0 r.1)

  same_state : (q : ℕ) (s : State) → IsSome (kept q) → after q ≡ Some s → kept q ≡ Some s
  same_state q s some e = let r = state_of_some (kept q) some in let k : after q ≡ Some r.0 = stays q r.0 r.1 in r.1 ∙ (sym k ∙ e)

  least : (q : ℕ) → IsPoint p q → kept q ≡ None → IsLeast (IsGiven p kept old.front q) (at next.states q)
  least q pq vacant = subst (λ (f : List ℕ). IsLeast (IsGiven p kept f q) (at next.states q)) (take_all (length old.front) old.front (omega arith)) (given.least q (omega (arith, pq, count)) vacant)

  -- from points that were kept the same is given now
  same_gifts : (from : List ℕ) (q : ℕ) (o : Option State) → ((a : ℕ) → Contains from a → IsSome (kept a)) → IsLeast (IsGiven p kept from q) o → IsLeast (IsGiven p after from q) o
  same_gifts from q o all = least_same (IsGiven p kept from q) (IsGiven p after from q) o (λ t. (λ g. (g.0, g.1, g.2, stays g.0 g.1 g.3, g.4), λ g. (g.0, g.1, g.2, same_state g.0 g.1 (all g.0 g.2) g.3, g.4)))

  -- where nothing settled was met, what is in front gives nothing to a settled point
  unsettled : (a q : ℕ) (s t : State) → IsPoint p q → Contains old.front a → kept a ≡ Some s → Gives p a s q t → is_settled old.next q ≡ false
  unsettled a q s t pq c e g = subst (λ (l : List Bool). is_settled (record { states = []; settled = l; met = false }) q ≡ false) settled (elim clean [ inl clear ↦ given.unmet clear q t (omega (arith, pq, count)) (a, s, subst (λ (f : List ℕ). Contains f a) (sym (take_all (length old.front) old.front (omega arith))) c, e, g) | inr none ↦ none q ])

  pub step : InBatch p new waiting
  step = record {
    level = suc batch.level;
    rank = rank;
    source = source;
    ranked = record { first = first; from = from; later = later; closed = closed };
    front = λ a c. let r = fresh a c in (r.1, rank_new a r.0);
    recent = recent;
  }
    where
      first : (q : ℕ) (s : State) → IsPoint p q → state_at p 0 q ≡ Some s → (after q ≡ Some s) × (rank q ≡ 0)
      first q s pq e = let r = batch.ranked.first q s pq e in (stays q s r.0, rank_old q s r.0 ∙ r.1)

      from : (q : ℕ) (s : State) (a : ℕ) → IsPoint p q → after q ≡ Some s → state_at p 0 q ≡ None → Contains (source q) a → IsSome (after a) × (rank q ≡ suc (rank a))
      from q s a pq e none c = go (some_state (kept q))
        where
          go : (kept q ≡ None) ⊎ ((w : State) × (kept q ≡ Some w)) → IsSome (after a) × (rank q ≡ suc (rank a))
          go (inl vacant) =
              let r = batch.front a (subst (λ (f : List ℕ). Contains f a) (source_new q vacant) c) in
              let w = state_of_some (kept a) r.0 in
              (stays_some a r.0, rank_new q vacant ∙ ap suc (sym (rank_old a w.0 w.1 ∙ r.1)))
          go (inr (w, k)) =
              let r = batch.ranked.from q w a pq k none (subst (λ (f : List ℕ). Contains f a) (source_old q w k) c) in
              let v = state_of_some (kept a) r.0 in
              (stays_some a r.0, rank_old q w k ∙ (r.1 ∙ ap suc (sym (rank_old a v.0 v.1))))

      later : (q : ℕ) (s : State) → IsPoint p q → after q ≡ Some s → state_at p 0 q ≡ None → IsLeast (IsGiven p after (source q) q) (Some s)
      later q s pq e none = go (some_state (kept q))
        where
          go : (kept q ≡ None) ⊎ ((w : State) × (kept q ≡ Some w)) → IsLeast (IsGiven p after (source q) q) (Some s)
          go (inl vacant) =
              let is : at next.states q ≡ Some s = sym (comes q vacant) ∙ e in
              subst (λ (f : List ℕ). IsLeast (IsGiven p after f q) (Some s)) (sym (source_new q vacant))
              (same_gifts old.front q (Some s) (λ a c. (batch.front a c).0) (subst (λ (o : Option State). IsLeast (IsGiven p kept old.front q) o) is (least q pq vacant)))
          go (inr (w, k)) =
              let is : kept q ≡ Some s = same_state q s (is_some_of (kept q) w k) e in
              subst (λ (f : List ℕ). IsLeast (IsGiven p after f q) (Some s)) (sym (source_old q w k))
              (same_gifts (batch.source q) q (Some s) (λ a c. (batch.ranked.from q s a pq is none c).0) (batch.ranked.later q s pq is none))

      -- what was early is
      early : (a q : ℕ) → IsSome (kept a) → IsSome (kept q) → IsEarly p batch.rank batch.source a q → IsEarly p rank source a q
      early a q x y h =
          let v = state_of_some (kept a) x in
          let w = state_of_some (kept q) y in
          let i : rank a ≡ batch.rank a = rank_old a v.0 v.1 in
          let j : rank q ≡ batch.rank q = rank_old q w.0 w.1 in
          elim h [ inl f ↦ inl f | inr k ↦ elim k [ inl le ↦ inr (inl (omega (arith, i, j, le))) | inr c ↦ inr (inr (subst (λ (f : List ℕ). Contains f a) (sym (source_old q w.0 w.1)) c)) ] ]

      closed : (a q : ℕ) (s t : State) → IsPoint p a → IsPoint p q → after a ≡ Some s → (Contains new.front a → ⊥) → (Contains waiting a → ⊥) → Gives p a s q t → IsSome (after q) × IsEarly p rank source a q
      closed a q s t pa pq e isnt waits g = before (some_state (kept a))
        where
          from_front : kept a ≡ Some s → Contains old.front a → IsSome (after q) × IsEarly p rank source a q
          from_front k c = go (some_state (kept q))
            where
              kept_first : (w : State) → kept q ≡ Some w → (state_at p 0 q ≡ None) ⊎ ((u : State) × (state_at p 0 q ≡ Some u)) → IsEarly p rank source a q
              kept_first w f (inr (u, z)) = inl (is_some_of (state_at p 0 q) u z)
              kept_first w f (inl z) =
                  let le : batch.rank q ≤ batch.level = batch.recent q w pq f z (unsettled a q s t pq c k g) in
                  let i : rank a ≡ batch.rank a = rank_old a s k in
                  let j : rank q ≡ batch.rank q = rank_old q w f in
                  let m : batch.rank a ≡ batch.level = (batch.front a c).1 in
                  inr (inl (omega (arith, le, i, j, m)))

              go : (kept q ≡ None) ⊎ ((w : State) × (kept q ≡ Some w)) → IsSome (after q) × IsEarly p rank source a q
              go (inl vacant) = (
                subst IsSome (sym (comes q vacant)) (least_some (IsGiven p kept old.front q) (at next.states q) t (least q pq vacant) (a, s, c, k, g)),
                inr (inr (subst (λ (f : List ℕ). Contains f a) (sym (source_new q vacant)) c)),
              )
              go (inr (w, f)) = (is_some_of (after q) w (stays q w f), kept_first w f (some_state (state_at p 0 q)))

          before : (kept a ≡ None) ⊎ ((w : State) × (kept a ≡ Some w)) → IsSome (after q) × IsEarly p rank source a q
          before (inl vacant) = absurd (isnt (is_new a (is_some_of (at next.states a) s (sym (comes a vacant) ∙ e))))
          before (inr (w, k)) =
              let f : kept a ≡ Some s = same_state a s (is_some_of (kept a) w k) e in
              elim (is_in old.front a) [
                | inl c ↦ from_front f c
                | inr d ↦ (let r = batch.ranked.closed a q s t pa pq f d waits g in (stays_some q r.0, early a q (is_some_of (kept a) w k) r.0 r.1))
              ]

      recent : (q : ℕ) (s : State) → IsPoint p q → after q ≡ Some s → state_at p 0 q ≡ None → is_settled new.next q ≡ false → rank q ≤ suc batch.level
      recent q s pq e none free = go (some_state (kept q))
        where
          go : (kept q ≡ None) ⊎ ((w : State) × (kept q ≡ Some w)) → rank q ≤ suc batch.level
          go (inl vacant) = let r : rank q ≡ suc batch.level = rank_new q vacant in omega (arith, r)
          go (inr (w, k)) =
              let f : is_settled old.next q ≡ false = subst (λ (l : List Bool). is_settled (record { states = []; settled = l; met = false }) q ≡ false) (still ∙ settled) free in
              let le : batch.rank q ≤ batch.level = batch.recent q w pq k none f in
              let r : rank q ≡ batch.rank q = rank_old q w k in
              omega (arith, le, r)

-- where nothing settled was met, none was before
pub clean_before : (a b : LevelStates) → StaysSame a b → MetNoSettled b.next → MetNoSettled a.next
clean_before a b (f, s, m) (inl clear) = inl (m clear)
clean_before a b (f, s, m) (inr none) = inr (λ q. subst (λ (l : List Bool). is_settled (record { states = []; settled = l; met = false }) q ≡ false) s (none q))

clean_given_of : (given new : LevelStates) → new.next.settled ≡ given.next.settled → new.next.met ≡ given.next.met → MetNoSettled new.next → MetNoSettled given.next
clean_given_of given new settled met (inl clear) = inl (sym met ∙ clear)
clean_given_of given new settled met (inr none) = inr (λ q. subst (λ (l : List Bool). is_settled (record { states = []; settled = l; met = false }) q ≡ false) settled (none q))

-- a round: what is in front gives, and the next level is kept
pub after_round : (p : Program) (old given new : LevelStates) (waiting : List ℕ) → p.count ≡ length old.kept → (MetNoSettled old.next → InBatch p old waiting) → given.kept ≡ old.kept → given.front ≡ old.front → StaysSame old given → HaveGiven p given (length old.front)
    → ((q : ℕ) → at new.kept q ≡ kept_or (at given.kept q) (at given.next.states q)) → ((q : ℕ) → IsSome (at given.next.states q) → Contains new.front q) → ((q : ℕ) → Contains new.front q → (at given.kept q ≡ None) × IsSome (at new.kept q))
    → new.next.settled ≡ given.next.settled → new.next.met ≡ given.next.met → MetNoSettled new.next → InBatch p new waiting
after_round p old given new waiting count batch same_kept same_front same has is_after is_new fresh settled met clean =
    let clean_given : MetNoSettled given.next = clean_given_of given new settled met clean in
    let one : AreLeast old.kept given.next (IsGiven p (at old.kept) (take (length old.front) given.front)) =
    subst (λ (k : List (Option State)). AreLeast k given.next (IsGiven p (at k) (take (length old.front) given.front))) same_kept has in
    let two : AreLeast old.kept given.next (IsGiven p (at old.kept) (take (length old.front) old.front)) =
    subst (λ (f : List ℕ). AreLeast old.kept given.next (IsGiven p (at old.kept) (take (length old.front) f))) same_front one in
    step p old waiting (batch (clean_before old given same clean_given)) given.next two count same.1 clean_given new
    (λ q. is_after q ∙ ap (λ (k : List (Option State)). kept_or (at k q) (at given.next.states q)) same_kept) is_new
    (λ q c. (subst (λ (k : List (Option State)). at k q ≡ None) same_kept (fresh q c).0, (fresh q c).1)) settled

-- where nothing is in front any more
pub batch_done : (p : Program) (levels : LevelStates) (waiting : List ℕ) → levels.front ≡ [] → InBatch p levels waiting → AreSpread p (at levels.kept) [] waiting
batch_done p levels waiting none batch = subst (λ (f : List ℕ). AreSpread p (at levels.kept) f waiting) none (batch.rank, batch.source, batch.ranked)

-- level 0: what it has is kept, and waits
pub first_spread : (p : Program) (kept : List (Option State)) (firsts : List ℕ) → ((q : ℕ) → IsPoint p q → at kept q ≡ state_at p 0 q) → ((q : ℕ) → IsSome (at kept q) → Contains firsts q) → AreSpread p (at kept) [] firsts
first_spread p kept firsts same all = (
  (λ q. 0),
  (λ q. []),
  record {
    first = λ q s pq e. (same q pq ∙ e, refl);
    from = λ q s a pq e none c. nowhere a c;
    later = λ q s pq e none. absurd (let k : at kept q ≡ None = same q pq ∙ none in let z : ⊥ = cc in z);
    closed = λ a q s t pa pq e isnt waits g. absurd (waits (all a (is_some_of (at kept a) s e)));
  },
)

-- a batch begins
pub batch_begins : (p : Program) (kept : List (Option State)) (firsts : List ℕ) (from to : ℕ) (new : LevelStates) → ((q : ℕ) → q < length kept → IsPoint p q) → AreFirst p firsts → from ≤ to → to ≤ length firsts → AreSpread p (at kept) [] (drop from firsts)
    → new.kept ≡ kept → new.front ≡ drop from (take to firsts) → ((q : ℕ) → Contains new.front q → IsSome (at new.kept q)) → ((q : ℕ) → IsSome (at kept q) → (Contains firsts q → ⊥) → is_settled new.next q ≡ true) → InBatch p new (drop to firsts)
batch_begins p kept firsts from to new points are_first h k (rank, source, ranked) same front in_front settled = record {
  level = 0;
  rank = rank;
  source = source;
  ranked = subst (λ (l : List (Option State)). AreRanked p (at l) rank source new.front (drop to firsts)) (sym same) now;
  front = λ a c. (in_front a c, is_first a c);
  recent = λ q s pq e none free. absurd (not_recent q s pq e none free);
}
  where
    is_first : (a : ℕ) → Contains new.front a → rank a ≡ 0
    is_first a c =
        let f : Contains firsts a = in_part firsts from to a k (subst (λ (l : List ℕ). Contains l a) front c) in
        let r = state_of_some (state_at p 0 a) (are_first a f) in
        let w = state_of_some (at kept a) (subst (λ (l : List (Option State)). IsSome (at l a)) same (in_front a c)) in
        (ranked.first a r.0 (points a (at_some kept a w.0 w.1)) r.1).1

    now : AreRanked p (at kept) rank source new.front (drop to firsts)
    now = record {
      first = ranked.first;
      from = ranked.from;
      later = ranked.later;
      closed = λ a q s t pa pq e isnt waits g. ranked.closed a q s t pa pq e (λ c. nowhere a c) (λ c. elim (split_drop firsts from to a h k c) [ inl d ↦ isnt (subst (λ (l : List ℕ). Contains l a) (sym front) d) | inr d ↦ waits d ]) g;
    }

    not_recent : (q : ℕ) (s : State) → IsPoint p q → at new.kept q ≡ Some s → state_at p 0 q ≡ None → is_settled new.next q ≡ false → ⊥
    not_recent q s pq e none free =
        let is : at kept q ≡ Some s = subst (λ (l : List (Option State)). at l q ≡ Some s) same e in
        let x : is_settled new.next q ≡ true = settled q (is_some_of (at kept q) s is) (λ c. not_none (state_at p 0 q) none (are_first q c)) in
        let z : ⊥ = cc in z

pub batch_begins_of : (p : Program) (old : LevelStates) (firsts : List ℕ) (from to : ℕ) (new : LevelStates) → old.firsts ≡ firsts → ((q : ℕ) → q < length old.kept → IsPoint p q) → AreFirst p firsts → from ≤ to → to ≤ length firsts → AreSpread p (at old.kept) [] (drop from firsts)
    → new.kept ≡ old.kept → new.front ≡ drop from (take to old.firsts) → ((q : ℕ) → Contains new.front q → IsSome (at new.kept q)) → ((q : ℕ) → is_settled new.next q ≡ true ↔ (IsSome (at old.kept q) × (Contains old.firsts q → ⊥))) → InBatch p new (drop to firsts)
batch_begins_of p old firsts from to new same points are_first h k spread kept front in_front settled =
    batch_begins p old.kept firsts from to new points are_first h k spread kept (subst (λ (l : List ℕ). new.front ≡ drop from (take to l)) same front) in_front (λ q some isnt. (settled q).1 (some, λ c. isnt (subst (λ (l : List ℕ). Contains l q) same c)))

-- where only points of level 0 are kept none is settled
pub none_settled : (old begun done : LevelStates) → ((q : ℕ) → is_settled begun.next q ≡ true ↔ (IsSome (at old.kept q) × (Contains old.firsts q → ⊥))) → ((q : ℕ) → IsSome (at old.kept q) → Contains old.firsts q) → done.next.settled ≡ begun.next.settled → (q : ℕ) → is_settled done.next q ≡ false
none_settled old begun done settled all same q = subst (λ (l : List Bool). is_settled (record { states = []; settled = l; met = false }) q ≡ false) (sym same) (go (is_settled begun.next q) refl)
  where
    go : (b : Bool) → is_settled begun.next q ≡ b → b ≡ false
    go false e = refl
    go true e = let r = (settled q).0 e in absurd (r.1 (all q r.0))

-- level 0
pub level_first : (p : Program) (before : List (Option State)) (old new : LevelStates) → ((q : ℕ) → at before q ≡ None) → old.kept ≡ before → ((q : ℕ) → IsPoint p q → at old.next.states q ≡ state_at p 0 q) → ((q : ℕ) → at new.kept q ≡ kept_or (at old.kept q) (at old.next.states q)) → (q : ℕ) → IsPoint p q → at new.kept q ≡ state_at p 0 q
level_first p before old new vacant same first is_after q pq = is_after q ∙ (ap (λ (o : Option State). kept_or o (at old.next.states q)) (ap (λ (k : List (Option State)). at k q) same ∙ vacant q) ∙ first q pq)

pub level_is_first : (p : Program) (new : LevelStates) → ((q : ℕ) → IsPoint p q → at new.kept q ≡ state_at p 0 q) → ((q : ℕ) → Contains new.firsts q ↔ IsSome (at new.kept q)) → ((q : ℕ) → q < length new.kept → IsPoint p q) → AreFirst p new.firsts
level_is_first p new same firsts points q c =
    let r = state_of_some (at new.kept q) ((firsts q).0 c) in
    is_some_of (state_at p 0 q) r.0 (sym (same q (points q (at_some new.kept q r.0 r.1))) ∙ r.1)
