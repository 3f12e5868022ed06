-- Control is found at a point.
use Rattle.std.proofs.Common.{◌≡◌, ◌⊎◌, inl, inr, ℕ, ◌+◌, ◌<◌, ◌≤◌, Bool, true, false, List, [], ◌∷◌, ◌++◌, Contains, length, refl, sym, ap, ◌∙◌, subst, arith, length-set, length-append}
use Rattle.std.specs.Prelude.{sum_by, replicate}
use Rattle.std.proofs.lemmas.List.{get_or-replicate, get_or_past, length-replicate}
use Rattle.std.proofs.lemmas.List.Elements.{Contains-append_left, Contains-append_right, Contains-append_cases, Contains-push, Contains-push_cases}
use Rattle.std.proofs.lemmas.List.Sums.{sum_by-set}
use Rattle.machine_defs.specs.Program.{Program}
use Rattle.unwinding_law.proofs.Lists.{cases, here, nowhere, there}
use Rattle.machine_defs.specs.Allowances.{Allowances}
use Rattle.program_check.specs.declared.access_ways.Ways.{Ways}
use Rattle.program_check.specs.declared.access_search.Visit.{Visit}
use Rattle.program_check.specs.declared.access_search.Search.{Search}
use Rattle.program_check.specs.Ways.{comes, no_ways, ways_at, ways_left}
use Rattle.program_check.specs.Search.{Finds, GoesOn, HasShape, IsFollowed, IsFound, IsReached, IsSearch, work_left}
use Rattle.program_check.proofs.WaySets.{found_before, found_now, found_still, found_too, left_less, way_more}

-- where it is new
pub finds_new : (old new : Search) (v : Visit) → v.point < length old.ways.items → comes (ways_at old.ways.items v.point) v.access v.home ≡ false
    → new.ways.items ≡ found_too old.ways.items v → new.pending.items ≡ old.pending.items ++ v ∷ [] → Finds old new v
finds_new old new v inside unknown written pushed = record {
  long = ap length written ∙ length-set old.ways.items v.point (way_more (ways_at old.ways.items v.point) v);
  work = omega (arith, sums, fewer, longer, ap (sum_by ways_left) written);
  found = λ u. (λ f. found_before old.ways.items v inside u (subst (λ (ws : List Ways). IsFound ws u) written f), λ k. subst (λ (ws : List Ways). IsFound ws u) (sym written) (from u k));
  pending = λ u c. elim (Contains-push_cases old.pending.items v u (subst (λ (vs : List Visit). Contains vs u) pushed c)) [ inl d ↦ inl d | inr e ↦ inr (sym e) ];
  still = λ u c. subst (λ (vs : List Visit). Contains vs u) (sym pushed) (Contains-append_left old.pending.items (v ∷ []) u c);
  waits = inr (subst (λ (vs : List Visit). Contains vs v) (sym pushed) (Contains-push old.pending.items v));
}
  where
    sums : sum_by ways_left (found_too old.ways.items v) + ways_left (ways_at old.ways.items v.point) ≡ sum_by ways_left old.ways.items + ways_left (way_more (ways_at old.ways.items v.point) v)
    sums = sum_by-set ways_left old.ways.items v.point (way_more (ways_at old.ways.items v.point) v) no_ways inside

    fewer : ways_left (way_more (ways_at old.ways.items v.point) v) + 1 ≡ ways_left (ways_at old.ways.items v.point)
    fewer = left_less (ways_at old.ways.items v.point) v.access v.home unknown

    longer : length new.pending.items ≡ length old.pending.items + 1
    longer = ap length pushed ∙ length-append old.pending.items (v ∷ [])

    from : (u : Visit) → IsFound old.ways.items u ⊎ u ≡ v → IsFound (found_too old.ways.items v) u
    from u (inl f) = found_still old.ways.items v inside u f
    from u (inr e) = subst (λ (x : Visit). IsFound (found_too old.ways.items v) x) (sym e) (found_now old.ways.items v inside)

module _ (old new : Search) (v : Visit) (finds : Finds old new v) where
  -- what is found stays so
  pub finds_goes_on : (points : ℕ) → v.point < points → HasShape points old → GoesOn points old new
  finds_goes_on points inside shape = record {
    shape = record {
      long = finds.long ∙ shape.long;
      pending = λ u c. elim (finds.pending u c) [ inl d ↦ shape.pending u d | inr e ↦ subst (λ (x : Visit). x.point < points) (sym e) inside ];
    };
    work = finds.work;
    found = λ u f. (finds.found u).1 (inl f);
  }

  pub finds_it : IsFound new.ways.items v
  finds_it = (finds.found v).1 (inr refl)

  module _ (p : Program) (allowed : Allowances) (front : List Visit) (reached : IsReached p allowed v) (search : IsSearch p allowed old.ways.items (front ++ old.pending.items)) where
    by_visit : (u : Visit) → u ≡ v → IsReached p allowed u
    by_visit u e = subst (λ (x : Visit). IsReached p allowed x) (sym e) reached

    waits_still : (u : Visit) → Contains (front ++ old.pending.items) u → Contains (front ++ new.pending.items) u
    waits_still u c = elim (Contains-append_cases front old.pending.items u c) [ inl d ↦ Contains-append_left front new.pending.items u d | inr d ↦ Contains-append_right front new.pending.items u (finds.still u d) ]

    followed_still : (u : Visit) → IsFollowed p allowed old.ways.items u → IsFollowed p allowed new.ways.items u
    followed_still u followed e c stays runs = (finds.found _).1 (inl (followed e c stays runs))

    was_found : (u : Visit) → IsFound old.ways.items u → Contains (front ++ new.pending.items) u ⊎ IsFollowed p allowed new.ways.items u
    was_found u f = elim (search.followed u f) [ inl c ↦ inl (waits_still u c) | inr g ↦ inr (followed_still u g) ]

    is_now : Contains (front ++ new.pending.items) v ⊎ IsFollowed p allowed new.ways.items v
    is_now = elim finds.waits [ inl f ↦ was_found v f | inr c ↦ inl (Contains-append_right front new.pending.items v c) ]

    pub finds_search : IsSearch p allowed new.ways.items (front ++ new.pending.items)
    finds_search = record {
      found = λ u f. elim ((finds.found u).0 f) [ inl g ↦ search.found u g | inr e ↦ by_visit u e ];
      waiting = λ u c. elim (Contains-append_cases front new.pending.items u c) [
        | inl d ↦ search.waiting u (Contains-append_left front old.pending.items u d)
        | inr d ↦ elim (finds.pending u d) [ inl g ↦ search.waiting u (Contains-append_right front old.pending.items u g) | inr e ↦ by_visit u e ]
      ];
      followed = λ u f. elim ((finds.found u).0 f) [ inl g ↦ was_found u g | inr e ↦ subst (λ (x : Visit). Contains (front ++ new.pending.items) x ⊎ IsFollowed p allowed new.ways.items x) (sym e) is_now ];
    }

-- nothing is found
pub goes_nowhere : (points : ℕ) (s : Search) → HasShape points s → GoesOn points s s
goes_nowhere points s shape = record { shape = shape; work = refl; found = λ u f. f }

pub goes_further : (points : ℕ) (r s t : Search) → GoesOn points r s → GoesOn points s t → GoesOn points r t
goes_further points r s t one two = record { shape = two.shape; work = two.work ∙ one.work; found = λ u f. two.found u (one.found u f) }

split : (q n : ℕ) → (q < n) ⊎ (n ≤ q)
split q n = grind arith

none_comes : (a h : Bool) → comes no_ways a h ≡ true → ⊥
none_comes true true e = let z : ⊥ = cc in z
none_comes false true e = let z : ⊥ = cc in z
none_comes true false e = let z : ⊥ = cc in z
none_comes false false e = let z : ⊥ = cc in z

-- at first nothing is found, and nothing to be followed
pub none_found : (points : ℕ) (v : Visit) → IsFound (replicate points no_ways) v → ⊥
none_found points v f = none_comes v.access v.home (subst (λ (w : Ways). comes w v.access v.home ≡ true) (none_at v.point) f)
  where
    none_at : (q : ℕ) → ways_at (replicate points no_ways) q ≡ no_ways
    none_at q = elim (split q points) [
      | inl below ↦ get_or-replicate points q no_ways no_ways below
      | inr past ↦ get_or_past (replicate points no_ways) q no_ways (omega (arith, length-replicate points no_ways, past))
    ]

pub first_search : (p : Program) (allowed : Allowances) (points : ℕ) (ways : List Ways) (pending : List Visit) → ways ≡ replicate points no_ways → pending ≡ [] → IsSearch p allowed ways pending
first_search p allowed points ways pending none empty = record {
  found = λ v f. absurd (nothing v f);
  waiting = λ v c. nowhere v (subst (λ (vs : List Visit). Contains vs v) empty c);
  followed = λ v f. absurd (nothing v f);
}
  where
    nothing : (v : Visit) → IsFound ways v → ⊥
    nothing v f = none_found points v (subst (λ (ws : List Ways). IsFound ws v) none f)

-- one is taken from what is to be followed
module _ (s t : Search) (v : Visit) (taken : s.pending.items ≡ t.pending.items ++ v ∷ []) (same : t.ways.items ≡ s.ways.items) where
  from_rest : (u : Visit) → Contains t.pending.items u → Contains s.pending.items u
  from_rest u c = subst (λ (vs : List Visit). Contains vs u) (sym taken) (Contains-append_left t.pending.items (v ∷ []) u c)

  is_pending : Contains s.pending.items v
  is_pending = subst (λ (vs : List Visit). Contains vs v) (sym taken) (Contains-push t.pending.items v)

  pub taken_shape : (points : ℕ) → HasShape points s → HasShape points t
  taken_shape points shape = record { long = ap length same ∙ shape.long; pending = λ u c. shape.pending u (from_rest u c) }

  pub taken_point : (points : ℕ) → HasShape points s → v.point < points
  taken_point points shape = shape.pending v is_pending

  pub taken_work : work_left t + 1 ≡ work_left s
  taken_work =
      let longer : length s.pending.items ≡ length t.pending.items + 1 = ap length taken ∙ length-append t.pending.items (v ∷ []) in
      omega (arith, longer, ap (sum_by ways_left) same)

  pub taken_search : (p : Program) (allowed : Allowances) → IsSearch p allowed s.ways.items s.pending.items → IsSearch p allowed t.ways.items (v ∷ t.pending.items)
  taken_search p allowed search = record {
    found = λ u f. search.found u (was u f);
    waiting = λ u c. elim (cases v t.pending.items u c) [ inl e ↦ search.waiting u (subst (Contains s.pending.items) e is_pending) | inr d ↦ search.waiting u (from_rest u d) ];
    followed = λ u f. elim (search.followed u (was u f)) [ inl c ↦ inl (now_first u c) | inr g ↦ inr (subst (λ (ws : List Ways). IsFollowed p allowed ws u) (sym same) g) ];
  }
    where
      was : (u : Visit) → IsFound t.ways.items u → IsFound s.ways.items u
      was u f = subst (λ (ws : List Ways). IsFound ws u) same f

      now_first : (u : Visit) → Contains s.pending.items u → Contains (v ∷ t.pending.items) u
      now_first u c = elim (Contains-push_cases t.pending.items v u (subst (λ (vs : List Visit). Contains vs u) taken c)) [ inl d ↦ there v t.pending.items u d | inr e ↦ subst (Contains (v ∷ t.pending.items)) e (here v t.pending.items) ]
