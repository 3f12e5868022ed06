-- How the search for ways begins.
use Rattle.std.proofs.Common.{◌≡◌, ◌≢◌, ℕ, ◌+◌, ◌<◌, ◌≤◌, true, false, List, [], ◌∷◌, ◌++◌, ◌⊎◌, inl, inr, Option, None, IsSome, Contains, replicate, get_or, length, set, refl, sym, ◌∙◌, subst, arith}
use Rattle.std.proofs.lemmas.List.{get_or-replicate, get_or_past, length-replicate}
use Rattle.std.proofs.lemmas.List.Elements.{Contains-append_left, Contains-append_cases, Contains-push}
use Rattle.state_defs.specs.declared.state.State.{State}
use Rattle.machine_defs.specs.Program.{Program, IsPoint}
use Rattle.machine_defs.specs.Kept.{state_at}
use Rattle.unwinding_law.proofs.Lists.{cases, nowhere}
use Rattle.kept_states.proofs.LevelSteps.{not_none}
use Rattle.state_ways.specs.declared.steps.WayKind.{WayKind}
use Rattle.state_ways.specs.declared.steps.WayStep.{WayStep}
use Rattle.state_ways.specs.Marks.{AreFresh, AreShown, AreSpent, IsBegun, IsInFront, IsLevel, IsMarked}
use Rattle.state_ways.specs.Ways.{Way, is_turn, step, turns, turns_at}
use Rattle.state_ways.proofs.Marking.{at_new, front_stays, new_marked, same_or_not, stay_marked, was_marked}

own_turn : (q : ℕ) (kind : WayKind) → is_turn kind ≡ true → turns (step q kind ∷ []) ≡ step q kind ∷ []
own_turn q kind e = rw e refl

pub some_step : (q : ℕ) (kind : WayKind) → step q kind ∷ [] ≢ []
some_step q kind e = (let k : ⊥ = cc in k)

split : (q n : ℕ) → q < n + 1 → (q < n) ⊎ (q ≡ n)
split q n h = grind arith

-- no way begins at the point
pub begun_less : (p : Program) (n : ℕ) (ways : List (List WayStep)) (front : List ℕ) → state_at p 0 n ≡ None → IsBegun p n ways front → IsBegun p (n + 1) ways front
begun_less p n ways front none b = record {
  marked = λ q l pq some. elim (split q n l) [
    | inl h ↦ b.marked q h pq some
    | inr e ↦ not_none (state_at p 0 q) (subst (λ (x : ℕ). state_at p 0 x ≡ None) (sym e) none) some
  ];
  told = λ q pq m. (let k = b.told q pq m in (let l : q < n = k.0 in omega (arith, l), k.1));
  each = b.each;
}

-- one does
pub begun_more : (p : Program) (n : ℕ) (kind : WayKind) (ways : List (List WayStep)) (front : List ℕ) → n < length ways → turns_at ways n ≡ [] → IsPoint p n → is_turn kind ≡ true → IsSome (state_at p 0 n) → Way p 0 n (step n kind ∷ []) → IsBegun p n ways front → IsBegun p (n + 1) (set ways n (step n kind ∷ [])) (front ++ n ∷ [])
begun_more p n kind ways front inside fresh pn turn some way b = record {
  marked = λ q l pq s. elim (split q n l) [
    | inl h ↦ stay_marked ways n x inside fresh is q (b.marked q h pq s)
    | inr e ↦ subst (λ (z : ℕ). IsMarked (set ways n x) z) (sym e) (new_marked ways n x inside fresh is)
  ];
  told = λ q pq m. elim (same_or_not n q) [
    | inl e ↦ (omega (arith, e), subst (λ (z : ℕ). Contains (front ++ n ∷ []) z) (sym e) (Contains-push front n))
    | inr ne ↦ (let k = b.told q pq (was_marked ways n x inside fresh is q ne m) in (let l : q < n = k.0 in omega (arith, l), Contains-append_left front (n ∷ []) q k.1))
  ];
  each = λ a c. elim (same_or_not n a) [
    | inl e ↦ subst (λ (z : ℕ). IsInFront p (set ways n x) 0 z) (sym e) own
    | inr ne ↦ elim (Contains-append_cases front (n ∷ []) a c) [
      | inl d ↦ front_stays ways n x inside fresh is p 0 a ne (b.each a d)
      | inr d ↦ elim (cases n [] a d) [ inl e ↦ absurd (ne (sym e)) | inr z ↦ nowhere a z ]
    ]
  ];
}
  where
    x : List WayStep
    x = step n kind ∷ []

    is : step n kind ∷ [] ≢ []
    is = some_step n kind

    own : IsInFront p (set ways n (step n kind ∷ [])) 0 n
    own = record { point = pn; state = some; way = record { steps = step n kind ∷ []; way = way; turns = at_new ways n (step n kind ∷ []) inside fresh (some_step n kind) ∙ sym (own_turn n kind turn) } }

-- all points of level 0 are in front
pub level_zero : (p : Program) (ways : List (List WayStep)) (front : List ℕ) → IsBegun p p.count ways front → IsLevel p 0 ways front × AreFresh p 0 front
level_zero p ways front b = (record { marked = λ q pq some. b.marked q pq pq some; told = λ q pq m. (let f = b.each q (b.told q pq m).1 in (f.state, (0, f.way))); each = b.each }, λ a pa some. inl (b.told a pa (b.marked a pa pa some)).1)

-- no point is spent
pub none_spent : (p : Program) (states : ℕ → Option State) (ways : List (List WayStep)) (n : ℕ) → AreSpent p states ways (replicate n false)
none_spent p states ways n = λ a e is c some. absurd (go a is (within a n))
  where
    within : (q n : ℕ) → (q < n) ⊎ (n ≤ q)
    within q n = grind arith

    go : (a : ℕ) → get_or (replicate n false) a false ≡ true → (a < n) ⊎ (n ≤ a) → ⊥
    go a is (inl l) = (let k : get_or (replicate n false) a false ≡ false = get_or-replicate n a false false l in cc)
    go a is (inr l) = (let k : get_or (replicate n false) a false ≡ false = get_or_past (replicate n false) a false (let m : length (replicate n false) ≡ n = length-replicate n false in omega (arith, m, l)) in cc)

pub none_shown : (ways : List (List WayStep)) → AreShown ways []
none_shown ways = record { within = λ k d l. absurd (omega (arith, l)); marked = λ k d l. absurd (omega (arith, l)) }

pub nil_of : (xs : List ℕ) → length xs ≡ 0 → xs ≡ []
nil_of [] e = refl
nil_of (x ∷ xs) e = absurd (omega (arith, e))
