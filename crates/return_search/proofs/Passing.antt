-- A point more is passed on.
use Rattle.std.proofs.Common.{◌≡◌, ◌≢◌, ℕ, zero, suc, ◌+◌, ◌<◌, ◌≤◌, ◌⊎◌, inl, inr, Bool, true, false, not, ◌&&◌, List, [], ◌∷◌, ◌++◌, All, Contains, get_or, length, replicate, set, refl, sym, ap, ◌∙◌, subst, arith, get_or-set_other}
use Rattle.std.specs.Prelude.{count_by, vec_capacity}
use Rattle.std.proofs.lemmas.Bool.{cases_eq}
use Rattle.std.proofs.lemmas.List.{get_or-replicate, get_or_append_left, get_or_push, length_push}
use Rattle.std.proofs.lemmas.List.Elements.{Contains-append_cases}
use Rattle.machine_defs.specs.declared.flow.EdgeKind.{EdgeKind}
use Rattle.machine_defs.specs.declared.flow.EdgeKind.TheVariants.{Next, Taken, Fixup, Table, Sibling}
use Rattle.machine_defs.specs.Program.{IsPoint}
use Rattle.return_search.specs.declared.searched_flow.Exit.{Exit}
use Rattle.return_search.specs.declared.searched_flow.Exit.TheVariants.{Leaves, Calls, CallsOut, CallsNever, Passes}
use Rattle.return_search.specs.declared.searched_flow.Flow.{Flow}
use Rattle.return_search.specs.declared.return_search.Search.{Search}
use Rattle.return_search.specs.Told.{callee_at, exit_at, dead_end_at}
use Rattle.return_search.specs.Shape.{points_of}
use Rattle.return_search.specs.Backward.{IsEdgeOf, edge_at}
use Rattle.return_search.specs.Search.{is_set, target_returns, is_calling, carries, AreListed, AreSound, Extends, FindsAlong, FindsLeaving, IsPassedOn, IsSearch, IsTaken, AreClosed}
use Rattle.return_search.proofs.SearchSteps.{extends_more, holds_new, holds_still}

pub holds_inside : (tests : List Bool) (q : ℕ) → is_set tests q ≡ true → q < length tests
holds_inside [] q h = absurd (let z : ⊥ = cc in z)
holds_inside (b ∷ tests) zero h = omega arith
holds_inside (b ∷ tests) (suc q) h = let l : q < length tests = holds_inside tests q h in omega (arith, l)

-- one more that is called is known to return
pub sound_know : (flow : Flow) (found known : List Bool) (entry x : ℕ) → AreSound flow found known → is_set found x ≡ true → x < points_of flow → callee_at flow x ≡ entry → AreSound flow found (set known entry true)
sound_know flow found known entry x sound is inside named = record {
  points = sound.points;
  entries = λ p tells call e point role h. elim (cases_eq e entry) [
    | inl same ↦
        let here : callee_at flow x ≡ e = named ∙ sym same in
        let x_point : IsPoint p x = omega (arith, inside, tells.count) in
        (x, (tells.callees call e x point role x_point).1 here, sound.points p tells x is)
    | inr other ↦ sound.entries p tells call e point role (sym (get_or-set_other known entry e true false other) ∙ h)
  ];
}

same_call : (x : Exit) (entry : ℕ) → (x ≡ Calls entry) ⊎ (x ≢ Calls entry)
same_call Leaves entry = inr (λ e. let z : ⊥ = cc in z)
same_call (Calls e) entry = elim (cases_eq e entry) [ inl same ↦ inl (ap Calls same) | inr other ↦ inr (λ h. other (let z : e ≡ entry = cc in z)) ]
same_call CallsOut entry = inr (λ e. let z : ⊥ = cc in z)
same_call CallsNever entry = inr (λ e. let z : ⊥ = cc in z)
same_call Passes entry = inr (λ e. let z : ⊥ = cc in z)

target_other : (known : List Bool) (entry : ℕ) (x : Exit) → x ≢ Calls entry → target_returns (set known entry true) x ≡ target_returns known x
target_other known entry Leaves other = refl
target_other known entry (Calls e) other = get_or-set_other known entry e true false (λ same. other (ap Calls same))
target_other known entry CallsOut other = refl
target_other known entry CallsNever other = refl
target_other known entry Passes other = refl

-- what is carried to a point that doesn't call that was so before
carries_other : (flow : Flow) (known : List Bool) (entry q : ℕ) (k : EdgeKind) → exit_at flow q ≢ Calls entry → carries flow (set known entry true) q k ≡ carries flow known q k
carries_other flow known entry q Next other = ap (λ b. b && not (is_calling (exit_at flow q) && dead_end_at flow q)) (target_other known entry (exit_at flow q) other)
carries_other flow known entry q Taken other = refl
carries_other flow known entry q Fixup other = refl
carries_other flow known entry q Table other = refl
carries_other flow known entry q Sibling other = refl

pub along_know : (flow : Flow) (found after known : List Bool) (entry x : ℕ) → ((q : ℕ) → is_set found q ≡ true → is_set after q ≡ true)
    → ((q i : ℕ) → exit_at flow q ≡ Calls entry → IsEdgeOf flow q i → is_set found (edge_at flow i).to ≡ true → carries flow (set known entry true) q (edge_at flow i).kind ≡ true → is_set after q ≡ true)
    → is_set found x ≡ true → FindsAlong flow found known x → FindsAlong flow after (set known entry true) x
along_know flow found after known entry x still calls is along = λ q i of to h. elim (same_call (exit_at flow q) entry) [
  | inl call ↦ calls q i call of (subst (λ (y : ℕ). is_set found y ≡ true) (sym to) is) h
  | inr other ↦ still q (along q i of to (sym (carries_other flow known entry q (edge_at flow i).kind other) ∙ h))
]

-- what is passed on stays so where more is found
pub passed_more : (flow : Flow) (found after known : List Bool) (x : ℕ) → ((q : ℕ) → is_set found q ≡ true → is_set after q ≡ true) → IsPassedOn flow found known x → IsPassedOn flow after known x
passed_more flow found after known x still passed = record {
  edges = λ q i of to h. still q (passed.edges q i of to h);
  callee = passed.callee;
}

-- and where one more is known to return, and its calls are found
pub passed_know : (flow : Flow) (found after known : List Bool) (entry x : ℕ) → entry < length known → ((q : ℕ) → is_set found q ≡ true → is_set after q ≡ true)
    → ((q i : ℕ) → exit_at flow q ≡ Calls entry → IsEdgeOf flow q i → is_set found (edge_at flow i).to ≡ true → carries flow (set known entry true) q (edge_at flow i).kind ≡ true → is_set after q ≡ true)
    → is_set found x ≡ true → IsPassedOn flow found known x → IsPassedOn flow after (set known entry true) x
passed_know flow found after known entry x inside still calls is passed = record {
  edges = along_know flow found after known entry x still calls is passed.edges;
  callee = λ q e. holds_still known entry (callee_at flow x) inside (passed.callee q e);
}

-- a point is passed on, and those stay so that were
pub search_next : (flow : Flow) (s t : Search) (x : ℕ) → IsTaken flow s x → AreListed flow t → AreSound flow t.found.items t.known.items → Extends s t
    → ((y : ℕ) → is_set s.found.items y ≡ true → IsPassedOn flow s.found.items s.known.items y → IsPassedOn flow t.found.items t.known.items y) → IsPassedOn flow t.found.items t.known.items x → IsSearch flow t
search_next flow s t x taken listed sound extends before here = record {
  listed = listed;
  sound = sound;
  passed = λ y h. elim (extends.new y h) [
    | inl was ↦ elim (taken.passed y was) [
      | inl same ↦ inr (subst (IsPassedOn flow t.found.items t.known.items) (sym same) here)
      | inr other ↦ elim other [ inl waiting ↦ inl (extends.waiting y waiting) | inr passed ↦ inr (before y was passed) ]
    ]
    | inr waiting ↦ inl waiting
  ];
}

-- where no more is known to return
pub search_same : (flow : Flow) (s t : Search) (x : ℕ) → IsTaken flow s x → AreListed flow t → AreSound flow t.found.items t.known.items → Extends s t → t.known.items ≡ s.known.items
    → FindsAlong flow t.found.items s.known.items x → is_set s.known.items (callee_at flow x) ≡ true → IsSearch flow t
search_same flow s t x taken listed sound extends same along callee =
    search_next flow s t x taken listed sound extends
    (λ y was passed. subst (λ (known : List Bool). IsPassedOn flow t.found.items known y) (sym same) (passed_more flow s.found.items t.found.items s.known.items y extends.found passed))
    (subst (λ (known : List Bool). IsPassedOn flow t.found.items known x) (sym same) here)
  where
    here : IsPassedOn flow t.found.items s.known.items x
    here = record { edges = along; callee = λ q e. callee }

-- where one more is known to return: `one` is the search before its calls are found
module _ (flow : Flow) (s one t : Search) (x entry : ℕ) (taken : IsTaken flow s x) (named : callee_at flow x ≡ entry) (entry_in : entry < length one.known.items) where
  pub search_entry : AreListed flow t → AreSound flow t.found.items t.known.items → Extends s one → Extends one t → one.known.items ≡ s.known.items → t.known.items ≡ set one.known.items entry true → FindsAlong flow one.found.items s.known.items x
      → ((q j : ℕ) → exit_at flow q ≡ Calls entry → IsEdgeOf flow q j → is_set one.found.items (edge_at flow j).to ≡ true → carries flow (set one.known.items entry true) q (edge_at flow j).kind ≡ true → is_set t.found.items q ≡ true) → IsSearch flow t
  search_entry listed sound first second same known along calls =
      search_next flow s t x taken listed sound (extends_more s one t first second)
      (λ y was passed.
      let before : IsPassedOn flow s.found.items one.known.items y = subst (λ (ks : List Bool). IsPassedOn flow s.found.items ks y) (sym same) passed in
      subst (λ (ks : List Bool). IsPassedOn flow t.found.items ks y) (sym known)
      (passed_know flow one.found.items t.found.items one.known.items entry y entry_in second.found calls (first.found y was)
      (passed_more flow s.found.items one.found.items one.known.items y first.found before)))
      (subst (λ (ks : List Bool). IsPassedOn flow t.found.items ks x) (sym known) here)
    where
      here : IsPassedOn flow t.found.items (set one.known.items entry true) x
      here = record {
        edges = along_know flow one.found.items t.found.items one.known.items entry x second.found calls (first.found x taken.found) (subst (λ (ks : List Bool). FindsAlong flow one.found.items ks x) (sym same) along);
        callee = λ q e. subst (λ (k : ℕ). is_set (set one.known.items entry true) k ≡ true) (sym named) (holds_new one.known.items entry entry_in);
      }

-- at first nothing is found
pub search_first : (flow : Flow) (s : Search) → AreListed flow s → AreSound flow s.found.items s.known.items → s.found.items ≡ replicate (points_of flow) false → IsSearch flow s
search_first flow s listed sound none = record {
  listed = listed;
  sound = sound;
  passed = λ x h.
      let inside : x < points_of flow = omega (arith, holds_inside s.found.items x h, listed.long) in
      let not_found : is_set s.found.items x ≡ false = ap (λ (found : List Bool). is_set found x) none ∙ get_or-replicate (points_of flow) x false false inside in
      absurd (let z : ⊥ = cc in z);
}

-- those that are passed on stay so where more is found
pub search_found : (flow : Flow) (s t : Search) → IsSearch flow s → AreListed flow t → AreSound flow t.found.items t.known.items → Extends s t → t.known.items ≡ s.known.items → IsSearch flow t
search_found flow s t search listed sound extends same = record {
  listed = listed;
  sound = sound;
  passed = λ y h. elim (extends.new y h) [
    | inl was ↦ elim (search.passed y was) [
      | inl waiting ↦ inl (extends.waiting y waiting)
      | inr passed ↦ inr (subst (λ (known : List Bool). IsPassedOn flow t.found.items known y) (sym same) (passed_more flow s.found.items t.found.items s.known.items y extends.found passed))
    ]
    | inr waiting ↦ inl waiting
  ];
}

-- one that is listed last is taken
pub search_taken : (flow : Flow) (s t : Search) (x : ℕ) → IsSearch flow s → t.found.items ≡ s.found.items → t.known.items ≡ s.known.items → vec_capacity t.waiting ≡ vec_capacity s.waiting → s.waiting.items ≡ t.waiting.items ++ x ∷ [] → IsTaken flow t x
search_taken flow s t x search found known room popped = record {
  listed = record {
    long = ap length found ∙ search.listed.long;
    room = omega (arith, room, search.listed.room);
    once = omega (arith, shorter, ap (count_by (λ b. b)) found, search.listed.once);
    found = λ k d l. subst (λ (fs : List Bool). is_set fs (get_or t.waiting.items k d) ≡ true) (sym found)
        (subst (λ (y : ℕ). is_set s.found.items y ≡ true) (ap (λ (xs : List ℕ). get_or xs k d) popped ∙ get_or_append_left t.waiting.items (x ∷ []) d k l) (search.listed.found k d (omega (arith, l, shorter))));
    known = ap length known ∙ search.listed.known;
  };
  sound = subst (λ (fs : List Bool). AreSound flow fs t.known.items) (sym found) (subst (AreSound flow s.found.items) (sym known) search.sound);
  found = subst (λ (fs : List Bool). is_set fs x ≡ true) (sym found) (subst (λ (y : ℕ). is_set s.found.items y ≡ true) (ap (λ (xs : List ℕ). get_or xs (length t.waiting.items) 0) popped ∙ get_or_push t.waiting.items x 0 (length t.waiting.items) refl) (search.listed.found (length t.waiting.items) 0 (omega (arith, shorter))));
  passed = λ y h. elim (search.passed y (subst (λ (fs : List Bool). is_set fs y ≡ true) found h)) [
    | inl waiting ↦ elim (Contains-append_cases t.waiting.items (x ∷ []) y (subst (λ (xs : List ℕ). Contains xs y) popped waiting)) [
      | inl still ↦ inr (inl still)
      | inr last ↦ inl (only last)
    ]
    | inr passed ↦ inr (inr (subst (λ (fs : List Bool). IsPassedOn flow fs t.known.items y) (sym found) (subst (λ (ks : List Bool). IsPassedOn flow s.found.items ks y) (sym known) passed)))
  ];
}
  where
    shorter : length s.waiting.items ≡ length t.waiting.items + 1
    shorter = ap length popped ∙ length_push t.waiting.items x

    only : {y : ℕ} → Contains (x ∷ []) y → y ≡ x
    only (zero, l, is) = sym is
    only (suc k, l, is) = absurd (omega (arith, l))

-- none is left
pub search_end : (flow : Flow) (s t : Search) → IsSearch flow s → t.found.items ≡ s.found.items → t.known.items ≡ s.known.items → vec_capacity t.waiting ≡ vec_capacity s.waiting → s.waiting.items ≡ t.waiting.items → IsSearch flow t
search_end flow s t search found known room same = record {
  listed = record {
    long = ap length found ∙ search.listed.long;
    room = omega (arith, room, search.listed.room);
    once = omega (arith, ap length same, ap (count_by (λ b. b)) found, search.listed.once);
    found = subst (λ (fs : List Bool). All (λ q. is_set fs q ≡ true) t.waiting.items) (sym found) (subst (All (λ q. is_set s.found.items q ≡ true)) same search.listed.found);
    known = ap length known ∙ search.listed.known;
  };
  sound = subst (λ (fs : List Bool). AreSound flow fs t.known.items) (sym found) (subst (AreSound flow s.found.items) (sym known) search.sound);
  passed = λ y h. elim (search.passed y (subst (λ (fs : List Bool). is_set fs y ≡ true) found h)) [
    | inl waiting ↦ inl (subst (λ (xs : List ℕ). Contains xs y) same waiting)
    | inr passed ↦ inr (subst (λ (fs : List Bool). IsPassedOn flow fs t.known.items y) (sym found) (subst (λ (ks : List Bool). IsPassedOn flow s.found.items ks y) (sym known) passed))
  ];
}

-- those of one point more are found
pub leaving_next : (flow : Flow) (s t : Search) (n : ℕ) → FindsLeaving flow s.found.items n → Extends s t → (exit_at flow n ≡ Leaves → is_set t.found.items n ≡ true) → FindsLeaving flow t.found.items (n + 1)
leaving_next flow s t n so_far extends here q l e = elim (split q l) [
  | inl less ↦ extends.found q (so_far q less e)
  | inr same ↦ subst (λ (k : ℕ). is_set t.found.items k ≡ true) (sym same) (here (subst (λ (k : ℕ). exit_at flow k ≡ Leaves) same e))
]
  where
    split : (q : ℕ) → q < n + 1 → (q < n) ⊎ (q ≡ n)
    split q l = grind arith

-- all points that are found are passed on
pub closed_at_end : (flow : Flow) (s : Search) (n : ℕ) → IsSearch flow s → length s.waiting.items ≡ 0 → FindsLeaving flow s.found.items n → points_of flow ≤ n → AreClosed flow s.found.items s.known.items
closed_at_end flow s n search end leaving all = record {
  leaving = λ q l e. leaving q (omega (arith, l, all)) e;
  passed = λ x h. elim (search.passed x h) [
    | inl waiting ↦ absurd (omega (arith, waiting.1, end))
    | inr passed ↦ passed
  ];
}
