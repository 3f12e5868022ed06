-- A run back over points to which nothing else leads.
use Rattle.std.proofs.Common.{◌≡◌, ℕ, ◌+◌, ◌<◌, ◌≤◌, inl, inr, Bool, true, false, cond, not, ◌&&◌, List, Option, None, All, Contains, map, length, get_or, set, refl, sym, ap, ◌∙◌, subst, arith, length-set}
use Rattle.std.specs.Prelude.{count_by, unwrap_or, vec_capacity}
use Rattle.std.proofs.lemmas.Bool.{cases_lt}
use Rattle.std.proofs.lemmas.List.{get_or_past}
use Rattle.std.proofs.lemmas.List.Sums.{sum_by-set}
use Rattle.machine_defs.specs.declared.flow.EdgeKind.{EdgeKind}
use Rattle.machine_defs.specs.declared.flow.EdgeKind.TheVariants.{Next, Taken, Fixup, Table, Sibling}
use Rattle.return_search.specs.declared.backward.Backward.{Backward}
use Rattle.return_search.specs.declared.backward.Lead.{Lead}
use Rattle.return_search.specs.declared.backward.Lead.TheVariants.{Call, Edge}
use Rattle.return_search.specs.declared.searched_flow.Exit.{Exit}
use Rattle.return_search.specs.declared.searched_flow.Exit.TheVariants.{Calls, Passes}
use Rattle.return_search.specs.declared.searched_flow.Flow.{Flow}
use Rattle.return_search.specs.declared.return_search.Search.{Search}
use Rattle.return_search.specs.Chained.{IsLastBelow, IsOpen}
use Rattle.return_search.specs.Told.{callee_at, dead_end_at, entered_at, exit_at}
use Rattle.return_search.specs.Shape.{HasShape, points_of}
use Rattle.return_search.specs.Backward.{IsBackward, PassesOn, StepsOn, edge_at, key_of}
use Rattle.return_search.specs.Search.{is_set, carries, is_calling, target_returns, AreSound, IsCarriedBy, IsPassedOn, IsSteppedTo, IsTaken, RunsOn}
use Rattle.return_search.proofs.Chaining.{last_open}
use Rattle.return_search.proofs.Least.{carried_sound}
use Rattle.return_search.proofs.Passing.{passed_more}
use Rattle.return_search.proofs.Ranges.{ends_within}
use Rattle.return_search.proofs.SearchSteps.{holds_before, holds_new, holds_still, sound_find}
use Rattle.return_search.proofs.Walks.{call_key, edge_key, in_keys, lead_of}

-- what calls is a point
caller_in : (flow : Flow) (q entry : ℕ) → exit_at flow q ≡ Calls entry → q < points_of flow
caller_in flow q entry is = elim (cases_lt q (points_of flow)) [
  | inl inside ↦ inside
  | inr past ↦ absurd (let passes : exit_at flow q ≡ Passes = get_or_past flow.exits.items q Passes past in let z : ⊥ = cc in z)
]

-- nothing else leads to an open point, and no call names it where control comes to it at no entry
module _ (flow : Flow) (shape : HasShape flow) (backward : Backward) (back : IsBackward flow backward) (x : ℕ) (inside : x < points_of flow) (own : entered_at flow x ≡ None) (is_open : IsOpen backward.chains.heads.items x) where
  abbrev leads : List Lead
  leads = backward.leads.items

  last : IsLastBelow (map (key_of flow) leads) x (length (map (key_of flow) leads)) None
  last = last_open backward.chains.heads.items backward.chains.links.items (map (key_of flow) leads) x back.chains (omega (arith, inside, back.heads)) is_open

  pub stepped_to : IsSteppedTo flow x
  stepped_to = record {
    edges = λ q i of to. elim (back.leads.edges q i (omega (arith, ends_within flow shape q of.point, of.to)) of) [
      | inl behind ↦ sym behind ∙ to
      | inr listed ↦
          let at = lead_of leads (Edge q i) listed in
          absurd (last at.0 (in_keys flow leads x at.0 at.1) (edge_key flow leads x at.0 q i at.1 at.2 to))
    ];
    calls = λ q is.
        let named : callee_at flow x ≡ x = ap (λ (o : Option ℕ). unwrap_or o x) own in
        let called : exit_at flow q ≡ Calls x = is ∙ ap Calls named in
        let at = lead_of leads (Call q) (back.leads.calls q x (caller_in flow q x called) called) in
        last at.0 (in_keys flow leads x at.0 at.1) (call_key flow leads x at.0 q at.1 at.2 called);
    steps = λ q before. back.steps q (omega (arith, before, inside)) (subst (IsOpen backward.chains.heads.items) (sym before) is_open);
  }

-- any return is carried over the edges of a point that passes on
next_carries : (flow : Flow) (known : List Bool) (q : ℕ) → PassesOn flow q → target_returns known (exit_at flow q) && not (is_calling (exit_at flow q) && dead_end_at flow q) ≡ true
next_carries flow known q (inl is) = ap (λ (x : Exit). target_returns known x && not (is_calling x && dead_end_at flow q)) is
next_carries flow known q (inr (is, alive)) = ap (λ (x : Exit). target_returns known x && not (is_calling x && dead_end_at flow q)) is ∙ ap not alive

carries_passing : (flow : Flow) (known : List Bool) (q : ℕ) (k : EdgeKind) → PassesOn flow q → carries flow known q k ≡ true
carries_passing flow known q Next passes = next_carries flow known q passes
carries_passing flow known q Taken passes = refl
carries_passing flow known q Fixup passes = refl
carries_passing flow known q Table passes = refl
carries_passing flow known q Sibling passes = refl

count_bit : (b : Bool) → cond b 1 0 ≤ 1
count_bit true = omega arith
count_bit false = omega arith

-- the point right before one that was taken, which steps on to it, is found, and taken in its place
module _ (flow : Flow) (shape : HasShape flow) (s t : Search) (x q : ℕ) (before : q + 1 ≡ x) (taken : IsTaken flow s x) (led : IsSteppedTo flow x) (found : t.found.items ≡ set s.found.items q true) where
  step : StepsOn flow q
  step = led.steps q before

  by : IsCarriedBy flow s.found.items s.known.items q step.edge
  by = (step.of, subst (λ (k : ℕ). is_set s.found.items k ≡ true) (sym (step.behind ∙ before)) taken.found, carries_passing flow s.known.items q (edge_at flow step.edge).kind step.passes)

  inside : q < length s.found.items
  inside = omega (arith, step.of.point, taken.listed.long)

  still : (y : ℕ) → is_set s.found.items y ≡ true → is_set t.found.items y ≡ true
  still y h = subst (λ (fs : List Bool). is_set fs y ≡ true) (sym found) (holds_still s.found.items q y inside h)

  now : is_set t.found.items q ≡ true
  now = subst (λ (fs : List Bool). is_set fs q ≡ true) (sym found) (holds_new s.found.items q inside)

  counted : count_by (λ b. b) s.found.items ≤ count_by (λ b. b) t.found.items
  counted =
      let e = sum_by-set (λ (b : Bool). cond b 1 0) s.found.items q true false inside in
      omega (arith, ap (count_by (λ b. b)) found, e, count_bit (is_set s.found.items q))

  here : (known : List Bool) → IsPassedOn flow t.found.items known x
  here known = record {
    edges = λ r j of to h.
        let same : r ≡ q = omega (arith, led.edges r j of to, before) in
        subst (λ (k : ℕ). is_set t.found.items k ≡ true) (sym same) now;
    callee = λ r is. absurd (led.calls r is);
  }

  sound_now : AreSound flow (set s.found.items q true) s.known.items
  sound_now = sound_find flow s.found.items s.known.items q taken.sound (λ p tells. carried_sound p flow tells shape s.found.items s.known.items taken.sound q step.edge by.0 by.2 (taken.sound.points p tells (edge_at flow step.edge).to by.1))

  pub run_on : t.waiting.items ≡ s.waiting.items → RunsOn s t
  run_on waiting = record { found = still; waiting = waiting; more = omega (arith, counted) }

  pub run_taken : t.known.items ≡ s.known.items → t.waiting.items ≡ s.waiting.items → vec_capacity t.waiting ≡ vec_capacity s.waiting → IsTaken flow t q
  run_taken known waiting room = record {
    listed = record {
      long = ap length found ∙ length-set s.found.items q true ∙ taken.listed.long;
      room = omega (arith, room, taken.listed.room);
      once = omega (arith, ap length waiting, counted, taken.listed.once);
      found = subst (All (λ y. is_set t.found.items y ≡ true)) (sym waiting) (λ k d l. still (get_or s.waiting.items k d) (taken.listed.found k d l));
      known = ap length known ∙ taken.listed.known;
    };
    sound = subst (λ (fs : List Bool). AreSound flow fs t.known.items) (sym found) (subst (AreSound flow (set s.found.items q true)) (sym known) sound_now);
    found = now;
    passed = λ y h. elim (holds_before s.found.items q y (subst (λ (fs : List Bool). is_set fs y ≡ true) found h)) [
      | inl was ↦ elim (taken.passed y was) [
        | inl same ↦ inr (inr (subst (IsPassedOn flow t.found.items t.known.items) (sym same) (here t.known.items)))
        | inr other ↦ elim other [
          | inl listed ↦ inr (inl (subst (λ (xs : List ℕ). Contains xs y) (sym waiting) listed))
          | inr passed ↦ inr (inr (subst (λ (ks : List Bool). IsPassedOn flow t.found.items ks y) (sym known) (passed_more flow s.found.items t.found.items s.known.items y still passed)))
        ]
      ]
      | inr same ↦ inl same
    ];
  }

pub runs_nowhere : (s : Search) → RunsOn s s
runs_nowhere s = record { found = λ q h. h; waiting = refl; more = omega arith }

pub runs_further : (r s t : Search) → RunsOn r s → RunsOn s t → RunsOn r t
runs_further r s t one other = record {
  found = λ q h. other.found q (one.found q h);
  waiting = other.waiting ∙ one.waiting;
  more = omega (arith, one.more, other.more);
}
