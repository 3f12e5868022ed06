-- Control is followed from where it begins, and all that is reached is found.
use Rattle.std.proofs.Common.{◌≡◌, ◌↔◌, inl, inr, ℕ, ◌<◌, Bool, true, false, List, [], ◌∷◌, None, Result, ◌==◌, Contains, refl, sym, ap, subst, arith}
use Rattle.std.specs.Prelude.{OnOk, Ok, Err}
use Rattle.std.specs.List.{list_any}
use Rattle.std.proofs.lemmas.Bool.{eq-eqb, eqb-true}
use Rattle.machine_defs.specs.declared.flow.Edge.{Edge}
use Rattle.machine_defs.specs.Program.{Program, IsPoint, entry_points}
use Rattle.machine_defs.specs.Kept.{edges_of, is_at_entry}
use Rattle.unwinding_law.proofs.Lists.{cases, find_one, found, from_filter, there}
use Rattle.machine_defs.specs.Allowances.{Allowances, is_safe, is_safe_owner}
use Rattle.machine_defs.specs.Access.{Reached}
use Rattle.machine_defs.specs.Ways.{is_call_hint}
use Rattle.program_graph.specs.declared.parts.GraphParts.{GraphParts}
use Rattle.program_check.specs.declared.allowance_table.AllowanceTable.{AllowanceTable}
use Rattle.program_check.specs.declared.access_ways.Ways.{Ways}
use Rattle.program_check.specs.declared.access_search.Visit.{Visit}
use Rattle.program_check.specs.Tracks.{Tracks}
use Rattle.program_check.specs.Search.{AreReached, IsFollowed, IsFound, IsReached, IsSearch, IsStarted, visit}

-- two facts of one success
pub ok_both : {T E : Type 0} (r : Result T E) (P Q : Type 0) → OnOk r P → OnOk r Q → OnOk r (P × Q)
ok_both (Ok x) P Q one two = (one, two)
ok_both (Err e) P Q one two = one

-- what is found stays found, also where control begins
pub started_still : (p : Program) (allowed : Allowances) (old new : List Ways) (q : ℕ) → ((v : Visit) → IsFound old v → IsFound new v) → IsStarted p allowed old q → IsStarted p allowed new q
started_still p allowed old new q still started = record {
  entered = λ e runs. still (visit q (is_safe p allowed q) (is_safe p allowed q)) (started.entered e runs);
  hinted = λ own none. still (visit q false false) (started.hinted own none);
  called = λ hint none runs. still (visit q false false) (started.called hint none runs);
}

module _ (p : Program) (allowed : Allowances) (ways : List Ways) where
  -- when all edges are followed, the point need not be any more
  pub followed_all : (v : Visit) (pending : List Visit) → IsSearch p allowed ways (v ∷ pending) → IsFollowed p allowed ways v → IsSearch p allowed ways pending
  followed_all v pending search followed = record {
    found = search.found;
    waiting = λ u c. search.waiting u (there v pending u c);
    followed = λ u f. elim (search.followed u f) [
      | inl c ↦ elim (cases v pending u c) [ inl e ↦ inr (subst (IsFollowed p allowed ways) e followed) | inr d ↦ inl d ]
      | inr g ↦ inr g
    ];
  }

  -- in another order
  pub search_same : (one other : List Visit) → ((v : Visit) → Contains one v ↔ Contains other v) → IsSearch p allowed ways one → IsSearch p allowed ways other
  search_same one other same search = record {
    found = search.found;
    waiting = λ u c. search.waiting u ((same u).1 c);
    followed = λ u f. elim (search.followed u f) [ inl c ↦ inl ((same u).0 c) | inr g ↦ inr g ];
  }

module _ (p : Program) (allowed : Allowances) (parts : GraphParts) (table : AllowanceTable) (tracks : Tracks p allowed parts table) where
  -- where control comes to an entry, it does as the function there expects
  entry_of : (q : ℕ) → is_at_entry p q ≡ true → (entry : ℕ) × Contains p.entries entry × Contains (entry_points p entry) q
  entry_of q e =
      let entry = find_one (λ x. list_any (λ y. y == q) (entry_points p x)) p.entries e in
      let y = find_one (λ y. y == q) (entry_points p entry.0) entry.2 in
      (entry.0, entry.1, subst (λ (z : ℕ). Contains (entry_points p entry.0) z) (eqb-true y.0 q y.2) y.1)

  same_safety : (q entry : ℕ) → Contains p.entries entry → Contains (entry_points p entry) q → is_safe p allowed entry ≡ is_safe p allowed q
  same_safety q entry c d = ap (is_safe_owner allowed) (sym (tracks.functions.arrivals entry q c d).1)

  pub entered_reached : (q : ℕ) → is_at_entry p q ≡ true → allowed.lacks_smap q ≡ false → IsReached p allowed (visit q (is_safe p allowed q) (is_safe p allowed q))
  entered_reached q e runs =
      let entry = entry_of q e in
      subst (λ (b : Bool). Reached p allowed q b b) (same_safety q entry.0 entry.1 entry.2) (Reached.entered q entry.0 entry.1 entry.2 runs)

  pub hinted_reached : (q : ℕ) → IsPoint p q → p.own_hint q ≡ true × p.owner q ≡ None → IsReached p allowed (visit q false false)
  hinted_reached q point (own, none) = Reached.hinted q point own none

  pub called_reached : (q : ℕ) → IsPoint p q → is_call_hint (p.hint q) ≡ true × p.owner q ≡ None × allowed.lacks_smap q ≡ false → IsReached p allowed (visit q false false)
  called_reached q point (hint, none, runs) = Reached.called q point hint none runs

  is_entered : (q entry : ℕ) → Contains p.entries entry → Contains (entry_points p entry) q → is_at_entry p q ≡ true
  is_entered q entry c d = found (λ x. list_any (λ y. y == q) (entry_points p x)) p.entries entry c (found (λ y. y == q) (entry_points p entry) q d (eq-eqb q q refl))

  pub entry_is_point : (q entry : ℕ) → Contains (entry_points p entry) q → IsPoint p q
  entry_is_point q entry d = tracks.is_program.arrivals (p.place entry) q d

  pub target_is_point : (q : ℕ) (e : Edge) → IsPoint p q → Contains (edges_of p q) e → IsPoint p e.to
  target_is_point q e point c = tracks.is_program.edges q e point (from_filter _ (p.goes q) e c).0

  -- control comes to points alone
  pub reached_point : (q : ℕ) (access home : Bool) → Reached p allowed q access home → IsPoint p q
  reached_point _ _ _ (Reached.entered q entry c d runs) = entry_is_point q entry d
  reached_point _ _ _ (Reached.hinted q point own none) = point
  reached_point _ _ _ (Reached.called q point hint none runs) = point
  reached_point _ _ _ (Reached.along q access home e r c stays runs) = target_is_point q e (reached_point q access home r) c

  module _ (ways : List Ways) (search : IsSearch p allowed ways []) (started : (q : ℕ) → IsPoint p q → IsStarted p allowed ways q) where
    followed : (v : Visit) → IsFound ways v → IsFollowed p allowed ways v
    followed v f = elim (search.followed v f) [ inl c ↦ absurd (let l : c.0 < 0 = c.1 in omega (arith, l)) | inr g ↦ g ]

    all_found : (q : ℕ) (access home : Bool) → Reached p allowed q access home → IsFound ways (visit q access home)
    all_found _ _ _ (Reached.entered q entry c d runs) =
        subst (λ (b : Bool). IsFound ways (visit q b b)) (sym (same_safety q entry c d)) ((started q (entry_is_point q entry d)).entered (is_entered q entry c d) runs)
    all_found _ _ _ (Reached.hinted q point own none) = (started q point).hinted own none
    all_found _ _ _ (Reached.called q point hint none runs) = (started q point).called hint none runs
    all_found _ _ _ (Reached.along q access home e r c stays runs) = followed (visit q access home) (all_found q access home r) e c stays runs

    -- the search has found all that is reached, and nothing else
    pub are_reached : AreReached p allowed ways
    are_reached v = (search.found v, all_found v.point v.access v.home)
