-- Each kept point that runs in one of the sites is added, and its site where the point is at the start.
use Rattle.std.proofs.Common.{◌≡◌, ℕ, ◌+◌, ◌<◌, ◌≤◌, ◌++◌, ◌∷◌, [], true, All, length, List, Contains, IsSome, inl, inr, arith, sym, subst}
use Rattle.std.proofs.lemmas.Bool.{cases_lt}
use Rattle.std.proofs.lemmas.List.Elements.{All-contains, All-nil, All-push, All-weaker, Contains-append_left, Contains-push, Contains-push_cases}
use Rattle.std.proofs.lemmas.List.Quantifiers.{all_pairs_push}
use Rattle.unwinding_law.proofs.Lists.{nowhere}
use Rattle.program_graph.specs.declared.parts.GraphSite.{GraphSite}
use Rattle.machine_defs.specs.Program.{Program}
use Rattle.program_graph.specs.Tells.{Tells}
use Rattle.kept_states.specs.LevelStates.{at}
use Rattle.stack_rules.specs.declared.gap.Gap.{Gap}
use Rattle.stack_rules.specs.Gaps.{IsClear, is_in_gap}
use Rattle.stack_rules.specs.Sites.{AreApart}
use Rattle.stack_rules.specs.Points.{IsStartOf, RunsIn}
use Rattle.stack_rules.proofs.Finding.{none_inside}
use Rattle.stack_rules.proofs.Lookups.{where_none, where_some}
use Rattle.stack_rules.proofs.site_points.points_in.Goals as goal
use Rattle.stack_rules.proofs.site_points.points_in.Goals.{in-Some-site_of_kept+in_ok-push+in_ok-push_start, in_default-site_of_kept}

-- no site so far
none_some : (starts : List GraphSite) → starts ≡ [] → All (λ (site : GraphSite). 0 < site.len) starts
none_some starts e = subst (All (λ (site : GraphSite). 0 < site.len)) (sym e) (All-nil (λ (site : GraphSite). 0 < site.len))

none_there : (starts : List GraphSite) → starts ≡ [] → (site : GraphSite) → Contains starts site → ⊥
none_there starts e site k = nowhere site (subst (λ (xs : List GraphSite). Contains xs site) e k)

-- nothing that runs in a gap runs in one of the sites
in_no_gap : (p : Program) (sites : List GraphSite) (gap : Gap) (q : ℕ) → IsClear sites gap → is_in_gap gap (p.address q) ≡ true → RunsIn p sites q → ⊥
in_no_gap p sites gap q clear there runs = let none = clear (p.address q) there runs.0 runs.1 in let own = runs.2 in grind arith

pub loop-n-init : goal.loop-n-init
loop-n-init c =
    let new = c.new-points.ensures.items in
    rw new (record {
      to = omega arith;
      clear = λ apart place inside. absurd (none_inside place.sec place.off inside);
      ascending = λ i j d l inside. absurd (let z : j < 0 = inside in omega (arith, z));
      below = All-nil (λ (q : ℕ). q < 0);
      kept = All-nil (λ (q : ℕ). IsSome (at c.args.kept.now q));
      told = λ p t. All-nil (RunsIn p c.args.sites.now);
      some = none_some c.args.starts.now.items c.requires.none;
      starts = λ p t site k. absurd (none_there c.args.starts.now.items c.requires.none site k);
      started = λ p t apart q site k. absurd (nowhere q k);
      all = λ p t apart q l. absurd (let z : q < 0 = l in omega (arith, z));
    })

pub loop-n-preserved : goal.loop-n-preserved
loop-n-preserved c =
    let points : List ℕ = c.loop-n.points.items in
    let sites : List GraphSite = c.args.sites.now in
    let n : ℕ = c.in-Some.n in
    let from : ℕ = c.loop-n.from in
    let order = c.in-Some.ensures.within.0 in
    let inside = c.in-Some.ensures.within.1 in
    let far : ℕ → Type 0 = λ k. k < length c.args.graph.now.parts.points.items in
    let passed = λ (p : Program) (t : Tells p c.args.graph.now.parts) (apart : AreApart sites) (q : ℕ) (low : from ≤ q) (high : q < n) (runs : RunsIn p sites q).
    in_no_gap p sites c.loop-n.gap q (c.loop-n.invariant.clear apart) (c.next_outside.ensures.inside p t q low (where_some c.next_outside.result (far q) (λ m. q < m) n c.in-Some.is high)) runs in
    elim c.match-site_of_kept.branch [
      | in-Some-site_of_kept+in_ok-push+in_ok-push_start w ↦
          let x : GraphSite = w.in-Some-site_of_kept.site in
          let is = w.points-is in
          let starts_is = w.starts-is in
          let pushed = w.in_ok-push.ensures.items in
          rw (is, starts_is, pushed) (record {
            to = omega (arith, inside);
            clear = c.site_of_kept.ensures.clear;
            ascending = all_pairs_push (λ (q r : ℕ). q < r) points n c.loop-n.invariant.ascending (λ k d l. let below = c.loop-n.invariant.below k d l in omega (arith, below, order));
            below = All-push (λ (q : ℕ). q < n + 1) points n (All-weaker (λ (q : ℕ). q < from) (λ (q : ℕ). q < n + 1) (λ q h. omega (arith, h, order)) points c.loop-n.invariant.below) (omega arith);
            kept = All-push (λ (q : ℕ). IsSome (at c.args.kept.now q)) points n c.loop-n.invariant.kept w.in-Some-site_of_kept.ensures.kept;
            told = λ p t. let h = w.in-Some-site_of_kept.ensures.site p t in All-push (RunsIn p sites) points n (c.loop-n.invariant.told p t) (x, h.0, h.1);
            some = w.in_ok-push_start.ensures.some w.in-Some-site_of_kept.ensures.some c.loop-n.invariant.some;
            starts = λ p t site k.
                let h = w.in-Some-site_of_kept.ensures.site p t in
                elim (w.in_ok-push_start.ensures.each p t h.1 site k) [
                  | inl a ↦ let r = c.loop-n.invariant.starts p t site a in (r.0, ((r.1).0, Contains-append_left points (n ∷ []) (r.1).0 (r.1).1, (r.1).2))
                  | inr e ↦ subst (λ (s : GraphSite). Contains sites s × ((q : ℕ) × Contains (points ++ n ∷ []) q × IsStartOf p s q)) e.0 (h.0, (n, Contains-push points n, e.1))
                ];
            started = λ p t apart q site k own start. elim (Contains-push_cases points n q k) [
              | inl a ↦ w.in_ok-push_start.ensures.stay site (c.loop-n.invariant.started p t apart q site a own start)
              | inr e ↦
                  let h = w.in-Some-site_of_kept.ensures.site p t in
                  let own_start : IsStartOf p site n = subst (IsStartOf p site) (sym e) start in
                  let same : x ≡ site = apart x site (p.address n) h.0 own h.1 own_start.inside in
                  subst (Contains w.push_start.new.starts.items) same (w.in_ok-push_start.ensures.start p t (subst (λ (s : GraphSite). IsStartOf p s n) (sym same) own_start))
            ];
            all = λ p t apart q l some runs. elim (cases_lt q n) [
              | inl lower ↦ elim (cases_lt q from) [
                | inl before ↦ Contains-append_left points (n ∷ []) q (c.loop-n.invariant.all p t apart q before some runs)
                | inr low ↦ absurd (passed p t apart q low lower runs)
              ]
              | inr same ↦ let e : n ≡ q = omega arith in subst (λ (r : ℕ). Contains (points ++ n ∷ []) r) e (Contains-push points n)
            ];
          })
      | in_default-site_of_kept w ↦
          let is = w.points-is in
          let starts_is = w.starts-is in
          rw (is, starts_is) (record {
            to = omega (arith, inside);
            clear = c.site_of_kept.ensures.clear;
            ascending = c.loop-n.invariant.ascending;
            below = All-weaker (λ (q : ℕ). q < from) (λ (q : ℕ). q < n + 1) (λ q h. omega (arith, h, order)) points c.loop-n.invariant.below;
            kept = c.loop-n.invariant.kept;
            told = c.loop-n.invariant.told;
            some = c.loop-n.invariant.some;
            starts = c.loop-n.invariant.starts;
            started = c.loop-n.invariant.started;
            all = λ p t apart q l some runs. elim (cases_lt q n) [
              | inl lower ↦ elim (cases_lt q from) [
                | inl before ↦ c.loop-n.invariant.all p t apart q before some runs
                | inr low ↦ absurd (passed p t apart q low lower runs)
              ]
              | inr same ↦
                  let e : q ≡ n = omega arith in
                  absurd (w.in_default-site_of_kept.ensures.none p t apart (subst (λ (r : ℕ). IsSome (at c.args.kept.now r)) e some) (subst (RunsIn p sites) e runs))
            ];
          })
    ]

pub returns-clause-told : goal.returns-clause-told
returns-clause-told c p t apart = record {
  each = λ q k. All-contains (RunsIn p c.args.sites.now) c.loop-n.points.items q (c.loop-n.invariant.told p t) k;
  all = λ q point some runs.
      let far : ℕ → Type 0 = λ k. k < length c.args.graph.now.parts.points.items in
      elim (cases_lt q c.loop-n.from) [
        | inl before ↦ c.loop-n.invariant.all p t apart q before some runs
        | inr low ↦ absurd (in_no_gap p c.args.sites.now c.loop-n.gap q (c.loop-n.invariant.clear apart) (c.next_outside.ensures.inside p t q low (where_none c.next_outside.result (far q) (λ m. q < m) c.in_default.not-Some (omega (arith, point, t.count)))) runs)
      ];
}

pub returns-clause-each : goal.returns-clause-each
returns-clause-each c p t = c.loop-n.invariant.told p t

pub returns-clause-starts : goal.returns-clause-starts
returns-clause-starts c p t apart = record {
  each = c.loop-n.invariant.starts p t;
  all = c.loop-n.invariant.started p t apart;
}
