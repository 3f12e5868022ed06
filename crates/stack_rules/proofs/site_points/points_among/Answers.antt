-- Each point that runs in one of the sites is added.
use Rattle.std.proofs.Common.{◌≡◌, ℕ, ◌<◌, ◌++◌, ◌∷◌, [], List, Contains, length, get_or, inl, inr, arith, ap, sym, ◌∙◌, subst}
use Rattle.std.proofs.lemmas.Bool.{both_ways, cases_lt}
use Rattle.std.proofs.lemmas.List.{get_or_default}
use Rattle.std.proofs.lemmas.List.Elements.{All-contains, All-push, Contains-append_left, Contains-get_or, Contains-push, Contains-push_cases}
use Rattle.std.proofs.lemmas.List.Quantifiers.{all_pairs_push}
use Rattle.program_graph.specs.declared.parts.GraphSite.{GraphSite}
use Rattle.stack_rules.specs.Points.{RunsIn}
use Rattle.stack_rules.proofs.site_points.points_among.Goals as goal
use Rattle.stack_rules.proofs.site_points.points_among.Goals.{then-runs_in+in_ok-push, else-runs_in}

-- the element at i, whatever is there past the end
here_is : (items : List ℕ) (i k d e : ℕ) → i < length items → i ≡ k → get_or items i d ≡ get_or items k e
here_is items i k d e inside same = get_or_default items i d e inside ∙ ap (λ (n : ℕ). get_or items n e) same

pub loop-n-preserved : goal.loop-n-preserved
loop-n-preserved c =
    let items : List ℕ = c.args.points.now in
    let sites : List GraphSite = c.args.sites.now in
    let i : ℕ = c.loop-n.n-index in
    let among : List ℕ = c.loop-n.among.items in
    let x : ℕ = get_or items i 0 in
    let inside : i < length items = c.loop-n-test.true in
    elim c.if-runs_in.branch [
      | then-runs_in+in_ok-push w ↦
          let is = w.among-is in
          let pushed = w.in_ok-push.ensures.items in
          rw (is, pushed) (record {
            from = λ q k. elim (Contains-push_cases among x q k) [
              | inl a ↦ let r = c.loop-n.invariant.from q a in (r.0, omega (arith, r.1), r.2)
              | inr e ↦ (i, omega arith, λ d. get_or_default items i d 0 inside ∙ e)
            ];
            ascending = λ up. all_pairs_push (λ (q r : ℕ). q < r) among x (c.loop-n.invariant.ascending up) (λ k d l.
                let r = c.loop-n.invariant.from (get_or among k d) (Contains-get_or among k d l) in
                let before : get_or items r.0 0 < x = up r.0 i 0 r.1 inside in
                let is_that : get_or items r.0 0 ≡ get_or among k d = r.2 0 in
                omega (arith, before, is_that));
            told = λ p t. All-push (RunsIn p sites) among x (c.loop-n.invariant.told p t) (c.runs_in.ensures.held w.if-runs_in.true p t);
            all = λ p t apart k d l runs. elim (cases_lt k i) [
              | inl lower ↦ Contains-append_left among (x ∷ []) (get_or items k d) (c.loop-n.invariant.all p t apart k d lower runs)
              | inr same ↦ subst (λ (q : ℕ). Contains (among ++ x ∷ []) q) (here_is items i k 0 d inside (omega (arith, l, same))) (Contains-push among x)
            ];
          })
      | else-runs_in w ↦
          let is = w.among-is in
          rw is (record {
            from = λ q k. let r = c.loop-n.invariant.from q k in (r.0, omega (arith, r.1), r.2);
            ascending = c.loop-n.invariant.ascending;
            told = c.loop-n.invariant.told;
            all = λ p t apart k d l runs. elim (cases_lt k i) [
              | inl lower ↦ c.loop-n.invariant.all p t apart k d lower runs
              | inr same ↦
                  let that : x ≡ get_or items k d = here_is items i k 0 d inside (omega (arith, l, same)) in
                  absurd (both_ways c.runs_in.result w.if-runs_in.false (c.runs_in.ensures.none p t apart (subst (RunsIn p sites) (sym that) runs)))
            ];
          })
    ]

pub returns-clause-listed : goal.returns-clause-listed
returns-clause-listed c q k = let r = c.loop-n.invariant.from q k in (r.0, omega (arith, r.1, c.loop-n.auto.n-index-end), r.2 q)

pub returns-clause-told : goal.returns-clause-told
returns-clause-told c p t apart = record {
  each = λ q k. (returns-clause-listed c q k, All-contains (RunsIn p c.args.sites.now) c.loop-n.among.items q (c.loop-n.invariant.told p t) k);
  all = λ q (k, l, e) runs. subst (λ (r : ℕ). Contains c.loop-n.among.items r) e (c.loop-n.invariant.all p t apart k q (omega (arith, c.loop-n-test.false, l)) (subst (RunsIn p c.args.sites.now) (sym e) runs));
}
