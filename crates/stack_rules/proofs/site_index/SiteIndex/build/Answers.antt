-- Each site with a byte is added.
use Rattle.std.proofs.Common.{ℕ, ◌<◌, List, Contains, length, get_or, inl, inr, arith, subst, sym}
use Rattle.std.proofs.lemmas.List.Elements.{All-push, Contains-get_or, Contains-push_cases}
use Rattle.program_graph.specs.declared.parts.GraphSite.{GraphSite}
use Rattle.stack_rules.proofs.Steps.{all_made, none_made}
use Rattle.stack_rules.proofs.ListedPoints.{index_of}
use Rattle.stack_rules.proofs.site_index.SiteIndex.build.Goals as goal
use Rattle.stack_rules.proofs.site_index.SiteIndex.build.Goals.{then-site-ne0+in_ok-push, else-site-ne0}

none : GraphSite
none = record { start = record { sec = 0; off = 0 }; len = 0 }

pub loop-site-preserved : goal.loop-site-preserved
unfolding none
loop-site-preserved c =
    let items : List GraphSite = c.sites-site-items.result.now in
    let i : ℕ = c.loop-site.site-index in
    let sites : List GraphSite = c.loop-site.sites.items in
    let x : GraphSite = get_or items i none in
    let inside : i < length items = c.loop-site-test.true in
    elim c.if-site-ne0.branch [
      | then-site-ne0+in_ok-push w ↦
          let is = w.sites-is in
          let pushed = w.in_ok-push.ensures.items in
          let some : 0 < x.len = omega (arith, w.if-site-ne0.true) in
          rw (is, pushed) (record {
            listed = λ site k. elim (Contains-push_cases sites x site k) [ inl a ↦ c.loop-site.invariant.listed site a | inr e ↦ subst (λ (s : GraphSite). Contains items s) e (Contains-get_or items i none inside) ];
            all = all_made (λ (s : GraphSite). s) (λ (s : GraphSite). 0 < s.len) items i none inside sites c.loop-site.invariant.all;
            some = All-push (λ (s : GraphSite). 0 < s.len) sites x c.loop-site.invariant.some some;
          })
      | else-site-ne0 w ↦
          let is = w.sites-is in
          rw is (record {
            listed = c.loop-site.invariant.listed;
            all = none_made (λ (s : GraphSite). s) (λ (s : GraphSite). 0 < s.len) items i none inside sites c.loop-site.invariant.all (λ (h : 0 < x.len). omega (arith, w.if-site-ne0.false));
            some = c.loop-site.invariant.some;
          })
    ]

pub returns : goal.returns
returns c p t =
    let items : List GraphSite = c.sites-site-items.result.now in
    index_of p items c.sorted.result (c.sites-site-items.ensures p t)
    (λ site k. c.loop-site.invariant.listed site ((c.sorted.ensures site).0 k))
    (λ site k some. (c.sorted.ensures site).1 (each site k some))
  where
    each : (site : GraphSite) → Contains c.sites-site-items.result.now site → 0 < site.len → Contains c.loop-site.sites.items site
    each site (k, l, e) some = subst (λ (s : GraphSite). Contains c.loop-site.sites.items s) e (c.loop-site.invariant.all k site (omega (arith, c.loop-site-test.false, l)) (subst (λ (s : GraphSite). 0 < s.len) (sym e) some))
