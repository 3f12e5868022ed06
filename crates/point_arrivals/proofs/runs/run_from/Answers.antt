use Rattle.std.proofs.Common.{◌≡◌, ℕ, ◌+◌, ◌-◌, true, inl, inr, sym, ap, ◌∙◌, arith}
use Rattle.std.proofs.lemmas.Bool.{cases_lt}
use Rattle.ot_base.specs.declared.place.Place.{Place}
use Rattle.machine_defs.specs.Program.{in_site, Site}
use Rattle.program_graph.specs.Tells.{site_of}
use Rattle.alternatives.specs.declared.point.Point.{Point}
use Rattle.flow_defs.specs.Coded.{Coded}
use Rattle.flow_defs.specs.Arrival.{is_short_nop_at, run_from}
use Rattle.flow_defs.specs.Code.{point_at}
use Rattle.point_arrivals.proofs.NopRuns.{run_is}
use Rattle.point_arrivals.proofs.runs.run_from.Goals as goal

-- by the point that is looked up
found_run : (o : Coded) (p q : Point) (site : Site) (k : ℕ) → p ≡ q → in_site site q.place ≡ true → (in_site site p.place ≡ true → k ≡ run_from o p.place site) → k ≡ run_from o q.place site
found_run o p q site k same inside is = is (ap (λ (r : Point). in_site site r.place) same ∙ inside) ∙ ap (λ (r : Point). run_from o r.place site) same

pub returns-then-not-is_short_nop_at-clause-exact : goal.returns-then-not-is_short_nop_at-clause-exact
returns-then-not-is_short_nop_at-clause-exact c =
    let o : Coded = c.args.places.now in
    let place : Place = c.point.result.place in
    found_run o c.point.result (point_at o c.args.n) (site_of c.args.site) c.loop-k.k c.point.ensures c.requires.inside (λ inside.
    run_is o place (site_of c.args.site) c.loop-k.k inside (omega (arith, c.loop-k-test.true)) c.loop-k.invariant.0 (λ more. sym c.is_short_nop_at.ensures.exact ∙ c.if-not-is_short_nop_at.true))

pub loop-k-preserved : goal.loop-k-preserved
loop-k-preserved c =
    let o : Coded = c.args.places.now in
    let place : Place = c.point.result.place in (
      λ i inside. elim (cases_lt i c.loop-k.k) [
        | inl low ↦ c.loop-k.invariant.0 i low
        | inr high ↦
            let last : c.loop-k.k ≡ i = omega (arith, high, inside) in
            ap (λ j. is_short_nop_at o place.sec (place.off + j)) (sym last) ∙ sym c.is_short_nop_at.ensures.exact ∙ c.if-not-is_short_nop_at.false
      ],
      omega (arith, c.is_short_nop_at.ensures.low c.if-not-is_short_nop_at.false),
    )

pub returns-clause-exact : goal.returns-clause-exact
returns-clause-exact c =
    let o : Coded = c.args.places.now in
    let place : Place = c.point.result.place in
    let rest : ℕ = c.args.site.len - (place.off - c.args.site.start.off) in
    found_run o c.point.result (point_at o c.args.n) (site_of c.args.site) rest c.point.ensures c.requires.inside (λ inside.
    run_is o place (site_of c.args.site) rest inside (omega arith) (λ i less. c.loop-k.invariant.0 i (omega (arith, less, c.loop-k-test.false))) (λ more. absurd (omega (arith, more))))
