use Rattle.std.proofs.Common.{◌≡◌, ◌+◌, ◌<◌, ◌++◌, ◌∷◌, ℕ, true, List, drop, length, get_or, sym, ap, ◌∙◌, arith}
use Rattle.ot_base.specs.Places.{is_before}
use Rattle.alternatives.specs.declared.point.Point.{Point}
use Rattle.alternatives.specs.Gathered.{woven}
use Rattle.alternatives.proofs.Weaving.{step_other}
use Rattle.alternatives.proofs.points.push_before.Goals as goal

pub loop-point-preserved : goal.loop-point-preserved
loop-point-preserved c =
    let others : List Point = c.args.others.now in
    let p : Point = c.args.point in
    let n : ℕ = c.loop-point.next in
    let r : Point = c.index-others-next.result in
    let next : (n < length others) × ((d : Point) → is_before (get_or others n d).place p.place ≡ true) = c.comes_first.ensures.other c.loop-point-test.true in
    record {
      within = omega (arith, next.0);
      points = λ rest.
          ap (λ xs. xs ++ woven (p ∷ rest) (drop (n + 1) others)) c.in_ok-push.ensures.items
          ∙ step_other p rest others c.loop-point.points.items n r next.0 c.index-others-next.is (ap (λ (q : Point). is_before q.place p.place) c.index-others-next.is ∙ next.1 r)
          ∙ c.loop-point.invariant.points rest;
    }

pub returns-clause-points : goal.returns-clause-points
returns-clause-points c = λ rest.
    let p : Point = c.args.point in
    let n : ℕ = c.loop-point.next in
    ap (λ xs. c.loop-point.points.items ++ xs) (sym (c.comes_first.ensures.plain c.loop-point-test.false rest)) ∙ c.loop-point.invariant.points rest
