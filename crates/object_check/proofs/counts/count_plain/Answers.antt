use Rattle.std.proofs.Common.{◌≡◌, ◌+◌, ◌<◌, ℕ, true, false, List, length, get_or, arith, sym, ap, ◌∙◌}
use Rattle.std.proofs.lemmas.Bool.{eq-eqb, ne_eqb}
use Rattle.std.proofs.lemmas.List.Sums.{count_by_more_no, count_by_more_yes}
use Rattle.std.proofs.lemmas.Option.{get_or_from_slice_get, slice_get_within}
use Rattle.alternatives.specs.declared.point.Point.{Point}
use Rattle.flow_defs.specs.Code.{is_plain}
use Rattle.object_check.proofs.counts.count_plain.Goals as goal
use Rattle.object_check.proofs.counts.count_plain.Goals.{then-point-eq0, else-point-eq0}

pub loop-n-preserved : goal.loop-n-preserved
loop-n-preserved c =
    let points : List Point = c.args.sites.now.points in
    let n : ℕ = c.loop-n.n in
    let p : Point = c.point.result in
    let inside : n < length points = slice_get_within points n p c.point.ensures in
    let is : get_or points n p ≡ p = get_or_from_slice_get points n p p c.point.ensures in
    elim c.if-point-eq0.branch [
      | then-point-eq0 w ↦
          let test : is_plain (get_or points n p) ≡ true = ap is_plain is ∙ eq-eqb p.variant 0 w.if-point-eq0.true in
          record {
            count = w.plain-is ∙ ap (λ m. m + 1) c.loop-n.invariant.count ∙ sym (count_by_more_yes is_plain points n p inside test);
            few = omega (arith, w.plain-is, c.loop-n.invariant.few);
          }
      | else-point-eq0 w ↦
          let test : is_plain (get_or points n p) ≡ false = ap is_plain is ∙ ne_eqb p.variant 0 w.if-point-eq0.false in
          record {
            count = w.plain-is ∙ c.loop-n.invariant.count ∙ sym (count_by_more_no is_plain points n p inside test);
            few = omega (arith, w.plain-is, c.loop-n.invariant.few);
          }
    ]
