use Rattle.std.proofs.Common.{◌≡◌, ◌+◌, ◌≤◌, ◌<◌, ◌++◌, ◌∷◌, [], ℕ, List, drop, length, sym, ap, ◌∙◌, arith, append_assoc, append-nil}
use Rattle.alternatives.specs.declared.texts.SectionText.{SectionText}
use Rattle.alternatives.specs.declared.point.Point.{Point}
use Rattle.alternatives.specs.Gathered.{plain_points, woven}
use Rattle.alternatives.proofs.Weaving.{all_dropped, dropped}
use Rattle.alternatives.proofs.points.weave_points.Goals as goal

pub loop-text-init : goal.loop-text-init
loop-text-init c = record {
  within = omega arith;
  points = ap (λ ps. ps ++ woven (plain_points c.args.texts.now) c.args.others.now) c.in_ok-points.ensures;
}

pub loop-text-preserved : goal.loop-text-preserved
loop-text-preserved c =
    let texts : List SectionText = c.args.texts.now in
    let k : ℕ = c.loop-text.text-index in
    record {
      within = c.in_ok-next.ensures.within;
      points =
          c.in_ok-next.ensures.points (plain_points (drop (k + 1) texts))
          ∙ ap (λ ts. c.loop-text.points.items ++ woven (plain_points ts) (drop c.loop-text.next c.args.others.now)) (sym (dropped texts k c.text-item.result c.loop-text-test.true c.text-item.is))
          ∙ c.loop-text.invariant.points;
    }

pub loop-n-init : goal.loop-n-init
loop-n-init c =
    ap (λ ts. c.loop-text.points.items ++ woven (plain_points ts) (drop c.loop-text.next c.args.others.now)) (sym (all_dropped c.args.texts.now c.loop-text.text-index c.loop-text-test.false))
    ∙ c.loop-text.invariant.points

pub loop-n-preserved : goal.loop-n-preserved
loop-n-preserved c =
    let others : List Point = c.args.others.now in
    let n : ℕ = c.loop-n.n in
    let r : Point = c.index-others-n.result in
    let inside : n < length others = omega (arith, c.loop-n-test.true) in
    ap (λ ps. ps ++ drop (n + 1) others) c.in_ok-push.ensures.items
    ∙ append_assoc c.loop-n.points.items (r ∷ []) (drop (n + 1) others)
    ∙ ap (λ ps. c.loop-n.points.items ++ ps) (sym (dropped others n r inside c.index-others-n.is))
    ∙ c.loop-n.invariant

all_listed : (plain added others : List Point) (n : ℕ) → length others ≤ n → added ++ drop n others ≡ woven plain others → added ≡ woven plain others
all_listed plain added others n past same = sym (append-nil added) ∙ ap (λ ps. added ++ ps) (sym (all_dropped others n past)) ∙ same

pub returns : goal.returns
returns c = all_listed (plain_points c.args.texts.now) c.loop-n.points.items c.args.others.now c.loop-n.n (omega (arith, c.loop-n-test.false)) c.loop-n.invariant
