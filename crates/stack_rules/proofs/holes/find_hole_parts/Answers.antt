-- One point more, and at the end every point.
use Rattle.std.proofs.Common.{◌≡◌, ℕ, arith, subst}
use Rattle.stack_rules.specs.Holes.{AreHoleParts}
use Rattle.stack_rules.proofs.HoleParts.{parts_more}
use Rattle.stack_rules.proofs.holes.find_hole_parts.Goals as goal

pub loop-n-init : goal.loop-n-init
loop-n-init c p t part = (λ k. absurd (c.none-parts.ensures part k), λ (hole, l, k). absurd (omega (arith, l)))

pub loop-n-preserved : goal.loop-n-preserved
loop-n-preserved c p t = parts_more p c.args.options c.loop-n.n c.loop-n.parts c.note_point.new.parts (c.loop-n.invariant p t) (λ part. c.in_ok-note_point.ensures p part t)

pub returns : goal.returns
returns c p t =
    let all : c.loop-n.n ≡ p.count = omega (arith, c.loop-n-test.false, c.loop-n.auto.n-end, c.points-n-end.ensures.count p t) in
    subst (λ (n : ℕ). AreHoleParts p c.args.options n c.loop-n.parts) all (c.loop-n.invariant p t)
