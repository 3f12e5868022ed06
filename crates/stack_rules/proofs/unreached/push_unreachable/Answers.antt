-- One point more, and at the end every point.
use Rattle.std.proofs.Common.{◌≡◌, ℕ, ap, ◌∙◌, arith}
use Rattle.ot_base.specs.declared.warning.Warning.{Warning}
use Rattle.ot_base.specs.Warnings.{bare_warning}
use Rattle.machine_defs.specs.Program.{IsPoint}
use Rattle.machine_defs.specs.Broken.{IsFirstUnreached}
use Rattle.stack_rules.proofs.GainsLemmas.{OfBelow, gains_for, gains_number, gains_same}
use Rattle.stack_rules.proofs.unreached.push_unreachable.Goals as goal

pub loop-n-preserved : goal.loop-n-preserved
loop-n-preserved c p ch =
    gains_number c.args.into.now.items c.loop-n.into.items c.push_if.new.into.items (λ q w. IsFirstUnreached p c.args.options q × w ≡ bare_warning (p.place q) 14) c.loop-n.n (c.loop-n.invariant p ch)
    (gains_for _ _ _ _ _ _ (c.bare_warning-warning.ensures ∙ ap (λ place. bare_warning place 14) (c.place.ensures p ch.tells)) (c.is_first_unreached-is_first.ensures p ch (c.in_ok-parts.ensures p ch.tells)) c.in_ok-push_if.ensures)

pub returns : goal.returns
returns c p ch =
    let told : ℕ → Warning → Type 0 = λ q w. IsFirstUnreached p c.args.options q × w ≡ bare_warning (p.place q) 14 in
    gains_same c.args.into.now.items c.loop-n.into.items (OfBelow c.loop-n.n told) (λ w. (q : ℕ) × IsFirstUnreached p c.args.options q × (w ≡ bare_warning (p.place q) 14)) (c.loop-n.invariant p ch)
    (λ w. (
      λ (q, l, (h, e)). (q, h, e),
      λ (q, h, e). let point : IsPoint p q = h.unreached.point in (q, omega (arith, point, c.loop-n-test.false, c.points-n-end.ensures.count p ch.tells), (h, e)),
    ))
