-- One point more, and at the end every point.
use Rattle.std.proofs.Common.{◌≡◌, ℕ, ap, ◌∙◌, arith}
use Rattle.ot_base.specs.declared.warning.Warning.{Warning}
use Rattle.ot_base.specs.Warnings.{bare_warning}
use Rattle.machine_defs.specs.Program.{IsPoint}
use Rattle.stack_rules.specs.Unframed.{IsUnframed}
use Rattle.stack_rules.proofs.Consistency.{kept_point}
use Rattle.stack_rules.proofs.GainsLemmas.{OfBelow, gains_for, gains_number, gains_same}
use Rattle.stack_rules.proofs.unframed.push_without_frame.Goals as goal

pub loop-n-preserved : goal.loop-n-preserved
loop-n-preserved c p ch =
    gains_number c.args.into.now.items c.loop-n.into.items c.push_if.new.into.items (λ q w. IsUnframed p q × w ≡ bare_warning (p.place q) 21) c.loop-n.n (c.loop-n.invariant p ch)
    (gains_for _ _ _ _ _ _ (c.bare_warning-warning.ensures ∙ ap (λ place. bare_warning place 21) (c.place.ensures p ch.tells)) (c.is_unframed.ensures p ch) c.in_ok-push_if.ensures)

pub returns : goal.returns
returns c p ch =
    let told : ℕ → Warning → Type 0 = λ q w. IsUnframed p q × w ≡ bare_warning (p.place q) 21 in
    gains_same c.args.into.now.items c.loop-n.into.items (OfBelow c.loop-n.n told) (λ w. (q : ℕ) × IsUnframed p q × (w ≡ bare_warning (p.place q) 21)) (c.loop-n.invariant p ch)
    (λ w. (
      λ (q, l, (h, e)). (q, h, e),
      λ (q, h, e). let point : IsPoint p q = kept_point p c.args.graph.now.parts c.args.kept.now ch q h.0 h.1 in (q, omega (arith, point, c.loop-n-test.false, c.points-n-end.ensures.count p ch.tells), (h, e)),
    ))
