-- One point more.
use Rattle.std.proofs.Common.{◌≡◌, ℕ, true, inl, inr, arith, sym, subst, ◌∙◌}
use Rattle.std.proofs.lemmas.Bool.{cases_lt}
use Rattle.stack_rules.specs.Gaps.{is_in_gap}
use Rattle.stack_rules.proofs.site_points.skip_gap.Goals as goal

pub loop-n-init : goal.loop-n-init
loop-n-init c p t k low high = absurd (omega (arith, low, high))

pub loop-n-preserved : goal.loop-n-preserved
loop-n-preserved c p t k low high =
    let n : ℕ = c.loop-n.n in
    let inside : c.is_inside.result ≡ true = (let h = c.if-not-is_inside.false in grind arith) in
    elim (cases_lt k n) [
      | inl before ↦ c.loop-n.invariant p t k low before
      | inr same ↦
          let e : n ≡ k = omega arith in
          subst (λ (q : ℕ). is_in_gap c.args.gap (p.address q) ≡ true) e (sym (c.is_inside.ensures p t) ∙ inside)
    ]
