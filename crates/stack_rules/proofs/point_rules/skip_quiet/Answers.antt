-- One point more.
use Rattle.std.proofs.Common.{◌≡◌, ℕ, true, inl, inr, arith, subst}
use Rattle.std.proofs.lemmas.Bool.{cases_lt}
use Rattle.stack_rules.specs.PointWarns.{PointWarns}
use Rattle.stack_rules.proofs.point_rules.skip_quiet.Goals as goal

pub loop-n-init : goal.loop-n-init
loop-n-init c p t k low high = absurd (omega (arith, low, high))

pub loop-n-preserved : goal.loop-n-preserved
loop-n-preserved c p t k low high w told =
    let n : ℕ = c.loop-n.n in
    let nothing : c.tells_nothing.result ≡ true = (let h = c.if-not-tells_nothing.false in grind arith) in
    elim (cases_lt k n) [
      | inl before ↦ c.loop-n.invariant p t k low before w told
      | inr same ↦ let e : k ≡ n = omega arith in c.tells_nothing.ensures nothing p t w (subst (λ (q : ℕ). PointWarns p c.args.kept.now q w) e told)
    ]

pub returns-clause-nothing : goal.returns-clause-nothing
returns-clause-nothing c p t k low high = c.loop-n.invariant p t k low (omega (arith, high, c.loop-n-test.false, c.loop-n.auto.n-end, c.points-n-end.ensures.points))
