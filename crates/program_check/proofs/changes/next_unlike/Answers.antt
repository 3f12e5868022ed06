-- One point more.
use Rattle.std.proofs.Common.{◌≡◌, ℕ, true, inl, inr, arith, subst}
use Rattle.std.proofs.lemmas.Bool.{cases_lt}
use Rattle.kept_states.specs.LevelStates.{at}
use Rattle.program_check.proofs.changes.next_unlike.Goals as goal

pub loop-n-init : goal.loop-n-init
loop-n-init c k low high = absurd (omega (arith, low, high))

pub loop-n-preserved : goal.loop-n-preserved
loop-n-preserved c k low high =
    let n : ℕ = c.loop-n.n in
    let alike : c.are_alike.result ≡ true = (let h = c.if-not-are_alike.false in grind arith) in
    elim (cases_lt k n) [
      | inl before ↦ c.loop-n.invariant k low before
      | inr same ↦ let e : n ≡ k = omega arith in subst (λ (q : ℕ). at c.args.kept.now c.args.held ≡ at c.args.kept.now q) e (c.are_alike.ensures alike)
    ]
