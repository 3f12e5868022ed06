-- One point more.
use Rattle.std.proofs.Common.{◌≡◌, ◌↔◌, ℕ, Bool, false, IsTrue, IsSome, Option, Some, None, inl, inr, arith, refl, subst}
use Rattle.std.proofs.lemmas.Bool.{cases_lt}
use Rattle.state_defs.specs.declared.state.State.{State}
use Rattle.kept_states.specs.LevelStates.{at}
use Rattle.program_check.proofs.changes.next_kept.Goals as goal

none_of : (o : Option State) (b : Bool) → IsTrue b ↔ IsSome o → b ≡ false → o ≡ None
none_of None b same h = refl
none_of (Some s) b same h = let t : IsTrue b = same.1 refl in absurd (let k : ⊥ = cc in k)

pub loop-n-init : goal.loop-n-init
loop-n-init c k low high = absurd (omega (arith, low, high))

pub loop-n-preserved : goal.loop-n-preserved
loop-n-preserved c k low high =
    let n : ℕ = c.loop-n.n in
    let not_kept : at c.args.kept.now n ≡ None = none_of (at c.args.kept.now n) c.is_kept.result c.is_kept.ensures c.if-is_kept.false in
    elim (cases_lt k n) [
      | inl before ↦ c.loop-n.invariant k low before
      | inr same ↦ let e : n ≡ k = omega arith in subst (λ (q : ℕ). at c.args.kept.now q ≡ None) e not_kept
    ]
