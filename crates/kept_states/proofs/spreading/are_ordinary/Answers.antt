-- Each of the four is ordinary.
use Rattle.std.proofs.Common.{◌≡◌, ◌+◌, ℕ, inl, inr, None, sym, subst, arith}
use Rattle.machine_defs.specs.Kept.{state_at}
use Rattle.kept_states.proofs.Places.{same_or_not}
use Rattle.kept_states.proofs.PassageLemmas.{each_of_four}
use Rattle.kept_states.proofs.spreading.are_ordinary.Goals as goal

pub returns : goal.returns
returns c holds p told q low high =
    let n : ℕ = c.args.n in
    let all = each_of_four c.is_ordinary-first.result c.is_ordinary-second.result c.is_ordinary-third.result c.is_ordinary-fourth.result holds in
    let one : state_at p 0 n ≡ None = c.is_ordinary-first.ensures all.0 p told in
    let two : state_at p 0 (n + 1) ≡ None = c.is_ordinary-second.ensures all.1 p told in
    let three : state_at p 0 (n + 2) ≡ None = c.is_ordinary-third.ensures all.2 p told in
    let four : state_at p 0 (n + 3) ≡ None = c.is_ordinary-fourth.ensures all.3 p told in
    elim (same_or_not n q) [
      | inl e ↦ subst (λ (m : ℕ). state_at p 0 m ≡ None) (sym e) one
      | inr first ↦ elim (same_or_not (n + 1) q) [
        | inl e ↦ subst (λ (m : ℕ). state_at p 0 m ≡ None) (sym e) two
        | inr second ↦ elim (same_or_not (n + 2) q) [
          | inl e ↦ subst (λ (m : ℕ). state_at p 0 m ≡ None) (sym e) three
          | inr third ↦ (let e : q ≡ n + 3 = omega (arith, low, high, first, second, third) in subst (λ (m : ℕ). state_at p 0 m ≡ None) (sym e) four)
        ]
      ]
    ]
