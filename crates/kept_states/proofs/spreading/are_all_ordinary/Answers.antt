-- Each four of the sixteen are ordinary.
use Rattle.std.proofs.Common.{◌+◌, ℕ, inl, inr, arith}
use Rattle.kept_states.proofs.Places.{within}
use Rattle.kept_states.proofs.PassageLemmas.{each_of_four}
use Rattle.kept_states.proofs.spreading.are_all_ordinary.Goals as goal

pub returns : goal.returns
returns c holds p told q low high =
    let n : ℕ = c.args.n in
    let all = each_of_four c.are_ordinary-first.result c.are_ordinary-second.result c.are_ordinary-third.result c.are_ordinary-fourth.result holds in
    elim (within q (n + 4)) [
      | inl below ↦ c.are_ordinary-first.ensures all.0 p told q low below
      | inr behind ↦ elim (within q (n + 8)) [
        | inl below ↦ c.are_ordinary-second.ensures all.1 p told q behind (omega (arith, below))
        | inr beyond ↦ elim (within q (n + 12)) [
          | inl below ↦ c.are_ordinary-third.ensures all.2 p told q beyond (omega (arith, below))
          | inr last ↦ c.are_ordinary-fourth.ensures all.3 p told q last (omega (arith, high))
        ]
      ]
    ]
