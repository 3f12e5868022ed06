use Rattle.std.proofs.Common.{◌≡◌, ℕ, ◌+◌, arith, subst}
use Rattle.alternatives.specs.Sorted.{SomeOverlap}
use Rattle.alternatives.proofs.Overlaps.{first_is}
use Rattle.alternatives.proofs.overlap.first_overlap.Goals as goal

pub returns : goal.returns
returns c =
    let low : ℕ = c.loop-high.low in
    let last : c.loop-high.high ≡ low + 1 = omega (arith, c.loop-high.invariant.order, c.loop-high-test.false) in
    first_is c.args.entries.now low (omega (arith, c.loop-high.invariant.order, c.loop-high.invariant.inside)) c.loop-high.invariant.none (subst (SomeOverlap c.args.entries.now) last c.loop-high.invariant.some)
