use Rattle.std.proofs.Common.{◌≡◌, ℕ, ◌+◌, ◌-◌, ◌<◌, None, sym, subst, arith}
use Rattle.flow_defs.specs.Coded.{Coded}
use Rattle.point_edges.specs.Straight.{IsStraight}
use Rattle.control_flow.specs.Listed.{count_of}
use Rattle.control_flow.specs.Rares.{IsRare}
use Rattle.control_flow.specs.declared.rares.TheConstants.{USUAL}
use Rattle.control_flow.proofs.Behind.{behind_straight}
use Rattle.control_flow.proofs.rares.is_behind_straight.Goals as goal

pub is_straight-requires : goal.is_straight-requires
is_straight-requires c = subst (λ (e : Coded). c.args.n - 1 < count_of e) (sym c.arrivals.ensures) (omega (arith, c.requires.point, c.if-n-gt0.true))

pub returns-then-n-gt0 : goal.returns-then-n-gt0
returns-then-n-gt0 c = λ is.
    let o : Coded = c.args.points.now in
    let n : ℕ = c.args.n in
    let next : n - 1 + 1 ≡ n = omega (arith, c.if-n-gt0.true) in
    let is_before : IsStraight o (n - 1) = subst (λ (e : Coded). IsStraight e (n - 1)) c.arrivals.ensures (c.is_straight.ensures.straight is) in
    subst (λ (k : ℕ). IsRare o k None USUAL) next (behind_straight o (n - 1) c.requires.order.bytes is_before)
