-- One point more, and at the end every point.
use Rattle.std.proofs.Common.{◌≡◌, ℕ, subst, arith}
use Rattle.ot_base.specs.declared.warning.Warning.{Warning}
use Rattle.stack_rules.specs.Gains.{Gains}
use Rattle.stack_rules.proofs.GainsLemmas.{OfBelow, gains_number, gains_same}
use Rattle.program_check.specs.Ways.{ways_at}
use Rattle.program_check.specs.PointWarns.{IsAccessWarning, PointWarns}
use Rattle.program_check.proofs.AllWarnings.{found_are_warned}
use Rattle.program_check.proofs.access_points.push_points.Goals as goal

pub loop-n-preserved : goal.loop-n-preserved
loop-n-preserved c p allowed t =
    gains_number c.args.into.now.items c.loop-n.into.items c.push_point.new.into.items (λ q w. PointWarns p allowed (ways_at c.args.ways.now q) q w) c.loop-n.n (c.loop-n.invariant p allowed t) (c.in_ok-push_point.ensures p allowed t)

pub returns : goal.returns
returns c p allowed t are =
    let old = c.args.into.now.items in
    let new = c.loop-n.into.items in
    let told : ℕ → Warning → Type 0 = λ q w. PointWarns p allowed (ways_at c.args.ways.now q) q w in
    let all : c.loop-n.n ≡ p.count = omega (arith, c.loop-n-test.false, c.loop-n.auto.n-end, c.points-n-end.ensures.count p t.tells) in
    gains_same old new (OfBelow p.count told) (IsAccessWarning p allowed) (subst (λ (n : ℕ). Gains old new (OfBelow n told)) all (c.loop-n.invariant p allowed t))
    (found_are_warned p allowed c.args.graph.now.parts c.args.table.now t c.args.ways.now are)
