-- One point more, and at the end every point.
use Rattle.std.proofs.Common.{◌≡◌, ℕ, subst, arith}
use Rattle.flow_defs.specs.Program.{program_of}
use Rattle.machine_defs.specs.Program.{Program}
use Rattle.stack_rules.specs.Gains.{Gains}
use Rattle.stack_rules.proofs.GainsLemmas.{OfBelow, gains_number}
use Rattle.entry_rules.specs.ObjectFacts.{facts_of}
use Rattle.entry_rules.specs.PointWarns.{PointIsTaken}
use Rattle.entry_rules.proofs.taken.push_taken.Goals as goal

pub loop-n-preserved : goal.loop-n-preserved
loop-n-preserved c lists tells =
    gains_number c.args.into.now.items c.loop-n.into.items c.push_point.new.into.items (PointIsTaken (program_of c.args.places.now lists) (facts_of c.args.places.now)) c.loop-n.n (c.loop-n.invariant lists tells) (c.in_ok-push_point.ensures lists tells)

pub returns : goal.returns
returns c lists tells =
    let p : Program = program_of c.args.places.now lists in
    let all : c.loop-n.n ≡ p.count = omega (arith, c.loop-n-test.false, c.loop-n.auto.n-end, c.points-n-end.ensures.count p tells) in
    subst (λ (n : ℕ). Gains c.args.into.now.items c.loop-n.into.items (OfBelow n (PointIsTaken p (facts_of c.args.places.now)))) all (c.loop-n.invariant lists tells)
