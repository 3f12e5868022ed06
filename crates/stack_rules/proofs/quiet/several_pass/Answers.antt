-- Two edges pass, or each of them does.
use Rattle.std.proofs.Common.{arith, sym}
use Rattle.std.proofs.lemmas.List.Elements.{All-same}
use Rattle.stack_rules.specs.Quiet.{Passes}
use Rattle.stack_rules.proofs.QuietPoints.{pair}
use Rattle.stack_rules.proofs.quiet.several_pass.Goals as goal

pub returns-then-edges-ne2 : goal.returns-then-edges-ne2
returns-then-edges-ne2 c pass p tells = All-same (Passes p c.args.kept.now c.args.n) _ _ (sym (c.successors-edges.ensures.edges p tells)) (c.each_passes.ensures pass p tells)

pub returns : goal.returns
returns c passes p tells =
    All-same (Passes p c.args.kept.now c.args.n) _ _ (sym (c.successors-edges.ensures.edges p tells))
    (pair (Passes p c.args.kept.now c.args.n) c.successors-edges.result.now _ (let h = c.if-edges-ne2.false in omega (arith, h))
    (c.passes.ensures (let first = c.if-not-passes.false in grind arith) p tells) (c.passes-2.ensures passes p tells))
