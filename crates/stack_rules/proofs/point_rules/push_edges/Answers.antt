-- One edge more.
use Rattle.std.proofs.Common.{List, ◌∙◌, subst}
use Rattle.std.proofs.lemmas.List.{take_all}
use Rattle.machine_defs.specs.declared.flow.Edge.{Edge}
use Rattle.machine_defs.specs.declared.flow.EdgeKind.TheVariants.{Next}
use Rattle.stack_rules.specs.Gains.{Gains}
use Rattle.stack_rules.specs.PointWarns.{EdgeWarns}
use Rattle.stack_rules.proofs.GainsLemmas.{OfSome, gains_element}
use Rattle.stack_rules.proofs.point_rules.push_edges.Goals as goal

pub loop-edge-preserved : goal.loop-edge-preserved
loop-edge-preserved c p ch e =
    let none : Edge = record { to = 0; kind = Next } in
    let edges : List Edge = c.successors-edge-items.result.now in
    gains_element c.args.into.now.items c.loop-edge.into.items c.push_edge.new.into.items edges (EdgeWarns p c.args.kept.now c.args.n c.args.state) c.loop-edge.edge-index none c.loop-edge-test.true (c.loop-edge.invariant p ch e)
    (c.in_ok-push_edge.ensures p ch e)

pub returns : goal.returns
returns c p ch e =
    let edges : List Edge = c.successors-edge-items.result.now in
    subst (λ (xs : List Edge). Gains c.args.into.now.items c.loop-edge.into.items (OfSome xs (EdgeWarns p c.args.kept.now c.args.n c.args.state))) (take_all c.loop-edge.edge-index edges c.loop-edge-test.false ∙ c.successors-edge-items.ensures.edges p ch.tells) (c.loop-edge.invariant p ch e)
