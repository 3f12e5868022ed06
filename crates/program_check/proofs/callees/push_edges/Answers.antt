-- One edge more.
use Rattle.std.proofs.Common.{List, ◌∙◌, subst}
use Rattle.std.proofs.lemmas.List.{take_all}
use Rattle.ot_base.specs.declared.place.Place.{Place}
use Rattle.machine_defs.specs.declared.flow.Edge.{Edge}
use Rattle.machine_defs.specs.declared.flow.EdgeKind.TheVariants.{Next}
use Rattle.machine_defs.specs.Program.{edge}
use Rattle.machine_defs.specs.Kept.{edges_of}
use Rattle.stack_rules.specs.Gains.{Gains}
use Rattle.stack_rules.proofs.GainsLemmas.{OfSome, gains_element}
use Rattle.program_check.specs.PointWarns.{EdgeCalls}
use Rattle.program_check.proofs.callees.push_edges.Goals as goal

pub loop-edge-preserved : goal.loop-edge-preserved
loop-edge-preserved c p allowed t =
    let edges : List Edge = c.successors-edge-items.result.now in
    gains_element c.args.into.now.items c.loop-edge.into.items c.push_edge.new.into.items edges (EdgeCalls p allowed c.place-place.result) c.loop-edge.edge-index (edge 0 Next) c.loop-edge-test.true (c.loop-edge.invariant p allowed t)
    (c.in_ok-push_edge.ensures p allowed t)

pub returns : goal.returns
returns c p allowed t =
    let edges : List Edge = c.successors-edge-items.result.now in
    subst (λ (place : Place). Gains c.args.into.now.items c.loop-edge.into.items (OfSome (edges_of p c.args.n) (EdgeCalls p allowed place))) (c.place-place.ensures p t.tells)
    (subst (λ (es : List Edge). Gains c.args.into.now.items c.loop-edge.into.items (OfSome es (EdgeCalls p allowed c.place-place.result))) (take_all c.loop-edge.edge-index edges c.loop-edge-test.false ∙ c.successors-edge-items.ensures.edges p t.tells) (c.loop-edge.invariant p allowed t))
