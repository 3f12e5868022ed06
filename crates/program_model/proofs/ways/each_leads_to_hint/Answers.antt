use Rattle.std.proofs.Common.{◌≡◌, true, List, sym, subst}
use Rattle.std.specs.List.{list_all}
use Rattle.std.proofs.lemmas.List.{take_all}
use Rattle.machine_defs.specs.declared.flow.Edge.{Edge}
use Rattle.program_model.specs.Ways.{leads_to_hint}
use Rattle.program_model.proofs.Edges.{each_more}
use Rattle.program_model.proofs.ways.each_leads_to_hint.Goals as goal

pub loop-edge-preserved : goal.loop-edge-preserved
loop-edge-preserved c =
    each_more (leads_to_hint c.args.p.now) c.args.edges.now c.loop-edge.edge-index _ c.loop-edge-test.true c.loop-edge.invariant (c.if-not-leads_to_hint.ensures)

pub returns : goal.returns
returns c =
    sym (subst (λ (es : List Edge). list_all (leads_to_hint c.args.p.now) es ≡ true) (take_all c.loop-edge.edge-index c.args.edges.now c.loop-edge-test.false) c.loop-edge.invariant)
