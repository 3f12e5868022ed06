-- One edge after another.
use Rattle.std.proofs.Common.{List, [], ◌∷◌, Contains, get_or, refl, ◌∙◌, subst, arith}
use Rattle.machine_defs.specs.declared.flow.Edge.{Edge}
use Rattle.machine_defs.specs.declared.flow.EdgeKind.TheVariants.{Next}
use Rattle.machine_defs.specs.Program.{Program}
use Rattle.unwinding_law.proofs.Lists.{here}
use Rattle.program_graph.specs.Tells.{Tells}
use Rattle.kept_states.specs.LevelStates.{at}
use Rattle.state_ways.specs.Marks.{BringsKept, IsMarked}
use Rattle.state_ways.proofs.Edges.{all_have, all_more, in_at}
use Rattle.state_ways.proofs.Marking.{none_more, then_on}
use Rattle.state_ways.proofs.search.lead_each.Goals as goal

pub loop-edge-init : goal.loop-edge-init
loop-edge-init c = record {
  on = λ front m. none_more c.args.graph.now.parts (at c.args.kept.now) front c.args.search.now.ways c.args.search.now.next.items;
  led = λ k d l. absurd (omega (arith, l));
  spent = refl;
}

pub lead-requires-clause-ways : goal.lead-requires-clause-ways
lead-requires-clause-ways c = (c.loop-edge.invariant.on (c.args.from ∷ []) (here c.args.from [])).points ∙ c.requires.ways

pub lead-requires-clause-shown : goal.lead-requires-clause-shown
lead-requires-clause-shown c = (c.loop-edge.invariant.on (c.args.from ∷ []) (here c.args.from [])).stays c.args.from c.requires.shown

pub lead-requires-clause-own : goal.lead-requires-clause-own
lead-requires-clause-own c p t =
    let e : Edge = get_or c.args.edges.now c.loop-edge.edge-index (record { to = 0; kind = Next }) in
    subst (λ (es : List Edge). Contains es e) (c.requires.own p t) (in_at c.args.edges.now c.loop-edge.edge-index (record { to = 0; kind = Next }) c.loop-edge-test.true)

pub loop-edge-preserved : goal.loop-edge-preserved
loop-edge-preserved c =
    let one = c.in_ok-lead.ensures.on (c.args.from ∷ []) (here c.args.from []) in
    record {
      on = λ front m. then_on c.args.graph.now.parts (at c.args.kept.now) front c.args.search.now.ways c.args.search.now.next.items c.loop-edge.search.ways c.loop-edge.search.next.items c.lead.new.search.ways c.lead.new.search.next.items (c.loop-edge.invariant.on front m) (c.in_ok-lead.ensures.on front m);
      led = all_more (λ (e : Edge). (p : Program) → Tells p c.args.graph.now.parts → BringsKept p (at c.args.kept.now) c.args.from e → IsMarked c.lead.new.search.ways e.to) c.args.edges.now c.loop-edge.edge-index (record { to = 0; kind = Next }) c.loop-edge-test.true
          c.in_ok-lead.ensures.led (λ k d l p t b. one.stays (get_or c.args.edges.now k d).to (c.loop-edge.invariant.led k d l p t b));
      spent = c.lead.ensures.spent ∙ c.loop-edge.invariant.spent;
    }

pub returns-clause-led : goal.returns-clause-led
returns-clause-led c = λ p e t m b. all_have (λ (e : Edge). (p : Program) → Tells p c.args.graph.now.parts → BringsKept p (at c.args.kept.now) c.args.from e → IsMarked c.loop-edge.search.ways e.to) c.args.edges.now c.loop-edge.edge-index c.loop-edge-test.false c.loop-edge.invariant.led e m p t b
