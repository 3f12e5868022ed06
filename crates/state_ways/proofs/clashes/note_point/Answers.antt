-- One edge after another.
use Rattle.std.proofs.Common.{List, Contains, get_or, sym, ◌∙◌, subst}
use Rattle.machine_defs.specs.declared.flow.Edge.{Edge}
use Rattle.machine_defs.specs.declared.flow.EdgeKind.TheVariants.{Next}
use Rattle.machine_defs.specs.Program.{Program}
use Rattle.kept_states.specs.LevelStates.{at}
use Rattle.state_ways.specs.Clashes.{EdgeIsNoted}
use Rattle.state_ways.specs.Marks.{IsTold}
use Rattle.state_ways.proofs.Edges.{all_have, all_more, in_at}
use Rattle.state_ways.proofs.clashes.note_point.Goals as goal

pub note_edge-requires-clause-own : goal.note_edge-requires-clause-own
note_edge-requires-clause-own c p t =
    let e : Edge = get_or c.successors-edge-items.result.now c.loop-edge.edge-index (record { to = 0; kind = Next }) in
    subst (λ (es : List Edge). Contains es e) (c.successors-edge-items.ensures.edges p t) (in_at c.successors-edge-items.result.now c.loop-edge.edge-index (record { to = 0; kind = Next }) c.loop-edge-test.true)

pub loop-edge-preserved : goal.loop-edge-preserved
loop-edge-preserved c = record {
  len = c.note_edge.ensures.len ∙ c.loop-edge.invariant.len;
  more = record {
    stays = λ w h. c.note_edge.ensures.more.stays w (c.loop-edge.invariant.more.stays w h);
    sound = λ p told s. c.note_edge.ensures.more.sound p told (c.loop-edge.invariant.more.sound p told s);
  };
  noted = all_more (λ (e : Edge). (p : Program) → IsTold p c.args.graph.now.parts (at c.args.kept.now) → EdgeIsNoted p c.args.warnings.now c.note_edge.new.clashes.items c.args.from e) c.successors-edge-items.result.now c.loop-edge.edge-index (record { to = 0; kind = Next }) c.loop-edge-test.true
      c.note_edge.ensures.noted (λ k d l p told w clash. c.note_edge.ensures.more.stays w (c.loop-edge.invariant.noted k d l p told w clash));
}

pub returns-clause-noted : goal.returns-clause-noted
returns-clause-noted c = λ p told e m.
    all_have (λ (e : Edge). (p : Program) → IsTold p c.args.graph.now.parts (at c.args.kept.now) → EdgeIsNoted p c.args.warnings.now c.loop-edge.clashes.items c.args.from e) c.successors-edge-items.result.now c.loop-edge.edge-index c.loop-edge-test.false c.loop-edge.invariant.noted e (subst (λ (es : List Edge). Contains es e) (sym (c.successors-edge-items.ensures.edges p told.tells)) m) p told
