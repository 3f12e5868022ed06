-- One edge more.
use Rattle.std.proofs.Common.{◌↔◌, ◌⊎◌, List, Contains, inl, inr, subst, take, get_or}
use Rattle.std.proofs.lemmas.List.{take_all}
use Rattle.machine_defs.specs.declared.flow.Edge.{Edge}
use Rattle.machine_defs.specs.declared.flow.EdgeKind.TheVariants.{Next}
use Rattle.unwinding_law.proofs.Lists.{nowhere}
use Rattle.stack_rules.specs.Holes.{EntersPart, IsAmong}
use Rattle.stack_rules.proofs.HoleParts.{new_of, some_more}
use Rattle.stack_rules.proofs.holes.note_edges.Goals as goal

pub loop-edge-init : goal.loop-edge-init
loop-edge-init c p part t = (λ k. inl k, λ k. elim k [ inl o ↦ o | inr k ↦ nowhere k.0 k.1 ])

pub loop-edge-preserved : goal.loop-edge-preserved
loop-edge-preserved c p part t =
    let none : Edge = record { to = 0; kind = Next } in
    let edges : List Edge = c.args.edges.now in
    let leads : Edge → Type 0 = λ e. EntersPart p e part in
    new_of {Some = (e : Edge) × Contains (take c.loop-edge.edge-index edges) e × leads e} {One = leads (get_or edges c.loop-edge.edge-index none)}
    (c.loop-edge.invariant p part t) (c.in_ok-note_edge.ensures p part t)
    (some_more {X = Edge} edges c.loop-edge.edge-index none leads c.loop-edge-test.true)

pub returns : goal.returns
returns c p part t =
    subst (λ (es : List Edge). IsAmong c.loop-edge.parts part ↔ (IsAmong c.args.parts.now part ⊎ ((e : Edge) × Contains es e × EntersPart p e part))) (take_all c.loop-edge.edge-index c.args.edges.now c.loop-edge-test.false) (c.loop-edge.invariant p part t)
