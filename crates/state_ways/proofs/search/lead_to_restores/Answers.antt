-- One RESTORE after another.
use Rattle.std.proofs.Common.{◌<◌, ℕ, List, [], ◌∷◌, IsSome, get_or, length, refl, sym, ◌∙◌, arith}
use Rattle.machine_defs.specs.Program.{Program}
use Rattle.unwinding_law.proofs.Lists.{here}
use Rattle.program_graph.specs.Tells.{Means, Tells}
use Rattle.kept_states.specs.LevelStates.{at}
use Rattle.state_ways.specs.Marks.{IsMarked}
use Rattle.state_ways.proofs.Edges.{all_have, all_more, in_at}
use Rattle.state_ways.proofs.Marking.{none_more, then_on}
use Rattle.state_ways.proofs.search.lead_to_restores.Goals as goal

pub loop-restore-init : goal.loop-restore-init
loop-restore-init c = record {
  on = λ front m. none_more c.args.graph.now.parts (at c.args.kept.now) front c.args.search.now.ways c.args.search.now.next.items;
  led = λ k d l. absurd (omega (arith, l));
  spent = refl;
}

pub lead_to_restore-requires-clause-points : goal.lead_to_restore-requires-clause-points
lead_to_restore-requires-clause-points c = (c.loop-restore.invariant.on (c.args.from ∷ []) (here c.args.from [])).points ∙ (c.requires.ways ∙ sym c.requires.points)

pub lead_to_restore-requires-clause-shown : goal.lead_to_restore-requires-clause-shown
lead_to_restore-requires-clause-shown c = (c.loop-restore.invariant.on (c.args.from ∷ []) (here c.args.from [])).stays c.args.from c.requires.shown

pub loop-restore-preserved : goal.loop-restore-preserved
loop-restore-preserved c =
    let items : List ℕ = c.restores-restore-items.result.now in
    let r : ℕ = get_or items c.loop-restore.restore-index 0 in
    let point : r < length c.args.graph.now.parts.points.items = c.restores-restore-items.ensures.within c.loop-restore.restore-index 0 c.loop-restore-test.true in
    let means : (p : Program) → Tells p c.args.graph.now.parts → Means p c.args.from r = λ p t. (c.restores-restore-items.ensures.restores p t r).0 (in_at items c.loop-restore.restore-index 0 c.loop-restore-test.true) in
    let one = c.in_ok-lead_to_restore.ensures.on c.args.graph.now.parts (c.args.from ∷ []) point means (here c.args.from []) in
    record {
      on = λ front m. then_on c.args.graph.now.parts (at c.args.kept.now) front c.args.search.now.ways c.args.search.now.next.items c.loop-restore.search.ways c.loop-restore.search.next.items c.lead_to_restore.new.search.ways c.lead_to_restore.new.search.next.items (c.loop-restore.invariant.on front m) (c.in_ok-lead_to_restore.ensures.on c.args.graph.now.parts front point means m);
      led = all_more (λ (q : ℕ). IsSome (at c.args.kept.now q) → IsMarked c.lead_to_restore.new.search.ways q) items c.loop-restore.restore-index 0 c.loop-restore-test.true
          c.in_ok-lead_to_restore.ensures.led (λ k d l some. one.stays (get_or items k d) (c.loop-restore.invariant.led k d l some));
      spent = c.lead_to_restore.ensures.spent ∙ c.loop-restore.invariant.spent;
    }

pub returns-clause-led : goal.returns-clause-led
returns-clause-led c = λ p r t m some.
    all_have (λ (q : ℕ). IsSome (at c.args.kept.now q) → IsMarked c.loop-restore.search.ways q) c.restores-restore-items.result.now c.loop-restore.restore-index c.loop-restore-test.false c.loop-restore.invariant.led r ((c.restores-restore-items.ensures.restores p t r).1 m) some
