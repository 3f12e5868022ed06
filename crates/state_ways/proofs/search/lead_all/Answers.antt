-- One point after another.
use Rattle.std.proofs.Common.{ℕ, List, Contains, get_or, ◌∙◌}
use Rattle.machine_defs.specs.Program.{Program}
use Rattle.program_graph.specs.Tells.{Tells}
use Rattle.kept_states.specs.LevelStates.{at}
use Rattle.state_ways.specs.Marks.{AreSpent, HasLed}
use Rattle.state_ways.proofs.Edges.{all_more, in_at, led_stays}
use Rattle.state_ways.proofs.Marking.{then_on}
use Rattle.state_ways.proofs.search.lead_all.Goals as goal

pub loop-from-preserved : goal.loop-from-preserved
loop-from-preserved c =
    let front : List ℕ = c.args.front.now in
    let i : ℕ = c.loop-from.from-index in
    let m : Contains front (get_or front i 0) = in_at front i 0 c.loop-from-test.true in
    let one = c.in_ok-lead_on.ensures.on front m in
    record {
      on = then_on c.args.graph.now.parts (at c.args.kept.now) front c.args.search.now.ways c.args.search.now.next.items c.loop-from.search.ways c.loop-from.search.next.items c.lead_on.new.search.ways c.lead_on.new.search.next.items c.loop-from.invariant.on one;
      led = all_more (λ (a : ℕ). (p : Program) → Tells p c.args.graph.now.parts → AreSpent p (at c.args.kept.now) c.args.search.now.ways c.args.search.now.spent.items → HasLed p (at c.args.kept.now) c.lead_on.new.search.ways a) front i 0 c.loop-from-test.true
          (λ p t s. c.in_ok-lead_on.ensures.led p t (c.loop-from.invariant.spent p t s))
          (λ k d l p t s. led_stays p (at c.args.kept.now) c.loop-from.search.ways c.lead_on.new.search.ways (get_or front k d) one.stays (c.loop-from.invariant.led k d l p t s));
      spent = λ p t s. c.in_ok-lead_on.ensures.spent p t (c.loop-from.invariant.spent p t s);
      len = c.lead_on.ensures.len ∙ c.loop-from.invariant.len;
    }
