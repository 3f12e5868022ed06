-- The point so far is one as the first.
use Rattle.std.proofs.Common.{◌≡◌, ◌≤◌, ◌<◌, ◌-◌, false, length}
use Rattle.ot_base.specs.Places.{is_before}
use Rattle.machine_defs.specs.Program.{Program}
use Rattle.program_graph.specs.Tells.{Tells}
use Rattle.program_check.proofs.changes.last_clear.Given as goal

abbrev pub invariant-loop-low : goal.invariant-loop-low
invariant-loop-low l = record {
  from : l.from ≤ l.low;
  within : l.low < length l.graph.parts.points.items;
  step : 1 ≤ l.step;
  plain : (p : Program) → Tells p l.graph.parts → p.variant l.from ≡ 0 → p.variant l.low ≡ 0;
  sec : (p : Program) → Tells p l.graph.parts → (p.place l.from).sec ≡ l.sec → (p.place l.low).sec ≡ l.sec;
  clear : (p : Program) → Tells p l.graph.parts → is_before l.waiting (p.place l.from) ≡ false → is_before l.waiting (p.place l.low) ≡ false;
}

abbrev pub decreases-loop-low : goal.decreases-loop-low
decreases-loop-low l = length l.graph.parts.points.items - l.low

abbrev pub invariant-loop-step : goal.invariant-loop-step
invariant-loop-step l = record {
  from : l.from ≤ l.low;
  within : l.low < length l.graph.parts.points.items;
  plain : (p : Program) → Tells p l.graph.parts → p.variant l.from ≡ 0 → p.variant l.low ≡ 0;
  sec : (p : Program) → Tells p l.graph.parts → (p.place l.from).sec ≡ l.sec → (p.place l.low).sec ≡ l.sec;
  clear : (p : Program) → Tells p l.graph.parts → is_before l.waiting (p.place l.from) ≡ false → is_before l.waiting (p.place l.low) ≡ false;
}

abbrev pub decreases-loop-step : goal.decreases-loop-step
decreases-loop-step l = l.step
