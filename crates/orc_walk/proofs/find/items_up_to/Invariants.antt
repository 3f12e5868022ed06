use Rattle.std.proofs.Common.{◌≡◌, ◌+◌, ◌-◌, ◌*◌, ◌<◌, ◌≤◌, length}
use Rattle.std.specs.List.{AllWithin}
use Rattle.orc_walk.proofs.Halving.{Few}
use Rattle.orc_walk.proofs.find.items_up_to.Given as goal

abbrev pub invariant-loop-low : goal.invariant-loop-low
invariant-loop-low l = record {
  order : l.low ≤ l.high;
  within : l.high ≤ length l.initial.tape.items;
  items : l.tape.items ≡ l.initial.tape.items;
  below : AllWithin (λ item. item.0 ≤ l.addr) l.initial.tape.items 0 l.low;
  above : AllWithin (λ item. l.addr < item.0) l.initial.tape.items l.high (length l.initial.tape.items);
  no_fewer : l.initial.tape.reads ≤ l.tape.reads;
  few : Few (l.tape.reads - l.initial.tape.reads) (l.high - l.low) (2 * (l.initial.high - l.initial.low) + 1);
}

abbrev pub decreases-loop-low : goal.decreases-loop-low
decreases-loop-low l = l.high - l.low
