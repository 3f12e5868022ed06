use Rattle.std.proofs.Common.{arith}
use Rattle.command_base.proofs.NumberLemmas.{picked_more}
use Rattle.command_base.proofs.backtrace_spots.pick.Goals as goal

pub loop-number-preserved : goal.loop-number-preserved
loop-number-preserved c = record {
  len = grind (arith, c.in_ok-push.ensures.len, c.loop-number.invariant.len);
  each = picked_more c.args.spots.now c.args.numbers.now c.loop-number.picked.items c.push.new.self.items c.loop-number.number-index _ c.requires c.loop-number-test.true c.loop-number.invariant.len c.loop-number.invariant.each c.in_ok-push.ensures.items;
}
