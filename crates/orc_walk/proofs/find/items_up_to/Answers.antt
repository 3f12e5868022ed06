use Rattle.std.proofs.Common.{◌≡◌, ◌+◌, ◌-◌, ◌*◌, ◌/◌, get_or, arith, ap, ◌∙◌}
use Rattle.ot_base.specs.CountedItems.{CountedItems, one_more}
use Rattle.orc_walk.proofs.Halving.{below_middle, above_middle, few_more, one_more_counted, item_address}
use Rattle.orc_walk.proofs.find.items_up_to.Goals as goal

pub loop-low-preserved-then-address-addr : goal.loop-low-preserved-then-address-addr
loop-low-preserved-then-address-addr c =
    let middle = c.loop-low.low + (c.loop-low.high - c.loop-low.low) / 2 in
    let items = ap (λ (t : CountedItems). t.items) c.read-address.ensures.counted ∙ c.loop-low.invariant.items in
    let reads : c.read-address.new.self.reads ≡ one_more c.loop-low.tape.reads = ap (λ (t : CountedItems). t.reads) c.read-address.ensures.counted in
    let more = one_more_counted c.loop-low.tape.reads in
    record {
      order = omega arith;
      within = c.loop-low.invariant.within;
      items = items;
      below = below_middle c.args.tape.now.items c.args.addr middle c.requires.ascending (omega (arith, c.loop-low.invariant.within)) (λ d. let at = item_address c.loop-low.tape.items middle c.read-address.result d c.read-address.ensures.item in let same = ap (λ xs. (get_or xs middle d).0) c.loop-low.invariant.items in omega (arith, at, same, c.if-address-addr.true));
      above = c.loop-low.invariant.above;
      no_fewer = omega (arith, c.loop-low.invariant.no_fewer, reads, more.0);
      few = few_more (c.loop-low.tape.reads - c.args.tape.now.reads) (c.read-address.new.self.reads - c.args.tape.now.reads) (c.loop-low.high - c.loop-low.low) (c.loop-low.high - (middle + 1)) (2 * (c.args.high - c.args.low) + 1) (omega (arith, reads, more.1)) (omega arith) (omega arith) c.loop-low.invariant.few;
    }

pub loop-low-preserved : goal.loop-low-preserved
loop-low-preserved c =
    let middle = c.loop-low.low + (c.loop-low.high - c.loop-low.low) / 2 in
    let items = ap (λ (t : CountedItems). t.items) c.read-address.ensures.counted ∙ c.loop-low.invariant.items in
    let reads : c.read-address.new.self.reads ≡ one_more c.loop-low.tape.reads = ap (λ (t : CountedItems). t.reads) c.read-address.ensures.counted in
    let more = one_more_counted c.loop-low.tape.reads in
    record {
      order = omega arith;
      within = omega (arith, c.loop-low.invariant.within);
      items = items;
      below = c.loop-low.invariant.below;
      above = above_middle c.args.tape.now.items c.args.addr middle c.requires.ascending (omega (arith, c.loop-low.invariant.within)) (λ d. let at = item_address c.loop-low.tape.items middle c.read-address.result d c.read-address.ensures.item in let same = ap (λ xs. (get_or xs middle d).0) c.loop-low.invariant.items in omega (arith, at, same, c.if-address-addr.false));
      no_fewer = omega (arith, c.loop-low.invariant.no_fewer, reads, more.0);
      few = few_more (c.loop-low.tape.reads - c.args.tape.now.reads) (c.read-address.new.self.reads - c.args.tape.now.reads) (c.loop-low.high - c.loop-low.low) (middle - c.loop-low.low) (2 * (c.args.high - c.args.low) + 1) (omega (arith, reads, more.1)) (omega arith) (omega arith) c.loop-low.invariant.few;
    }
