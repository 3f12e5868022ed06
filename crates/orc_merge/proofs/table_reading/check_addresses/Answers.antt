use Rattle.std.proofs.Common.{◌+◌, ◌*◌, refl, arith}
use Rattle.orc_merge.proofs.TableSteps.{next_before, rises_more, falls_at, rises}
use Rattle.orc_merge.proofs.table_reading.check_addresses.Goals as goal

pub loop-i-preserved : goal.loop-i-preserved
loop-i-preserved c = record {
  rises = rises_more c.args.bytes.now c.loop-i.i c.address-address.result c.loop-i.before c.loop-i.invariant.rises c.address-address.ensures c.loop-i.invariant.before (omega arith);
  before = next_before c.args.bytes.now c.loop-i.i c.address-address.result c.address-address.ensures;
}

pub returns-then-address-before-clause-fault : goal.returns-then-address-before-clause-fault
returns-then-address-before-clause-fault c =
    (16 + 8 * c.loop-i.i, falls_at c.args.bytes.now c.args.count c.loop-i.i c.address-address.result c.loop-i.before c.requires c.loop-i-test.true c.loop-i.invariant.rises c.address-address.ensures c.loop-i.invariant.before (omega arith), refl)

pub returns-clause-ascend : goal.returns-clause-ascend
returns-clause-ascend c = rises c.args.bytes.now c.args.count c.loop-i.i c.requires (omega arith) c.loop-i.invariant.rises
