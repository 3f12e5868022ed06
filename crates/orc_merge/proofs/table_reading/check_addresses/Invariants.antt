use Rattle.std.proofs.Common.{◌≡◌, None}
use Rattle.orc_merge.specs.TableFaults.{first_below, address_before}
use Rattle.orc_merge.proofs.TableSteps.{falls}
use Rattle.orc_merge.proofs.table_reading.check_addresses.Given as goal

abbrev pub invariant-loop-i : goal.invariant-loop-i
invariant-loop-i l = record {
  rises : first_below (falls l.bytes) l.i ≡ None;
  before : l.before ≡ address_before l.bytes l.i;
}
