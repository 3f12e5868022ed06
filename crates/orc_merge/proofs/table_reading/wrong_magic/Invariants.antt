use Rattle.std.proofs.Common.{◌≡◌, None, not, eqb, get_or}
use Rattle.orc_merge.specs.TableBytes.{magic}
use Rattle.orc_merge.specs.TableFaults.{first_below}
use Rattle.orc_merge.proofs.table_reading.wrong_magic.Given as goal

abbrev pub invariant-loop-i : goal.invariant-loop-i
invariant-loop-i l = first_below (λ i. not (eqb (get_or l.bytes i 0) (get_or magic i 0))) l.i ≡ None
