use Rattle.std.proofs.Common.{sym, not, eqb, min, length, get_or, arith}
use Rattle.orc_merge.specs.TableBytes.{magic}
use Rattle.orc_merge.proofs.Firsts.{first_below-found, first_below-more, is_equal, is_unequal}
use Rattle.orc_merge.proofs.table_reading.wrong_magic.Goals as goal

pub returns-then-bytes-i : goal.returns-then-bytes-i
returns-then-bytes-i c =
    sym (first_below-found (λ i. not (eqb (get_or c.args.bytes.now i 0) (get_or magic i 0))) c.loop-i.i (min 8 (length c.args.bytes.now)) c.loop-i.invariant (is_unequal _ _ c.if-bytes-i.true) (omega (arith, c.min-i-end.ensures, c.loop-i-test.true)))

pub loop-i-preserved : goal.loop-i-preserved
loop-i-preserved c = first_below-more (λ i. not (eqb (get_or c.args.bytes.now i 0) (get_or magic i 0))) c.loop-i.i c.loop-i.invariant (is_equal _ _ c.if-bytes-i.false)
