use Rattle.std.proofs.Common.{ℕ, ◌<◌, arith, below_more, get_or, rules, subst}
use Rattle.std.proofs.lemmas.List.{get_or_default}
use Rattle.ot_base.specs.declared.row.PlacedRow.{PlacedRow}
use Rattle.orc_walk.specs.Table.{IsWithin}
use Rattle.file_tests.proofs.rows.made.place.Goals as goal

pub loop-placed-preserved : goal.loop-placed-preserved
loop-placed-preserved c =
    below_more (λ k. (d : PlacedRow) → IsWithin c.args.ranges.now (get_or c.args.rows.now k d)) c.loop-placed.placed-index c.loop-placed.invariant
    (λ d. subst (IsWithin c.args.ranges.now) (get_or_default c.args.rows.now c.loop-placed.placed-index _ d c.loop-placed-test.true) (c.is_in_range-within.ensures (search rules)))

pub place-requires-clause-within : goal.place-requires-clause-within
place-requires-clause-within c = λ k d lt. c.loop-placed.invariant k (omega (arith, lt)) d
