use Rattle.std.proofs.Common.{sym, subst}
use Rattle.command_base.proofs.DumpLemmas.{no_object, no_rows_held}
use Rattle.command_base.specs.MergedObjects.{IsNoPart, no_rows}
use Rattle.command_base.proofs.ObjectLemmas.{foreign_part, mergeable}
use Rattle.command_base.proofs.merged_objects.part_of.Goals as goal

pub returns-in-Err-clause-none : goal.returns-in-Err-clause-none
returns-in-Err-clause-none c =
    subst (IsNoPart c.args.bytes.now c.args.places.now) (sym c.parse_stop.ensures) (no_rows (no_object c.args.bytes.now c.in-Err.fault c.in-Err.ensures.err))

pub returns-in-Err-decode-clause-none : goal.returns-in-Err-decode-clause-none
returns-in-Err-decode-clause-none c =
    subst (IsNoPart c.args.bytes.now c.args.places.now) (sym c.orc_stop.ensures)
    (no_rows (no_rows_held c.args.bytes.now c.in-Ok.object c.in-Err-decode.fault c.in-Ok.ensures.ok c.in-Err-decode.ensures.err))

pub returns-in-Err-ranges_of-clause-none : goal.returns-in-Err-ranges_of-clause-none
returns-in-Err-ranges_of-clause-none c =
    foreign_part c.args.bytes.now c.in-Ok.object c.in-Ok-decode.rows.items c.args.places.now c.in-Err-ranges_of.stop
    (record { object = c.in-Ok.ensures.ok; held = c.in-Ok-decode.ensures.ok }) c.in-Err-ranges_of.ensures.foreign

pub returns-clause-mergeable : goal.returns-clause-mergeable
returns-clause-mergeable c =
    mergeable c.args.bytes.now c.in-Ok.object c.args.places.now _ (record { object = c.in-Ok.ensures.ok; held = c.in-Ok-decode.ensures.ok }) c.in-Ok-decode.ensures.few
    c.in-Ok-ranges_of.ensures.ranges
