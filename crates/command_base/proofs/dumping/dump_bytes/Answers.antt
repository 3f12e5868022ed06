use Rattle.std.proofs.Common.{sym, subst}
use Rattle.command_base.specs.Dump.{HoldsNoRows, printed, stopped}
use Rattle.command_base.proofs.DumpLemmas.{no_object, no_rows_held, printed_as}
use Rattle.command_base.proofs.dumping.dump_bytes.Goals as goal

pub returns-in-Err-clause-ends : goal.returns-in-Err-clause-ends
returns-in-Err-clause-ends g c =
    stopped c.parse_stop.result (subst (HoldsNoRows c.args.bytes.now) (sym c.parse_stop.ensures) (no_object c.args.bytes.now c.in-Err.fault c.in-Err.ensures.err)) c.conclude.ensures.concluded

pub returns-in-Ok-decode-clause-ends : goal.returns-in-Ok-decode-clause-ends
returns-in-Ok-decode-clause-ends g c =
    printed c.in-Ok.object c.in-Ok-decode.rows.items (record { object = c.in-Ok.ensures.ok; held = c.in-Ok-decode.ensures.ok })
    (printed_as c.in-Ok.object c.deref.result.now c.in-Ok-decode.rows.items _ _ _ c.deref.ensures.value c.print_rows.ensures.printed)

pub returns-clause-ends : goal.returns-clause-ends
returns-clause-ends g c =
    stopped c.orc_stop.result (subst (HoldsNoRows c.args.bytes.now) (sym c.orc_stop.ensures) (no_rows_held c.args.bytes.now c.in-Ok.object c.in-Err-decode.fault c.in-Ok.ensures.ok c.in-Err-decode.ensures.err)) c.conclude-in-Err-decode.ensures.concluded
