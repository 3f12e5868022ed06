use Rattle.std.proofs.Common.{sym, subst}
use Rattle.command_base.specs.Cfa.{SaysNoRules, printed, stopped}
use Rattle.command_base.proofs.CfaLaws.{no_object, no_rules_said, printed_as}
use Rattle.command_base.proofs.frames_telling.tell_bytes.Goals as goal

pub returns-in-Err-clause-ends : goal.returns-in-Err-clause-ends
returns-in-Err-clause-ends g c =
    stopped c.parse_stop.result (subst (SaysNoRules c.args.bytes.now) (sym c.parse_stop.ensures) (no_object c.args.bytes.now c.in-Err.fault c.in-Err.ensures.err)) c.conclude.ensures.concluded

pub returns-in-Ok-decode-clause-ends : goal.returns-in-Ok-decode-clause-ends
returns-in-Ok-decode-clause-ends g c =
    printed c.in-Ok.object c.in-Ok-decode.rules.items (record { object = c.in-Ok.ensures.ok; held = c.in-Ok-decode.ensures.ok })
    (printed_as c.in-Ok.object c.deref.result.now c.in-Ok-decode.rules.items _ _ _ c.deref.ensures.value c.print_rules.ensures.printed)

pub returns-clause-ends : goal.returns-clause-ends
returns-clause-ends g c =
    stopped c.frames_stop.result (subst (SaysNoRules c.args.bytes.now) (sym c.frames_stop.ensures) (no_rules_said c.args.bytes.now c.in-Ok.object c.in-Err-decode.fault c.in-Ok.ensures.ok c.in-Err-decode.ensures.err)) c.conclude-in-Err-decode.ensures.concluded
