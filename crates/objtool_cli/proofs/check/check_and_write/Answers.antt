use Rattle.std.proofs.Common.{refl, sym, subst}
use Rattle.flow_defs.specs.Coded.{coded_by}
use Rattle.object_check.specs.Outcome.{AreWarnings, IsOutcome, OnAccepted}
use Rattle.object_check.specs.Promises.{KeepsPromises}
use Rattle.object_check.specs.Unwinding.{RowsUnwind}
use Rattle.objtool_cli.specs.Command.{done, refused, stopped}
use Rattle.objtool_cli.proofs.CheckLemmas.{done_end, sound, stopped_end, warned_end}
use Rattle.objtool_cli.proofs.ParseLemmas.{check_uncheckable, uncheckable_refusal}
use Rattle.objtool_cli.proofs.check.check_and_write.Goals as goal

pub returns-in-Ok-Broken-clause-ends : goal.returns-in-Ok-Broken-clause-ends
returns-in-Ok-Broken-clause-ends g c =
    warned_end _ _ _ _ c.args.bytes.now c.args.lists.now _ _ _ _ _ c.args.object.now c.in-Ok-Broken.warnings.items c.deref.result.now c.requires.read c.requires.object
    (subst (IsOutcome (coded_by c.args.asked.options.map c.args.object.now) c.args.lists.now c.args.asked.options.rules) c.in-Ok-Broken.field-0-is c.in-Ok-Broken.ensures.ok) refl c.deref.ensures.value c.tell_warnings.ensures.told

pub returns-in-Err-clause-ends : goal.returns-in-Err-clause-ends
returns-in-Err-clause-ends g c =
    stopped c.check_stop.result
    (refused c.args.bytes.now c.args.lists.now c.requires.read (uncheckable_refusal c.args.bytes.now c.args.lists.now c.args.asked.options c.check_stop.result (check_uncheckable c.args.asked.options.map c.args.bytes.now c.args.lists.now c.args.object.now c.check_stop.result c.requires.object (c.check_stop.ensures c.args.asked.options.map c.args.lists.now c.in-Err.ensures.err))) refl)
    c.conclude.ensures.concluded

pub returns-in-Ok-clause-ends : goal.returns-in-Ok-clause-ends
returns-in-Ok-clause-ends g c =
    done
    (done_end _ _ _ _ c.args.bytes.now c.args.lists.now _ _ c.args.object.now c.in-Ok-Accepted.rows.items c.deref-2.result.now c.requires.read c.requires.object
    (sound c.args.object.now c.args.lists.now c.args.asked.options c.in-Ok-Accepted.rows.items c.in-Ok-Accepted.field-0-1 (subst (IsOutcome (coded_by c.args.asked.options.map c.args.object.now) c.args.lists.now c.args.asked.options.rules) c.in-Ok-Accepted.field-0-is c.in-Ok-Accepted.ensures.ok))
    (subst (λ outcome. OnAccepted outcome (RowsUnwind (coded_by c.args.asked.options.map c.args.object.now) c.args.lists.now)) c.in-Ok-Accepted.field-0-is c.in-Ok-Accepted.ensures.unwinds)
    (subst (λ outcome. OnAccepted outcome (λ rows. KeepsPromises (coded_by c.args.asked.options.map c.args.object.now) c.args.lists.now c.args.asked.options.rules)) c.in-Ok-Accepted.field-0-is c.in-Ok-Accepted.ensures.promises) c.deref-2.ensures.value c.in-Ok.ensures.written)
    refl

pub returns-clause-ends : goal.returns-clause-ends
returns-clause-ends g c =
    stopped c.in-Err-write_table.stop
    (stopped_end _ _ _ _ c.args.bytes.now c.args.lists.now _ _ c.args.object.now c.in-Ok-Accepted.rows.items c.deref-2.result.now c.in-Err-write_table.stop c.requires.read c.requires.object
    (sound c.args.object.now c.args.lists.now c.args.asked.options c.in-Ok-Accepted.rows.items c.in-Ok-Accepted.field-0-1 (subst (IsOutcome (coded_by c.args.asked.options.map c.args.object.now) c.args.lists.now c.args.asked.options.rules) c.in-Ok-Accepted.field-0-is c.in-Ok-Accepted.ensures.ok)) c.deref-2.ensures.value c.in-Err-write_table.ensures.stopped)
    c.conclude-in-Err-write_table.ensures.concluded

pub check_stop-requires : goal.check_stop-requires
check_stop-requires g c = (c.args.asked.options.map, c.args.lists.now, c.in-Err.ensures.err)

pub tell_warnings-requires-clause-checkable : goal.tell_warnings-requires-clause-checkable
tell_warnings-requires-clause-checkable g c = (subst (IsOutcome (coded_by c.args.asked.options.map c.args.object.now) c.args.lists.now c.args.asked.options.rules) c.in-Ok-Broken.field-0-is c.in-Ok-Broken.ensures.ok).0

pub tell_warnings-requires-clause-warned : goal.tell_warnings-requires-clause-warned
tell_warnings-requires-clause-warned g c =
    subst (AreWarnings _ _ c.args.asked.options.rules) (sym c.deref.ensures.value)
    (subst (IsOutcome (coded_by c.args.asked.options.map c.args.object.now) c.args.lists.now c.args.asked.options.rules) c.in-Ok-Broken.field-0-is c.in-Ok-Broken.ensures.ok).1
