use Rattle.std.proofs.Common.{refl, sym, subst}
use Rattle.eh_frame.specs.Framed.{CanBeFramed}
use Rattle.flow_defs.specs.Coded.{coded_by}
use Rattle.object_check.specs.Outcome.{HasRows, OnAccepted}
use Rattle.object_check.specs.Unwinding.{RowsUnwind}
use Rattle.objtool_cli.specs.Cfi.{refused, stopped, unchecked}
use Rattle.objtool_cli.specs.FramesChecked.{IsChecked}
use Rattle.objtool_cli.specs.FramesOrder.{program_under}
use Rattle.objtool_cli.proofs.FramesEnds.{warned_end}
use Rattle.objtool_cli.proofs.frames_adding.check_and_add_object.Goals as goal

pub returns-in-Ok-Broken-clause-ends : goal.returns-in-Ok-Broken-clause-ends
returns-in-Ok-Broken-clause-ends g c =
    warned_end _ _ _ _ c.args.bytes.now c.args.lists.now _ _ _ _ _ c.args.object.now c.in-Ok-Broken.warnings.items c.deref-in-Ok-Broken.result.now c.requires.read c.requires.object
    (subst (IsChecked c.args.asked.map c.args.object.now c.args.lists.now) c.in-Ok-Broken.field-0-is c.in-Ok-Broken.ensures.checked) refl c.deref-in-Ok-Broken.ensures.value c.print_warnings.ensures.printed

pub returns-in-Err-clause-ends : goal.returns-in-Err-clause-ends
returns-in-Err-clause-ends g c =
    stopped c.in-Err.stop
    (refused c.args.bytes.now c.args.lists.now c.requires.read (unchecked c.args.object.now c.requires.object c.in-Err.ensures.stopped) refl)
    c.conclude.ensures.concluded

pub add-requires-clause-checkable : goal.add-requires-clause-checkable
add-requires-clause-checkable g c =
    (subst (IsChecked c.args.asked.map c.args.object.now c.args.lists.now) c.in-Ok-Accepted.field-0-is c.in-Ok-Accepted.ensures.checked).0

pub add-requires-clause-unbroken : goal.add-requires-clause-unbroken
add-requires-clause-unbroken g c =
    (subst (IsChecked c.args.asked.map c.args.object.now c.args.lists.now) c.in-Ok-Accepted.field-0-is c.in-Ok-Accepted.ensures.checked).1

pub add-requires-clause-rows : goal.add-requires-clause-rows
add-requires-clause-rows g c =
    subst (HasRows (program_under c.args.asked.map c.args.lists.now c.args.object.now)) (sym c.deref.ensures.value)
    (subst (IsChecked c.args.asked.map c.args.object.now c.args.lists.now) c.in-Ok-Accepted.field-0-is c.in-Ok-Accepted.ensures.checked).2

pub add-requires-clause-framed : goal.add-requires-clause-framed
add-requires-clause-framed g c =
    subst (CanBeFramed c.args.object.now) (sym c.deref.ensures.value)
    (subst (λ outcome. OnAccepted outcome (CanBeFramed c.args.object.now)) c.in-Ok-Accepted.field-0-is c.in-Ok-Accepted.ensures.rows)

pub add-requires-clause-unwinds : goal.add-requires-clause-unwinds
add-requires-clause-unwinds g c =
    subst (RowsUnwind (coded_by c.args.asked.map c.args.object.now) c.args.lists.now) (sym c.deref.ensures.value)
    (subst (λ outcome. OnAccepted outcome (RowsUnwind (coded_by c.args.asked.map c.args.object.now) c.args.lists.now)) c.in-Ok-Accepted.field-0-is c.in-Ok-Accepted.ensures.unwinds)
