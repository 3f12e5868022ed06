use Rattle.std.proofs.Common.{◌≡◌, ℕ, ◌+◌, ◌<◌, ◌≤◌, List, Option, length, take, get_or, arith, sym, ap, ◌∙◌, subst}
use Rattle.ot_files.specs.Output.{appending}
use Rattle.table_defs.specs.declared.frame.Frame.{Frame}
use Rattle.table_defs.specs.declared.frame.Stop as walk
use Rattle.command_base.specs.declared.status.Status.{Status}
use Rattle.command_base.specs.declared.status.Status.TheVariants as status
use Rattle.command_base.specs.Outside.{Output}
use Rattle.command_base.specs.Printing.{Prints}
use Rattle.command_base.specs.WalkText.{walk_text}
use Rattle.command_base.proofs.UnwindLemmas.{frame_fails, frame_printed, stop_fails, stop_printed}
use Rattle.command_base.proofs.PrintLemmas.{no_lower, part_failed, stands_still}
use Rattle.command_base.proofs.unwinding.print_walk.Goals as goal

-- the frames that are gone through are those of the walk
of_walk : (one other : List Frame) (stop : walk.Stop) (before after : Output) (s : Status) → one ≡ other → Prints status.Done (walk_text one stop) before after s → Prints status.Done (walk_text other stop) before after s
of_walk one other stop before after s same h = subst (λ (frames : List Frame). Prints status.Done (walk_text frames stop) before after s) same h

pub returns-in-Err-clause-printed : goal.returns-in-Err-clause-printed
returns-in-Err-clause-printed g c =
    let later = no_lower _ _ c.loop-number.invariant.unfailed in
    of_walk _ _ c.args.walk.now.stop _ _ _ c.deref-frame-items.ensures.value
    (frame_fails c.deref-frame-items.result.now c.args.walk.now.stop c.loop-number.number _ _ _ _ _ c.loop-number-test.true c.loop-number.invariant.so_far later c.in-Err.ensures.err)

pub returns-in-Err-clause-output_failed : goal.returns-in-Err-clause-output_failed
returns-in-Err-clause-output_failed g c risen = part_failed _ _ _ _ c.loop-number.invariant.unfailed c.in-Err.ensures.output_failed risen

pub returns-in-Ok-print_stop-clause-output_failed : goal.returns-in-Ok-print_stop-clause-output_failed
returns-in-Ok-print_stop-clause-output_failed g c risen =
    let same = stands_still status.SinkFault _ _ _ c.print_stop.ensures.later c.in-Ok-print_stop.ensures.output_failed in
    absurd (omega (arith, same, c.loop-number.invariant.unfailed, risen))

pub returns-in-Err-print_stop-clause-output_failed : goal.returns-in-Err-print_stop-clause-output_failed
returns-in-Err-print_stop-clause-output_failed g c risen = part_failed _ _ _ _ c.loop-number.invariant.unfailed c.in-Err-print_stop.ensures.output_failed risen

pub loop-number-preserved : goal.loop-number-preserved
loop-number-preserved g c = record {
  so_far = frame_printed c.deref-frame-items.result.now c.loop-number.number _ _ _ _ c.loop-number-test.true c.loop-number.invariant.so_far c.in-Ok.ensures.ok;
  unfailed = stands_still status.SinkFault _ _ _ c.print_frame.ensures.later c.in-Ok.ensures.output_failed ∙ c.loop-number.invariant.unfailed;
}

pub returns-in-Ok-print_stop-clause-printed : goal.returns-in-Ok-print_stop-clause-printed
returns-in-Ok-print_stop-clause-printed g c =
    of_walk _ _ c.args.walk.now.stop _ _ _ c.deref-frame-items.ensures.value
    (stop_printed c.deref-frame-items.result.now c.args.walk.now.stop c.loop-number.number _ (record { written = g.S.Sink.written c.loop-number.out; faults = g.S.Sink.faults c.loop-number.out }) _ c.loop-number-test.false c.loop-number.invariant.so_far c.in-Ok-print_stop.ensures.ok)

pub returns-in-Err-print_stop-clause-printed : goal.returns-in-Err-print_stop-clause-printed
returns-in-Err-print_stop-clause-printed g c =
    let later = no_lower _ _ c.loop-number.invariant.unfailed in
    of_walk _ _ c.args.walk.now.stop _ _ _ c.deref-frame-items.ensures.value
    (stop_fails c.deref-frame-items.result.now c.args.walk.now.stop c.loop-number.number _ _ _ _ c.loop-number-test.false c.loop-number.invariant.so_far later c.in-Err-print_stop.ensures.err)
