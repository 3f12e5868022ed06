use Rattle.std.proofs.Common.{◌≡◌, take}
use Rattle.ot_files.specs.Output.{appending}
use Rattle.command_base.specs.WalkText.{frames_text}
use Rattle.command_base.proofs.unwinding.print_walk.Given as goal

abbrev pub invariant-loop-number : goal.invariant-loop-number
invariant-loop-number g l = record {
  so_far : g.S.Sink.written l.out ≡ appending (g.S.Sink.written l.initial.out) (frames_text 0 (take l.number l.frame-items));
  unfailed : g.S.Sink.faults l.out ≡ g.S.Sink.faults l.initial.out;
}
