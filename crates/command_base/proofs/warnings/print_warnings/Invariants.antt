use Rattle.std.proofs.Common.{◌≡◌, take}
use Rattle.ot_files.specs.Output.{appending}
use Rattle.command_base.specs.Warnings.{warnings_text}
use Rattle.command_base.proofs.warnings.print_warnings.Given as goal

abbrev pub invariant-loop-warning : goal.invariant-loop-warning
invariant-loop-warning g l = record {
  so_far : g.S.Sink.written l.out ≡ appending (g.S.Sink.written l.initial.out) (warnings_text l.object (take l.warning-index l.warnings));
  unfailed : g.S.Sink.faults l.out ≡ g.S.Sink.faults l.initial.out;
}
