use Rattle.std.proofs.Common.{◌≡◌, take}
use Rattle.ot_files.specs.Output.{appending}
use Rattle.command_base.specs.Dump.{rows_text}
use Rattle.command_base.proofs.dumping.print_rows.Given as goal

abbrev pub invariant-loop-placed : goal.invariant-loop-placed
invariant-loop-placed g l = record {
  so_far : g.S.Sink.written l.out ≡ appending (g.S.Sink.written l.initial.out) (rows_text l.object (take l.placed-index l.rows));
  unfailed : g.S.Sink.faults l.out ≡ g.S.Sink.faults l.initial.out;
}
