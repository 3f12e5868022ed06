use Rattle.std.proofs.Common.{◌≡◌, length}
use Rattle.ot_files.specs.Output.{Sends}
use Rattle.ot_files.proofs.lines.write_line.Given as goal

abbrev pub invariant-loop-rest : goal.invariant-loop-rest
invariant-loop-rest g l =
    record {
      sends : Sends (g.S.Sink.written l.fn.out) (g.S.Sink.written l.out) l.line l.rest;
      unfailed : g.S.Sink.faults l.out ≡ g.S.Sink.faults l.fn.out;
    }

abbrev pub decreases-loop-rest : goal.decreases-loop-rest
decreases-loop-rest g l = length l.rest
