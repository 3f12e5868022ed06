use Rattle.std.proofs.Common.{◌≡◌, take}
use Rattle.ot_files.specs.Output.{appending}
use Rattle.command_base.specs.Cfa.{rules_text}
use Rattle.command_base.proofs.frames_telling.print_rules.Given as goal

abbrev pub invariant-loop-placed : goal.invariant-loop-placed
invariant-loop-placed g l = record {
  so_far : g.S.Sink.written l.out ≡ appending (g.S.Sink.written l.initial.out) (rules_text l.object (take l.placed-index l.rules));
  unfailed : g.S.Sink.faults l.out ≡ g.S.Sink.faults l.initial.out;
}
