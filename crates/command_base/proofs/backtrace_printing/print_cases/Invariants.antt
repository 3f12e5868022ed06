use Rattle.std.proofs.Common.{◌≡◌, take}
use Rattle.ot_files.specs.Output.{appending}
use Rattle.machine_defs.specs.Program.{Program}
use Rattle.program_graph.specs.Tells.{Tells}
use Rattle.kept_states.specs.LevelStates.{at}
use Rattle.command_base.specs.BacktraceCases.{cases_text}
use Rattle.command_base.proofs.backtrace_printing.print_cases.Given as goal

abbrev pub invariant-loop-case : goal.invariant-loop-case
invariant-loop-case g l = record {
  so_far : (p : Program) → Tells p l.sources.graph.now.parts → g.S.Sink.written l.out ≡ appending (g.S.Sink.written l.initial.out) (cases_text l.sources.object.now l.sources.input.now p (at l.sources.kept.now) l.sources.ways (take l.case-index l.cases));
  unfailed : g.S.Sink.faults l.out ≡ g.S.Sink.faults l.initial.out;
}
