-- What is listed of the points so far is printed.
use Rattle.std.proofs.Common.{◌≡◌}
use Rattle.std.specs.Prelude.{option_map}
use Rattle.std.specs.List.{flat_map}
use Rattle.ot_files.specs.Output.{appending}
use Rattle.machine_defs.specs.Program.{Program, below}
use Rattle.kept_states.specs.LevelStates.{at}
use Rattle.program_graph.specs.Tells.{Tells}
use Rattle.code_listing.specs.Listing.{part_text}
use Rattle.code_commands.proofs.show_printing.print_listing.Given as goal

abbrev pub invariant-loop-n : goal.invariant-loop-n
invariant-loop-n g l = record {
  so_far : (p : Program) → Tells p l.graph.parts → g.S.Sink.written l.out ≡ appending (g.S.Sink.written l.initial.out) (flat_map (part_text l.object p (at l.kept) (option_map (λ name. name.now) l.function)) (below l.n));
  unfailed : g.S.Sink.faults l.out ≡ g.S.Sink.faults l.initial.out;
}
