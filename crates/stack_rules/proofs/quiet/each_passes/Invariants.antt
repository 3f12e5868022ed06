-- The edges so far pass.
use Rattle.std.proofs.Common.{take}
use Rattle.std.specs.Prelude.{All}
use Rattle.machine_defs.specs.Program.{Program}
use Rattle.program_graph.specs.Tells.{Tells}
use Rattle.stack_rules.specs.Quiet.{Passes}
use Rattle.stack_rules.proofs.quiet.each_passes.Given as goal

abbrev pub invariant-loop-edge : goal.invariant-loop-edge
invariant-loop-edge l = (p : Program) → Tells p l.graph.parts → All (Passes p l.kept l.n) (take l.edge-index l.edges)
