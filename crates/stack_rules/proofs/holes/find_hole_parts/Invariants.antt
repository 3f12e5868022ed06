-- The parts to which the points so far lead.
use Rattle.machine_defs.specs.Program.{Program}
use Rattle.program_graph.specs.Tells.{Tells}
use Rattle.stack_rules.specs.Holes.{AreHoleParts}
use Rattle.stack_rules.proofs.holes.find_hole_parts.Given as goal

abbrev pub invariant-loop-n : goal.invariant-loop-n
invariant-loop-n l = (p : Program) → Tells p l.graph.parts → AreHoleParts p l.options l.n l.parts
