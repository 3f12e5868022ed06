-- The parts to which the edges so far lead.
use Rattle.std.proofs.Common.{◌↔◌, ◌⊎◌, ℕ, Option, Contains, take}
use Rattle.machine_defs.specs.declared.flow.Edge.{Edge}
use Rattle.machine_defs.specs.Program.{Program}
use Rattle.program_graph.specs.Tells.{Tells}
use Rattle.stack_rules.specs.Holes.{EntersPart, IsAmong}
use Rattle.stack_rules.proofs.holes.note_edges.Given as goal

abbrev pub invariant-loop-edge : goal.invariant-loop-edge
invariant-loop-edge l =
    (p : Program) (part : Option ℕ) → Tells p l.graph.parts
    → IsAmong l.parts part ↔ (IsAmong l.fn.parts part ⊎ ((e : Edge) × Contains (take l.edge-index l.edges) e × EntersPart p e part))
