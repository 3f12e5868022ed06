-- The edges so far are written.
use Rattle.std.proofs.Common.{◌≡◌, ◌++◌, take}
use Rattle.machine_defs.specs.Program.{Program}
use Rattle.program_graph.specs.Tells.{Tells}
use Rattle.code_listing.specs.Points.{edges_text}
use Rattle.code_listing.proofs.flow.push_edges.Given as goal

abbrev pub invariant-loop-edge : goal.invariant-loop-edge
invariant-loop-edge l = (p : Program) → Tells p l.graph.parts → l.into.items ≡ l.initial.into.items ++ edges_text l.object p (take l.edge-index l.edge-items)
