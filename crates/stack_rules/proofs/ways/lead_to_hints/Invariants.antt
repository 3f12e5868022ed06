-- The edges so far lead to hints.
use Rattle.std.proofs.Common.{◌≡◌, ◌||◌, not, true, take}
use Rattle.std.specs.List.{list_all}
use Rattle.machine_defs.specs.Program.{Program}
use Rattle.machine_defs.specs.Kept.{is_free}
use Rattle.machine_defs.specs.Ways.{is_fixup}
use Rattle.program_graph.specs.Tells.{Tells}
use Rattle.stack_rules.proofs.ways.lead_to_hints.Given as goal

abbrev pub invariant-loop-edge : goal.invariant-loop-edge
invariant-loop-edge l = (p : Program) → Tells p l.graph.parts → list_all (λ e. is_fixup e.kind || not (is_free (p.hint e.to))) (take l.edge-index l.edges) ≡ true
