-- The edges so far lead to hints.
use Rattle.std.proofs.Common.{◌≡◌, true, take}
use Rattle.std.specs.List.{list_all}
use Rattle.program_model.specs.Ways.{leads_to_hint}
use Rattle.program_model.proofs.ways.each_leads_to_hint.Given as goal

abbrev pub invariant-loop-edge : goal.invariant-loop-edge
invariant-loop-edge l = list_all (leads_to_hint l.p) (take l.edge-index l.edges) ≡ true
