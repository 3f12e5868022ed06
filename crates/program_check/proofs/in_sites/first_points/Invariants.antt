use Rattle.std.proofs.Common.{◌≡◌, ℕ, ◌-◌, ◌<◌, Some, None, All, get_or, length}
use Rattle.machine_defs.specs.Program.{Program}
use Rattle.program_graph.specs.Tells.{Tells}
use Rattle.program_check.proofs.SiteRows.{AreSoFar}
use Rattle.program_check.proofs.in_sites.first_points.Given as goal

abbrev pub invariant-loop-i : goal.invariant-loop-i
invariant-loop-i l = record {
  within : All (λ (q : ℕ). q < length l.graph.parts.points.items) l.firsts.items;
  first : (p : Program) → Tells p l.graph.parts → AreSoFar p l.points l.i l.firsts.items;
  none : l.i ≡ 0 → l.before ≡ None;
  some : (p : Program) → Tells p l.graph.parts → 0 < l.i → l.before ≡ Some (p.address (get_or l.points (l.i - 1) 0));
}
