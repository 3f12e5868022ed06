use Rattle.std.proofs.Common.{◌≡◌, ◌≤◌, ◌<◌, ◌-◌, ℕ, true, false, List, [], get_or, length}
use Rattle.std.specs.Prelude.{IfSome}
use Rattle.ot_base.specs.declared.row.PlacedRow.{PlacedRow}
use Rattle.ot_base.specs.Places.{is_before}
use Rattle.machine_defs.specs.Program.{Program}
use Rattle.machine_defs.specs.Rows.{row_of_point}
use Rattle.table_defs.specs.Order.{PlainPointsAscend}
use Rattle.program_graph.specs.Tells.{Tells}
use Rattle.kept_states.specs.LevelStates.{at}
use Rattle.stack_rules.specs.Sites.{IsIndexOf}
use Rattle.program_check.specs.Changes.{AreRowsInSites, add_all, is_held, rows_in_sites}
use Rattle.program_check.specs.Checked.{IsCheckedBy}
use Rattle.program_check.proofs.Clear.{AreInSection}
use Rattle.program_check.proofs.Merging.{IsSoFar}
use Rattle.program_check.proofs.changes.list_changes.Given as goal

abbrev pub invariant-points : goal.invariant-points
invariant-points l = record {
  inside : IfSome l.held (λ h. h < length l.kept);
  held : (p : Program) → Tells p l.graph.parts → IfSome l.held (λ h. is_held l.rows.items (p.place h).sec (row_of_point (at l.kept) h) ≡ true);
  to : l.from ≤ length l.kept;
  waiting : (p : Program) → Tells p l.graph.parts → (d : ℕ) → l.next < length l.in_sites → l.waiting ≡ p.address (get_or l.in_sites l.next d);
  within : l.next ≤ length l.in_sites;
  reach : l.clear_to ≤ length l.kept;
  section : (p : Program) → Tells p l.graph.parts → PlainPointsAscend p → AreInSection p l.held l.from l.clear_to;
  clear : (p : Program) → Tells p l.graph.parts → PlainPointsAscend p → l.next < length l.in_sites → (k : ℕ) → l.from ≤ k → k < l.clear_to → p.variant k ≡ 0 → is_before l.waiting (p.place k) ≡ false;
  merged : (p : Program) → IsCheckedBy p l.graph.parts (at l.kept) → IsIndexOf p l.sites → AreRowsInSites p (at l.kept) (rows_in_sites p (at l.kept) l.in_sites) → (all : List PlacedRow) × IsSoFar p (at l.kept) (rows_in_sites p (at l.kept) l.in_sites) l.from l.next all × (l.rows.items ≡ add_all [] all);
}

abbrev pub decreases-points : goal.decreases-points
decreases-points l = length l.kept - l.from
