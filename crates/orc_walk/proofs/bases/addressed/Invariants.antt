use Rattle.std.proofs.Common.{◌≡◌, ◌≤◌, List, length, take}
use Rattle.table_defs.specs.declared.range.Range.{Range}
use Rattle.table_defs.specs.Lookup.{addressed}
use Rattle.orc_walk.specs.Rows.{rows_of}
use Rattle.orc_walk.specs.Bases.{HasBases}
use Rattle.orc_walk.proofs.bases.addressed.Given as goal

abbrev pub invariant-loop-placed : goal.invariant-loop-placed
invariant-loop-placed l = record {
  all : (ranges : List Range) → HasBases ranges l.bases → rows_of l.items.items ≡ addressed ranges (take l.placed-index l.rows);
  number : length l.items.items ≤ l.placed-index;
}
