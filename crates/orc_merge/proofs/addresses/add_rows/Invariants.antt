use Rattle.std.proofs.Common.{◌≡◌, ◌++◌, List, take}
use Rattle.table_defs.specs.declared.range.Range.{Range}
use Rattle.table_defs.specs.Lookup.{addressed}
use Rattle.orc_walk.specs.Rows.{rows_of}
use Rattle.orc_walk.specs.Bases.{HasBases}
use Rattle.orc_merge.proofs.addresses.add_rows.Given as goal

abbrev pub invariant-loop-placed : goal.invariant-loop-placed
invariant-loop-placed l = (ranges : List Range) → HasBases ranges l.bases → rows_of l.items.items ≡ rows_of l.initial.items.items ++ addressed ranges (take l.placed-index l.rows)
