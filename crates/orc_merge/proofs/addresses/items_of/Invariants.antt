use Rattle.std.proofs.Common.{◌≡◌, take}
use Rattle.orc_walk.specs.Rows.{rows_of}
use Rattle.orc_merge.specs.Parts.{all_rows}
use Rattle.orc_merge.proofs.addresses.items_of.Given as goal

abbrev pub invariant-loop-part : goal.invariant-loop-part
invariant-loop-part l = rows_of l.items.items ≡ all_rows (take l.part-index l.parts)
