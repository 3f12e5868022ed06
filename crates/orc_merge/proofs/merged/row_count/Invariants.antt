use Rattle.std.proofs.Common.{◌≡◌, ◌≤◌, ◌*◌, ◌^◌, take}
use Rattle.orc_merge.specs.MergeFaults.{number_of_rows}
use Rattle.orc_merge.proofs.merged.row_count.Given as goal

abbrev pub invariant-loop-part : goal.invariant-loop-part
invariant-loop-part l = record {
  counted : l.count ≡ number_of_rows (take l.part-index l.parts);
  few : l.count ≤ l.part-index * 2 ^ 32;
}
