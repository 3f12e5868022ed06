use Rattle.std.proofs.Common.{◌≡◌, ℕ, ◌<◌, map, take, None}
use Rattle.orc_merge.specs.LayoutFile.{fault_at, files_said}
use Rattle.orc_merge.specs.LayoutReading.{Holds}
use Rattle.orc_merge.proofs.layout.Layout.parse.Given as goal

abbrev pub invariant-loop-index : goal.invariant-loop-index
invariant-loop-index l = record {
  holds : Holds (files_said (take l.index (map (λ line. line.now) l.line-items))) l.reading;
  no_fault : (k : ℕ) → k < l.index → fault_at (map (λ line. line.now) l.line-items) k ≡ None;
}
