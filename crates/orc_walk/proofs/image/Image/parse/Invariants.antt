use Rattle.std.proofs.Common.{◌≡◌, ℕ, ◌<◌, map, take, None}
use Rattle.orc_walk.specs.ImageFile.{fault_at, sayings}
use Rattle.orc_walk.specs.Reading.{Holds, IsSound}
use Rattle.orc_walk.proofs.image.Image.parse.Given as goal

abbrev pub invariant-loop-index : goal.invariant-loop-index
invariant-loop-index l = record {
  sound : IsSound l.reading;
  holds : Holds (sayings (take l.index (map (λ line. line.now) l.line-items))) l.reading;
  no_fault : (k : ℕ) → k < l.index → fault_at (map (λ line. line.now) l.line-items) k ≡ None;
}
