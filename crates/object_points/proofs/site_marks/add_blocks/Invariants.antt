use Rattle.std.proofs.Common.{◌≡◌, ℕ, ◌<◌, true}
use Rattle.object_points.specs.Places.{is_among}
use Rattle.object_points.specs.SiteBlocks.{block_behind, AreKept}
use Rattle.object_points.proofs.site_marks.add_blocks.Given as goal

abbrev pub invariant-loop-count : goal.invariant-loop-count
invariant-loop-count l = AreKept l.fn.blocks.items l.blocks.items × ((k : ℕ) → k < l.count → is_among l.blocks.items (block_behind l.site.start k) ≡ true)
