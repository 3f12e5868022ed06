use Rattle.std.proofs.Common.{ℕ, ◌<◌}
use Rattle.std.specs.Prelude.{slice_index_or}
use Rattle.alternatives.specs.declared.site.AlternativesSite.{AlternativesSite}
use Rattle.object_points.specs.SiteBlocks.{HaveBlocks}
use Rattle.object_points.proofs.site_marks.list_blocks.Given as goal

abbrev pub invariant-loop-site : goal.invariant-loop-site
invariant-loop-site l = (k : ℕ) (d : AlternativesSite) → k < l.site-index → HaveBlocks (slice_index_or l.sites k d) l.blocks.items
