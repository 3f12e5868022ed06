use Rattle.std.proofs.Common.{arith}
use Rattle.object_points.proofs.SiteMarks.{have_blocks}
use Rattle.object_points.proofs.site_marks.add_blocks.Goals as goal

pub returns-clause-all : goal.returns-clause-all
returns-clause-all c =
    have_blocks c.args.site.now c.loop-count.blocks.items c.loop-count.count (omega (arith, c.loop-count-test.false)) c.loop-count.invariant.1
