use Rattle.std.proofs.Common.{length}
use Rattle.elf_objects.proofs.Crowding.{AreMarked-more, AreMarked-none, IsReach-more, IsReach-none}
use Rattle.elf_objects.proofs.extents.mark_crowded.Goals as goal

pub loop-p-init : goal.loop-p-init
loop-p-init c = record {
  reach = IsReach-none c.args.extents.now;
  marks = AreMarked-none (length c.args.marks.now.items) c.args.extents.now c.args.marks.now.items c.requires.none;
}

pub loop-p-preserved : goal.loop-p-preserved
loop-p-preserved c = record {
  reach = IsReach-more c.args.extents.now c.loop-p.p c.loop-p.reach c.max-reach.result c.max-reach.ensures c.loop-p.invariant.reach;
  marks = AreMarked-more (length c.args.marks.now.items) c.args.extents.now c.loop-p.p c.loop-p.marks.items c.is_crowded.result c.loop-p-test.true c.requires.order c.loop-p.invariant.marks c.is_crowded.ensures.0 c.is_crowded.ensures.1;
}
