use Rattle.std.proofs.Common.{below_more}
use Rattle.elf_objects.proofs.bodies.check_bodies.Goals as goal

pub loop-i-preserved : goal.loop-i-preserved
loop-i-preserved c = below_more _ _ c.loop-i.invariant c.in_ok-check_body.ensures
