use Rattle.elf_objects.proofs.extents.list_extents.Goals as goal

pub loop-i-preserved : goal.loop-i-preserved
loop-i-preserved c = record { extents = c.in_ok-add_extent.ensures.ok; rising = c.in_ok-add_extent.ensures.rising }
