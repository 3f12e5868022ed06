use Rattle.elf_objects.specs.File.{section_count}
use Rattle.elf_objects.proofs.Crowding.{AreExtents-permutation, AreInOrder-sorted}
use Rattle.elf_objects.proofs.extents.ordered_extents.Goals as goal

pub returns : goal.returns
returns c =
    let b = c.args.headers.now.bytes.now in
    let moved = c.sort_extents.ensures.permutation in
    record {
      extents = AreExtents-permutation b (section_count b) _ _ moved c.in_ok-list.ensures.ok;
      order = AreInOrder-sorted b (section_count b) _ _ c.in_ok-list.ensures.ok c.in_ok-list.ensures.rising moved c.sort_extents.ensures.sorted;
      err = tt;
    }
