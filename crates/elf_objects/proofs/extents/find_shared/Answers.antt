use Rattle.std.proofs.Common.{◌≡◌, ℕ, arith, length, subst, sym}
use Rattle.elf_objects.specs.Extents.{AreExtents, AreInOrder, AreMarked}
use Rattle.elf_objects.specs.File.{section_count}
use Rattle.elf_objects.proofs.Crowding.{TellsShared-marked}
use Rattle.elf_objects.proofs.extents.find_shared.Goals as goal

pub returns-clause-ok : goal.returns-clause-ok
returns-clause-ok c =
    let b = c.args.headers.now.bytes.now in
    let xs = c.deref.result.now in
    let same = sym c.deref.ensures.value in
    let size : length c.in_ok-marks.marks.items ≡ section_count b = omega (arith, c.in_ok-marks.ensures.len, c.args.headers.now.count_is) in
    let extents = subst (AreExtents b (section_count b)) same c.in_ok-extents.ensures.extents in
    let order = subst (AreInOrder (section_count b)) same c.in_ok-extents.ensures.order in
    TellsShared-marked b xs c.mark_crowded.new.marks.items extents order
    (subst (λ (n : ℕ). AreMarked n xs (length xs) c.mark_crowded.new.marks.items) size c.mark_crowded.ensures)
