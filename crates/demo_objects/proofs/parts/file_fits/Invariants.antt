use Rattle.std.proofs.Common.{◌≡◌, ◌<◌, ◌^◌, drop}
use Rattle.elf_write.specs.New.{entries}
use Rattle.demo_objects.specs.Layout.{bodies_end}
use Rattle.demo_objects.proofs.parts.file_fits.Given as goal

abbrev pub invariant-loop-section : goal.invariant-loop-section
invariant-loop-section l = record {
  below : l.end < 2 ^ 32;
  rest : bodies_end l.end (entries (drop l.section-index l.sections)) ≡ bodies_end 64 (entries l.sections);
}
