use Rattle.std.proofs.Common.{◌≡◌, ◌≤◌, ◌*◌, map}
use Rattle.std.specs.List.{range_with_len, sum_by}
use Rattle.elf_objects.specs.File.{section_header}
use Rattle.elf_objects.specs.Sections.{text_size}
use Rattle.elf_objects.proofs.names.count_text.Given as goal

abbrev pub invariant-loop-i : goal.invariant-loop-i
invariant-loop-i l = record {
  sum : l.total ≡ sum_by text_size (map (section_header l.headers.bytes.now) (range_with_len 0 l.i));
  small : l.total ≤ 4294967296 * l.i;
}
