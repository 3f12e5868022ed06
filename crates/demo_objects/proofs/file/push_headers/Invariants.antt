use Rattle.std.proofs.Common.{◌≡◌, ◌+◌, ◌++◌, length, drop}
use Rattle.elf_write.specs.Layout.{header_table, new_names}
use Rattle.elf_write.specs.New.{entries}
use Rattle.demo_objects.specs.Layout.{bodies_end, headers_from}
use Rattle.demo_objects.proofs.file.push_headers.Given as goal

abbrev pub invariant-loop-section : goal.invariant-loop-section
invariant-loop-section l = record {
  written : l.out.items ++ header_table (headers_from l.name l.at (entries (drop l.section-index l.sections)))
      ≡ l.initial.out.items ++ header_table (headers_from 1 64 (entries l.sections));
  names : l.name + length (new_names (entries (drop l.section-index l.sections))) ≡ 1 + length (new_names (entries l.sections));
  ends : bodies_end l.at (entries (drop l.section-index l.sections)) ≡ bodies_end 64 (entries l.sections);
}
