use Rattle.std.proofs.Common.{◌≡◌, ◌+◌, ◌++◌, length, drop}
use Rattle.elf_write.specs.Layout.{bodies, end_of, header_table, new_headers, new_names}
use Rattle.elf_write.specs.New.{entries}
use Rattle.elf_write.proofs.pieces.push_new_headers.Given as goal

abbrev pub invariant-loop-section : goal.invariant-loop-section
invariant-loop-section l = record {
  written : l.out.items ++ header_table (new_headers l.name l.at (entries (drop l.section-index l.new)))
      ≡ l.initial.out.items ++ header_table (new_headers l.initial.name l.initial.at (entries l.new));
  names : l.name + length (new_names (entries (drop l.section-index l.new)))
      ≡ l.initial.name + length (new_names (entries l.new));
  ends : end_of l.at (bodies (entries (drop l.section-index l.new))) ≡ end_of l.initial.at (bodies (entries l.new));
}
