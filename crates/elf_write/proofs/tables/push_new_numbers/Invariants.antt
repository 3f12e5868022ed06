use Rattle.std.proofs.Common.{◌≡◌, ◌++◌, drop}
use Rattle.std.specs.List.{flat_map}
use Rattle.elf_write.specs.SymbolLayout.{number_bytes}
use Rattle.elf_write.proofs.tables.push_new_numbers.Given as goal

abbrev pub invariant-loop-sec : goal.invariant-loop-sec
invariant-loop-sec l =
    l.out.items ++ flat_map number_bytes (drop l.sec-index l.secs) ≡ l.initial.out.items ++ flat_map number_bytes l.secs
