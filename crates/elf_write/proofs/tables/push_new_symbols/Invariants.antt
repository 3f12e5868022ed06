use Rattle.std.proofs.Common.{◌≡◌, ◌++◌, drop}
use Rattle.std.specs.List.{flat_map}
use Rattle.elf_write.specs.SymbolLayout.{symbol_bytes}
use Rattle.elf_write.proofs.tables.push_new_symbols.Given as goal

abbrev pub invariant-loop-sec : goal.invariant-loop-sec
invariant-loop-sec l =
    l.out.items ++ flat_map symbol_bytes (drop l.sec-index l.secs) ≡ l.initial.out.items ++ flat_map symbol_bytes l.secs
