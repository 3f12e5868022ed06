use Rattle.std.proofs.Common.{rules}
use Rattle.std.proofs.lemmas.List.{append_assoc}
use Rattle.elf_write.specs.SymbolLayout.{symbol_bytes}
use Rattle.elf_write.proofs.tables.push_symbol.Goals as goal

pub returns : goal.returns
unfolding symbol_bytes
returns c = search (rules, append_assoc)
