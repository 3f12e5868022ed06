use Rattle.std.proofs.Common.{rules}
use Rattle.std.proofs.lemmas.List.Sorted.{IsNonDecreasingBy-from_sort_by_key}
use Rattle.elf_objects.specs.declared.symbol.Reloc.{Reloc}
use Rattle.eh_frame.proofs.relocs.sorted_relocs.Goals as goal

pub returns-clause-ascending : goal.returns-clause-ascending
returns-clause-ascending c = IsNonDecreasingBy-from_sort_by_key (λ (r : Reloc). r.offset) _ c.sort_unstable_by_key.ensures.sorted (λ a r q k. search rules)
