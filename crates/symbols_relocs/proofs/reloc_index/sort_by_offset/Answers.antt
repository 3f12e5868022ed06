use Rattle.std.proofs.Common.{rules}
use Rattle.std.proofs.lemmas.List.Sorted.{answers_always, IsNonDecreasingBy-from_sort_by_key}
use Rattle.elf_objects.specs.declared.symbol.Reloc.{Reloc}
use Rattle.symbols_relocs.proofs.Sorting.{stable_is_index}
use Rattle.symbols_relocs.proofs.reloc_index.sort_by_offset.Goals as goal

pub returns-clause-sorted : goal.returns-clause-sorted
returns-clause-sorted c =
    IsNonDecreasingBy-from_sort_by_key (λ (r : Reloc). r.offset) _ c.in_ok-sort_by_key.ensures.sorted (λ a r f k. search rules)

pub returns-clause-same : goal.returns-clause-same
returns-clause-same c =
    stable_is_index _ _ (c.in_ok-sort_by_key.ensures.stable (λ (r : Reloc). r.offset) (answers_always _ _ _ (λ f a r g h. search rules)))
