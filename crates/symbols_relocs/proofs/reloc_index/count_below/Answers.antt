use Rattle.std.proofs.Common.{arith, rules, tests, ltb}
use Rattle.std.proofs.lemmas.Bool.{ltb-true, ltb-false}
use Rattle.std.proofs.lemmas.List.Sorted.{IsPartitionPoint-from_clause, IsPartitionedBy-ltb}
use Rattle.elf_objects.specs.declared.symbol.Reloc.{Reloc}
use Rattle.symbols_relocs.proofs.reloc_index.count_below.Goals as goal

pub returns : goal.returns
returns c =
    let point = IsPartitionPoint-from_clause (λ (p : Reloc). ltb p.offset c.args.off) c.args.relocs.now c.partition_point.result c.partition_point.ensures.partitioned
    (IsPartitionedBy-ltb (λ p. p.offset) c.args.relocs.now c.args.off c.requires) (λ a r f k. search (rules, tests)) in
    record {
      within = c.partition_point.ensures.bound;
      below = λ k d h. ltb-true _ _ (point.0 k d (omega arith) h);
      above = λ k d h i. ltb-false _ _ (point.1 k d h i);
    }
