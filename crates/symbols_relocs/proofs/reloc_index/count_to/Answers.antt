use Rattle.std.proofs.Common.{arith, rules, tests, leb}
use Rattle.std.proofs.lemmas.Bool.{leb-true, leb-false}
use Rattle.std.proofs.lemmas.List.Sorted.{IsPartitionPoint-from_clause, IsPartitionedBy-leb}
use Rattle.elf_objects.specs.declared.symbol.Reloc.{Reloc}
use Rattle.symbols_relocs.proofs.reloc_index.count_to.Goals as goal

pub returns-clause-below : goal.returns-clause-below
returns-clause-below c =
    let point = IsPartitionPoint-from_clause (λ (p : Reloc). leb p.offset c.args.off) c.args.relocs.now c.partition_point.result c.partition_point.ensures.partitioned
    (IsPartitionedBy-leb (λ p. p.offset) c.args.relocs.now c.args.off c.requires) (λ a r f k. search (rules, tests)) in
    λ k d h. leb-true _ _ (point.0 k d (omega arith) h)

pub returns-clause-above : goal.returns-clause-above
returns-clause-above c =
    let point = IsPartitionPoint-from_clause (λ (p : Reloc). leb p.offset c.args.off) c.args.relocs.now c.partition_point.result c.partition_point.ensures.partitioned
    (IsPartitionedBy-leb (λ p. p.offset) c.args.relocs.now c.args.off c.requires) (λ a r f k. search (rules, tests)) in
    λ k d h i. leb-false _ _ (point.1 k d h i)
