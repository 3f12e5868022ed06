use Rattle.std.proofs.Common.{arith, rules, tests}
use Rattle.std.proofs.lemmas.List.Sorted.{IsPartitionPoint-from_clause}
use Rattle.ot_base.specs.Places.{is_before}
use Rattle.symbols_relocs.specs.declared.returning.NamedStart.{NamedStart}
use Rattle.symbols_relocs.proofs.Naming.{before_parted}
use Rattle.symbols_relocs.proofs.returning.count_before.Goals as goal

pub returns-clause-before : goal.returns-clause-before
returns-clause-before c =
    let point = IsPartitionPoint-from_clause (λ (s : NamedStart). is_before s.start c.args.place) c.args.starts.now c.partition_point.result c.partition_point.ensures.partitioned
    (before_parted c.args.starts.now c.args.place c.requires) (λ a r f k. search (rules, tests)) in
    λ k d h. point.0 k d (omega arith) h

pub returns-clause-others : goal.returns-clause-others
returns-clause-others c =
    let point = IsPartitionPoint-from_clause (λ (s : NamedStart). is_before s.start c.args.place) c.args.starts.now c.partition_point.result c.partition_point.ensures.partitioned
    (before_parted c.args.starts.now c.args.place c.requires) (λ a r f k. search (rules, tests)) in
    λ k d h i. point.1 k d h i
