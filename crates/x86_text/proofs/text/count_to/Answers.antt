use Rattle.std.proofs.Common.{ℕ, arith, rules, tests, leb}
use Rattle.std.proofs.lemmas.Bool.{leb-true, leb-false}
use Rattle.std.proofs.lemmas.List.Sorted.{IsPartitionPoint-from_clause, IsPartitionedBy-leb}
use Rattle.x86_text.proofs.text.count_to.Goals as goal

pub returns-clause-below : goal.returns-clause-below
returns-clause-below c =
    let point = IsPartitionPoint-from_clause (λ (o : ℕ). leb o c.args.off) c.args.offsets.now c.partition_point.result c.partition_point.ensures.partitioned
    (IsPartitionedBy-leb (λ (o : ℕ). o) c.args.offsets.now c.args.off c.requires) (λ a r f k. search (rules, tests)) in
    λ k d h. leb-true _ _ (point.0 k d (omega arith) h)

pub returns-clause-above : goal.returns-clause-above
returns-clause-above c =
    let point = IsPartitionPoint-from_clause (λ (o : ℕ). leb o c.args.off) c.args.offsets.now c.partition_point.result c.partition_point.ensures.partitioned
    (IsPartitionedBy-leb (λ (o : ℕ). o) c.args.offsets.now c.args.off c.requires) (λ a r f k. search (rules, tests)) in
    λ k d h i. leb-false _ _ (point.1 k d h i)
