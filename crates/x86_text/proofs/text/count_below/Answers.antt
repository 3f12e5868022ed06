use Rattle.std.proofs.Common.{ℕ, arith, rules, tests, ltb}
use Rattle.std.proofs.lemmas.Bool.{ltb-true, ltb-false}
use Rattle.std.proofs.lemmas.List.Sorted.{IsPartitionPoint-from_clause, IsPartitionedBy-ltb}
use Rattle.x86_text.proofs.text.count_below.Goals as goal

pub returns-clause-below : goal.returns-clause-below
returns-clause-below c =
    let point = IsPartitionPoint-from_clause (λ (o : ℕ). ltb o c.args.off) c.args.offsets.now c.partition_point.result c.partition_point.ensures.partitioned
    (IsPartitionedBy-ltb (λ (o : ℕ). o) c.args.offsets.now c.args.off c.requires) (λ a r f k. search (rules, tests)) in
    λ k d h. ltb-true _ _ (point.0 k d (omega arith) h)

pub returns-clause-above : goal.returns-clause-above
returns-clause-above c =
    let point = IsPartitionPoint-from_clause (λ (o : ℕ). ltb o c.args.off) c.args.offsets.now c.partition_point.result c.partition_point.ensures.partitioned
    (IsPartitionedBy-ltb (λ (o : ℕ). o) c.args.offsets.now c.args.off c.requires) (λ a r f k. search (rules, tests)) in
    λ k d h i. ltb-false _ _ (point.1 k d h i)
