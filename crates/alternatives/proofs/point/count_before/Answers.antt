use Rattle.std.proofs.Common.{arith, rules, tests}
use Rattle.std.proofs.lemmas.List.Sorted.{IsPartitionPoint-from_clause}
use Rattle.ot_base.specs.Places.{is_before}
use Rattle.alternatives.specs.declared.point.Point.{Point}
use Rattle.alternatives.proofs.Numbering.{before_parted}
use Rattle.alternatives.proofs.point.count_before.Goals as goal

pub returns-clause-before : goal.returns-clause-before
returns-clause-before c =
    let parts = IsPartitionPoint-from_clause (λ (p : Point). is_before p.place c.args.place) c.args.points.now c.partition_point.result c.partition_point.ensures.partitioned
    (before_parted c.args.points.now c.args.place c.requires) (λ a r f k. search (rules, tests)) in
    λ k d h. parts.0 k d (omega arith) h

pub returns-clause-others : goal.returns-clause-others
returns-clause-others c =
    let parts = IsPartitionPoint-from_clause (λ (p : Point). is_before p.place c.args.place) c.args.points.now c.partition_point.result c.partition_point.ensures.partitioned
    (before_parted c.args.points.now c.args.place c.requires) (λ a r f k. search (rules, tests)) in
    λ k d h i. parts.1 k d h i
