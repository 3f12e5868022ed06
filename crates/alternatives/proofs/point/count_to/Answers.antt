use Rattle.std.proofs.Common.{not, arith, rules, tests}
use Rattle.std.proofs.lemmas.Bool.{not-true, not-false}
use Rattle.std.proofs.lemmas.List.Sorted.{IsPartitionPoint-from_clause}
use Rattle.ot_base.specs.Places.{is_before}
use Rattle.alternatives.specs.declared.point.Point.{Point}
use Rattle.alternatives.proofs.Numbering.{upto_parted}
use Rattle.alternatives.proofs.point.count_to.Goals as goal

pub returns-clause-upto : goal.returns-clause-upto
returns-clause-upto c =
    let parts = IsPartitionPoint-from_clause (λ (p : Point). not (is_before c.args.place p.place)) c.args.points.now c.partition_point.result c.partition_point.ensures.partitioned
    (upto_parted c.args.points.now c.args.place c.requires) (λ a r f k. search (rules, tests)) in
    λ k d h. not-true _ (parts.0 k d (omega arith) h)

pub returns-clause-behind : goal.returns-clause-behind
returns-clause-behind c =
    let parts = IsPartitionPoint-from_clause (λ (p : Point). not (is_before c.args.place p.place)) c.args.points.now c.partition_point.result c.partition_point.ensures.partitioned
    (upto_parted c.args.points.now c.args.place c.requires) (λ a r f k. search (rules, tests)) in
    λ k d h i. not-false _ (parts.1 k d h i)
