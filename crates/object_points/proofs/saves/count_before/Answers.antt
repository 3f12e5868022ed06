use Rattle.std.proofs.Common.{get_or, arith, rules, tests}
use Rattle.std.specs.Ordering.{is_lt}
use Rattle.std.proofs.lemmas.List.Sorted.{IsPartitionPoint-from_clause}
use Rattle.object_points.specs.declared.saves.SavePoint.{SavePoint}
use Rattle.object_points.specs.SaveOrder.{home_cmp}
use Rattle.object_points.proofs.HintOrder.{before_in_front}
use Rattle.object_points.proofs.saves.count_before.Goals as goal

pub returns-clause-before : goal.returns-clause-before
returns-clause-before c =
    let point = IsPartitionPoint-from_clause (λ (s : SavePoint). is_lt (home_cmp s.owner s.address c.args.owner c.args.address)) c.args.saves.now c.partition_point.result c.partition_point.ensures.partitioned
    (λ i j d order inside. before_in_front c.args.owner c.args.address (get_or c.args.saves.now i d) (get_or c.args.saves.now j d) (c.requires i j d order inside)) (λ a r f k. search (rules, tests)) in
    λ k d h. point.0 k d (omega arith) h

pub returns-clause-behind : goal.returns-clause-behind
returns-clause-behind c =
    let point = IsPartitionPoint-from_clause (λ (s : SavePoint). is_lt (home_cmp s.owner s.address c.args.owner c.args.address)) c.args.saves.now c.partition_point.result c.partition_point.ensures.partitioned
    (λ i j d order inside. before_in_front c.args.owner c.args.address (get_or c.args.saves.now i d) (get_or c.args.saves.now j d) (c.requires i j d order inside)) (λ a r f k. search (rules, tests)) in
    λ k d h i. point.1 k d h i
