use Rattle.std.proofs.Common.{arith, rules, tests}
use Rattle.std.proofs.lemmas.List.Sorted.{IsPartitionPoint-from_clause}
use Rattle.ot_base.specs.Places.{is_before}
use Rattle.jump_tables.specs.declared.jump.Jump.{Jump}
use Rattle.jump_tables.proofs.JumpOrder.{parted}
use Rattle.jump_tables.proofs.jump.count_before.Goals as goal

pub returns-clause-below : goal.returns-clause-below
returns-clause-below c =
    let point = IsPartitionPoint-from_clause (λ (j : Jump). is_before j.place c.args.place) c.args.jumps.now c.partition_point.result c.partition_point.ensures.partitioned
    (parted c.args.jumps.now c.args.place c.requires) (λ a r f k. search (rules, tests)) in
    λ k d h. point.0 k d (omega arith) h

pub returns-clause-from : goal.returns-clause-from
returns-clause-from c =
    let point = IsPartitionPoint-from_clause (λ (j : Jump). is_before j.place c.args.place) c.args.jumps.now c.partition_point.result c.partition_point.ensures.partitioned
    (parted c.args.jumps.now c.args.place c.requires) (λ a r f k. search (rules, tests)) in
    λ k d h i. point.1 k d h i
