use Rattle.std.proofs.Common.{arith, rules, tests}
use Rattle.std.proofs.lemmas.List.Sorted.{IsPartitionPoint-from_clause}
use Rattle.ot_base.specs.declared.place.Place.{Place}
use Rattle.ot_base.specs.Places.{is_before}
use Rattle.jump_tables.proofs.Order.{parted}
use Rattle.jump_tables.proofs.places.count_below.Goals as goal

pub returns-clause-below : goal.returns-clause-below
returns-clause-below c =
    let point = IsPartitionPoint-from_clause (λ (p : Place). is_before p c.args.place) c.args.places.now c.partition_point.result c.partition_point.ensures.partitioned
    (parted c.args.places.now c.args.place c.requires) (λ a r f k. search (rules, tests)) in
    λ k d h. point.0 k d (omega arith) h

pub returns-clause-from : goal.returns-clause-from
returns-clause-from c =
    let point = IsPartitionPoint-from_clause (λ (p : Place). is_before p c.args.place) c.args.places.now c.partition_point.result c.partition_point.ensures.partitioned
    (parted c.args.places.now c.args.place c.requires) (λ a r f k. search (rules, tests)) in
    λ k d h i. point.1 k d h i
