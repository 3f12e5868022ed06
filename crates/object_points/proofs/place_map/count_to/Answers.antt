use Rattle.std.proofs.Common.{not, arith, rules, tests}
use Rattle.std.proofs.lemmas.Bool.{not-true, not-false}
use Rattle.std.proofs.lemmas.List.Sorted.{IsPartitionPoint-from_clause}
use Rattle.ot_base.specs.declared.place.Place.{Place}
use Rattle.ot_base.specs.Places.{is_before}
use Rattle.object_points.proofs.Order.{upto_parted}
use Rattle.object_points.proofs.place_map.count_to.Goals as goal

pub returns-clause-upto : goal.returns-clause-upto
returns-clause-upto c =
    let point = IsPartitionPoint-from_clause (λ (p : Place). not (is_before c.args.place p)) c.args.places.now c.partition_point.result c.partition_point.ensures.partitioned
    (upto_parted c.args.places.now c.args.place c.requires) (λ a r f k. search (rules, tests)) in
    λ k d h. not-true _ (point.0 k d (omega arith) h)

pub returns-clause-behind : goal.returns-clause-behind
returns-clause-behind c =
    let point = IsPartitionPoint-from_clause (λ (p : Place). not (is_before c.args.place p)) c.args.places.now c.partition_point.result c.partition_point.ensures.partitioned
    (upto_parted c.args.places.now c.args.place c.requires) (λ a r f k. search (rules, tests)) in
    λ k d h i. not-false _ (point.1 k d h i)
