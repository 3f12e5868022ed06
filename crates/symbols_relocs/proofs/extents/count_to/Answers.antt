use Rattle.std.proofs.Common.{not, arith, rules, tests}
use Rattle.std.proofs.lemmas.List.Sorted.{IsPartitionPoint-from_clause}
use Rattle.ot_base.specs.Places.{is_before}
use Rattle.symbols_relocs.specs.declared.extents.Extent.{Extent}
use Rattle.symbols_relocs.proofs.ExtentOrder.{upto_parted, not_true, not_false}
use Rattle.symbols_relocs.proofs.extents.count_to.Goals as goal

pub returns-clause-upto : goal.returns-clause-upto
returns-clause-upto c =
    let point = IsPartitionPoint-from_clause (λ (e : Extent). not (is_before c.args.place e.start)) c.args.extents.now c.partition_point.result c.partition_point.ensures.partitioned
    (upto_parted c.args.extents.now c.args.place c.requires) (λ a r f k. search (rules, tests)) in
    λ k d h. not_true _ (point.0 k d (omega arith) h)

pub returns-clause-behind : goal.returns-clause-behind
returns-clause-behind c =
    let point = IsPartitionPoint-from_clause (λ (e : Extent). not (is_before c.args.place e.start)) c.args.extents.now c.partition_point.result c.partition_point.ensures.partitioned
    (upto_parted c.args.extents.now c.args.place c.requires) (λ a r f k. search (rules, tests)) in
    λ k d h i. not_false _ (point.1 k d h i)
