use Rattle.std.proofs.Common.{not, arith, rules, tests}
use Rattle.std.proofs.lemmas.List.Sorted.{IsPartitionPoint-from_clause}
use Rattle.ot_base.specs.Places.{is_before}
use Rattle.symbols_relocs.specs.declared.function.Function.{Function}
use Rattle.symbols_relocs.specs.Lists.{no_function}
use Rattle.symbols_relocs.proofs.PlaceOrder.{rising_parts, not_true, not_false}
use Rattle.symbols_relocs.proofs.order.count_to.Goals as goal

pub returns-clause-to : goal.returns-clause-to
returns-clause-to c =
    let point = IsPartitionPoint-from_clause (λ (f : Function). not (is_before c.args.place f.start)) c.args.functions.now c.partition_point.result c.partition_point.ensures.partitioned
    (rising_parts c.args.functions.now c.args.place c.requires) (λ a r f k. search (rules, tests)) in
    λ k h. not_true _ (point.0 k no_function (omega arith) h)

pub returns-clause-behind : goal.returns-clause-behind
returns-clause-behind c =
    let point = IsPartitionPoint-from_clause (λ (f : Function). not (is_before c.args.place f.start)) c.args.functions.now c.partition_point.result c.partition_point.ensures.partitioned
    (rising_parts c.args.functions.now c.args.place c.requires) (λ a r f k. search (rules, tests)) in
    λ k h i. not_false _ (point.1 k no_function h i)
