use Rattle.std.proofs.Common.{arith, rules, tests, not}
use Rattle.std.proofs.lemmas.Bool.{not-true, not-false}
use Rattle.std.proofs.lemmas.List.Sorted.{IsPartitionPoint-from_clause}
use Rattle.ot_base.specs.Places.{is_before}
use Rattle.program_graph.specs.declared.parts.GraphSite.{GraphSite}
use Rattle.stack_rules.proofs.Finding.{parted}
use Rattle.stack_rules.proofs.site_index.count_to.Goals as goal

pub returns-clause-from : goal.returns-clause-from
returns-clause-from c =
    let point = IsPartitionPoint-from_clause (λ (s : GraphSite). not (is_before c.args.place s.start)) c.args.sites.now c.partition_point.result c.partition_point.ensures.partitioned
    (parted c.args.sites.now c.args.place c.requires) (λ a r f k. search (rules, tests)) in
    λ k d h. not-true _ (point.0 k d (omega arith) h)

pub returns-clause-behind : goal.returns-clause-behind
returns-clause-behind c =
    let point = IsPartitionPoint-from_clause (λ (s : GraphSite). not (is_before c.args.place s.start)) c.args.sites.now c.partition_point.result c.partition_point.ensures.partitioned
    (parted c.args.sites.now c.args.place c.requires) (λ a r f k. search (rules, tests)) in
    λ k d h i. not-false _ (point.1 k d h i)
