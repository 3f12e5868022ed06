use Rattle.std.proofs.Common.{ltb, leb, arith, rules, tests}
use Rattle.std.proofs.lemmas.List.Sorted.{IsPartitionPoint-from_clause, IsPartitionedBy-leb, IsPartitionedBy-ltb}
use Rattle.object_points.specs.declared.meanings.Meaning.{Meaning}
use Rattle.object_points.proofs.Run.{run_of}
use Rattle.object_points.proofs.meanings.find_run.Goals as goal

pub returns : goal.returns
returns c =
    let from = IsPartitionPoint-from_clause (λ (m : Meaning). ltb m.save c.args.save) c.args.meanings.now c.partition_point-from.result c.partition_point-from.ensures.partitioned
    (IsPartitionedBy-ltb (λ (m : Meaning). m.save) c.args.meanings.now c.args.save c.requires.sorted) (λ a r f k. search (rules, tests)) in
    let to = IsPartitionPoint-from_clause (λ (m : Meaning). leb m.save c.args.save) c.args.meanings.now c.partition_point-to.result c.partition_point-to.ensures.partitioned
    (IsPartitionedBy-leb (λ (m : Meaning). m.save) c.args.meanings.now c.args.save c.requires.sorted) (λ a r f k. search (rules, tests)) in
    run_of c.args.meanings.now c.args.save c.partition_point-from.result c.partition_point-to.result c.partition_point-from.ensures.bound c.partition_point-to.ensures.bound
    (λ k d h. from.0 k d (omega arith) h) (λ k d h i. from.1 k d h i) (λ k d h. to.0 k d (omega arith) h) (λ k d h i. to.1 k d h i)
