use Rattle.std.proofs.Common.{leb, rules}
use Rattle.std.proofs.lemmas.Bool.{leb-true, leb-false}
use Rattle.std.proofs.lemmas.List.Sorted.{IsPartitionPoint-from_clause, IsPartitionedBy-leb}
use Rattle.orc_walk.proofs.Near.{bases_ascend}
use Rattle.orc_walk.proofs.find.begun.Goals as goal

pub returns-clause-split : goal.returns-clause-split
returns-clause-split c =
    let blocks = c.args.blocks.now in
    let parted = IsPartitionedBy-leb (λ b. b.range.base) blocks c.args.addr (bases_ascend blocks c.requires) in
    let split = IsPartitionPoint-from_clause (λ b. leb b.range.base c.args.addr) blocks c.partition_point.result c.partition_point.ensures.partitioned parted (λ a r f' k. search rules) in
    (λ k d low lt. leb-true _ _ (split.0 k d low lt), λ k d low lt. leb-false _ _ (split.1 k d low lt))
