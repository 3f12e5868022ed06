use Rattle.std.proofs.Common.{leb, rules}
use Rattle.std.proofs.lemmas.Bool.{leb-true, leb-false}
use Rattle.std.proofs.lemmas.List.Sorted.{IsPartitionPoint-from_clause, IsPartitionedBy-leb}
use Rattle.orc_walk.proofs.Pieces.{bases_ascend}
use Rattle.orc_walk.proofs.memory.begun.Goals as goal

pub returns-clause-split : goal.returns-clause-split
returns-clause-split c =
    let ranges = c.args.ranges.now in
    let parted = IsPartitionedBy-leb (λ r. r.0) ranges c.args.addr (bases_ascend ranges c.requires) in
    let split = IsPartitionPoint-from_clause (λ r. leb r.0 c.args.addr) ranges c.partition_point.result c.partition_point.ensures.partitioned parted (λ a r f' k. search rules) in
    (λ k d low lt. leb-true _ _ (split.0 k d low lt), λ k d low lt. leb-false _ _ (split.1 k d low lt))
