use Rattle.std.proofs.Common.{◌/◌, ltb, rules}
use Rattle.std.proofs.lemmas.List.Sorted.{IsPartitionPoint-from_clause, IsPartitionedBy-ltb}
use Rattle.orc_walk.proofs.Counts.{below_at, blocks_ascend}
use Rattle.orc_walk.proofs.blocks.Blocks.items_before.Goals as goal

pub returns : goal.returns
returns c =
    let items = c.args.items.now in
    let parted = IsPartitionedBy-ltb (λ item. item.0 / 256) items c.args.block (blocks_ascend items c.requires.ascending) in
    let split = IsPartitionPoint-from_clause (λ item. ltb (item.0 / 256) c.args.block) items c.partition_point.result c.partition_point.ensures.partitioned parted (λ a r f' k. search rules) in
    below_at items c.args.block c.partition_point.result c.requires.ascending c.partition_point.ensures.bound split
