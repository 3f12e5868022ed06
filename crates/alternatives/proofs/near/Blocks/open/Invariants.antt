use Rattle.std.proofs.Common.{◌+◌, ◌-◌, length}
use Rattle.alternatives.proofs.near.Blocks.open.Given as goal

abbrev pub decreases-loop-self : goal.decreases-loop-self
decreases-loop-self l = l.sec + 1 - length l.self.before.items

abbrev pub decreases-loop-self-2 : goal.decreases-loop-self-2
decreases-loop-self-2 l = l.block + 1 - length l.self.blocks.items
