use Rattle.std.proofs.Common.{take}
use Rattle.orc_walk.specs.Bases.{HasBases}
use Rattle.orc_merge.proofs.addresses.bases_of.Given as goal

abbrev pub invariant-loop-range : goal.invariant-loop-range
invariant-loop-range l = HasBases (take l.range-index l.ranges) l.bases
