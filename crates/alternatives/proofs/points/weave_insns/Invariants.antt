use Rattle.std.proofs.Common.{◌+◌}
use Rattle.alternatives.proofs.Merging.{IsMerged}
use Rattle.alternatives.proofs.points.weave_insns.Given as goal

abbrev pub invariant-loop-others : goal.invariant-loop-others
invariant-loop-others l = IsMerged l.fn.insns l.points l.replaced l.insns l.plain l.others

abbrev pub decreases-loop-others : goal.decreases-loop-others
decreases-loop-others l = l.plain + l.others
