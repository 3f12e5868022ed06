use Rattle.std.proofs.Common.{◌≡◌, Some, map, take}
use Rattle.alternatives.specs.Points.{insn_of_point}
use Rattle.alternatives.proofs.points.insns_of.Given as goal

abbrev pub invariant-loop-point : goal.invariant-loop-point
invariant-loop-point l = map (λ insn. Some insn) l.insns ≡ map (insn_of_point l.texts l.entries) (take l.point-index l.points)
