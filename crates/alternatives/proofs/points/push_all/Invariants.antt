use Rattle.std.proofs.Common.{◌≡◌, ◌++◌, take}
use Rattle.alternatives.proofs.points.push_all.Given as goal

abbrev pub invariant-loop-n : goal.invariant-loop-n
invariant-loop-n l = l.insns ≡ l.initial.insns ++ take l.n l.more
