use Rattle.std.proofs.Common.{map, take}
use Rattle.advice.specs.Nearest.{IsClosest}
use Rattle.advice.proofs.nearest.closest.Given as goal

abbrev pub invariant-loop-other : goal.invariant-loop-other
invariant-loop-other l = IsClosest l.word (take l.other-index (map (λ other. other.now) l.known)) l.best
