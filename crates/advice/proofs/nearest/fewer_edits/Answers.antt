use Rattle.std.proofs.Common.{arith, Some}
use Rattle.advice.specs.Nearest.{IsClosest}
use Rattle.advice.proofs.Closest.{changes}
use Rattle.advice.proofs.nearest.fewer_edits.Goals as goal

pub returns-else-best-next : goal.returns-else-best-next
returns-else-best-next c = λ word known is counted.
    let closest : IsClosest word known (Some c.in-Some.best) = rw c.in-Some.is at is in
    changes word known c.in-Some.best c.args.next closest counted (omega (arith, c.if-best-next.false))
