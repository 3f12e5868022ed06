use Rattle.std.proofs.Common.{rules}
use Rattle.advice.proofs.Closest.{goes_on}
use Rattle.advice.proofs.nearest.closest.Goals as goal

pub loop-other-preserved : goal.loop-other-preserved
loop-other-preserved c =
    goes_on c.args.word.now c.args.known.now c.loop-other.other-index _ c.fewer_edits.result c.loop-other-test.true
    (c.fewer_edits.ensures c.args.word.now _ c.loop-other.invariant (search rules))
