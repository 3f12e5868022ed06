use Rattle.std.proofs.Common.{◌≡◌, vec_len}
use Rattle.stack_examples.proofs.builder.unlinked.Given as goal

abbrev pub invariant-loop-line : goal.invariant-loop-line
invariant-loop-line l = vec_len l.points ≡ l.line-index
