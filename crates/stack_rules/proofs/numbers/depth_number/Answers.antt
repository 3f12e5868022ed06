-- A depth that is known from below is above 0.
use Rattle.std.proofs.Common.{◌≡◌, pos, ◌≤ℤ◌, arith}
use Rattle.std.proofs.lemmas.Int.{ints}
use Rattle.state_defs.specs.declared.state.Depth.TheVariants.{AtLeast}
use Rattle.stack_rules.proofs.Consistency.{at_least_above}
use Rattle.stack_rules.proofs.numbers.depth_number.Goals as goal

pub returns-then-n-lt0 : goal.returns-then-n-lt0
returns-then-n-lt0 c consistent =
    let live = c.in-Live-AtLeast-default-default in
    let depth : live.depth ≡ AtLeast live.n = rw live.is at live.depth-is in
    let h : pos 8 ≤ℤ live.n = at_least_above c.args.state live.depth live.fp live.bp live.n live.is depth consistent in
    absurd (omega (arith, ints, h))
