use Rattle.command_base.specs.Unwind.{stopped, walked}
use Rattle.command_base.proofs.unwinding.unwind_bytes.Goals as goal

pub returns-in-Ok-clause-ends : goal.returns-in-Ok-clause-ends
returns-in-Ok-clause-ends g c =
    let is = c.in-Ok.ensures.walks in
    walked is.image is.object is.rows _ _ is.placed is.walks c.print_walk.ensures.printed

pub returns-in-Err-clause-ends : goal.returns-in-Err-clause-ends
returns-in-Err-clause-ends g c = stopped c.in-Err.stop c.in-Err.ensures.none c.conclude.ensures.concluded
