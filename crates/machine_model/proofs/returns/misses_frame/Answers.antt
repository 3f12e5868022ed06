use Rattle.std.proofs.Common.{rules, arith}
use Rattle.std.proofs.lemmas.Grind.{common_steps}
use Rattle.machine_model.specs.Frame.{frame_of}
use Rattle.machine_model.specs.Standing.{core_of}
use Rattle.machine_model.proofs.Misses.{return_missed}
use Rattle.machine_model.proofs.returns.misses_frame.Goals as goal

pub returns-then-core-down : goal.returns-then-core-down
returns-then-core-down c = λ others h. return_missed (core_of c.args.core.now) (frame_of c.args.frame.now) others (first_of (search rules, grind (arith, common_steps)))

pub returns-else-core-down : goal.returns-else-core-down
returns-else-core-down c = λ others h. return_missed (core_of c.args.core.now) (frame_of c.args.frame.now) others (first_of (search rules, grind (arith, common_steps)))
