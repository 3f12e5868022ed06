use Rattle.std.proofs.Common.{rules, arith}
use Rattle.std.proofs.lemmas.Grind.{common_steps}
use Rattle.machine_model.specs.Frame.{frame_of}
use Rattle.machine_model.specs.Standing.{core_of}
use Rattle.machine_model.proofs.Misses.{iret_missed}
use Rattle.machine_model.proofs.interrupts.misses_interrupt.Goals as goal

pub returns-then-may_read_another-2 : goal.returns-then-may_read_another-2
returns-then-may_read_another-2 c = λ others h. iret_missed (core_of c.args.core.now) (frame_of c.args.frame.now) others (first_of (search rules, grind (arith, common_steps)))

pub returns-else-may_read_another-2 : goal.returns-else-may_read_another-2
returns-else-may_read_another-2 c = λ others h. iret_missed (core_of c.args.core.now) (frame_of c.args.frame.now) others (first_of (search rules, grind (arith, common_steps)))
