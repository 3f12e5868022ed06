-- The stack pointer rises with each frame.
use Rattle.std.proofs.Common.{◌-◌, ◌^◌}
use Rattle.program_model.proofs.walks.walk.Given as goal

abbrev pub decreases-loop-stop : goal.decreases-loop-stop
decreases-loop-stop l = 2 ^ 64 - l.regs.sp
