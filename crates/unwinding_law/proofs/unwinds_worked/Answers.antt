use Rattle.machine_defs.specs.Machine.{At}
use Rattle.unwinding_law.specs.Worked.{base, after_push}
use Rattle.unwinding_law.specs.Worked as w
use Rattle.unwinding_law.proofs.WorkedProgram as worked
use Rattle.unwinding_law.proofs.WorkedStates as states
use Rattle.unwinding_law.proofs.WorkedRun as run
use Rattle.unwinding_law.proofs.unwinds_worked.Goals as goal

pub returns : goal.returns
returns c = record { program = worked.program; placed = run.placed; accepted = states.accepted; run = run.runs; in_order = c.unwinding_law.ensures w.worked base worked.program run.placed states.accepted (At after_push) run.runs }
