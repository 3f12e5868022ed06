use Rattle.std.proofs.Common.{refl}
use Rattle.machine_defs.specs.Machine.{At}
use Rattle.unwinding_law.specs.Worked.{worked, state_of, base, after_push}
use Rattle.unwinding_law.proofs.WorkedProgram.{program}
use Rattle.unwinding_law.proofs.WorkedStates.{accepted}
use Rattle.unwinding_law.proofs.WorkedRun.{runs}
use Rattle.table_law.specs.WorkedWalks.{ranges}
use Rattle.table_law.proofs.WorkedProgram.{placed}
use Rattle.table_law.proofs.WorkedLaid.{laid_out, enters, states}
use Rattle.table_law.proofs.rows.tells_worked.Goals as goal

pub returns : goal.returns
returns c = record {
  program = program;
  laid_out = laid_out;
  enters = enters;
  placed_by = placed;
  accepted = accepted;
  states = states;
  rows = refl;
  unwinds = c.rows_unwind.ensures worked base ranges state_of program laid_out enters placed accepted states (At after_push) runs;
}
