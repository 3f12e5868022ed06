use Rattle.std.proofs.Common.{false, [], ◌∷◌, refl}
use Rattle.machine_defs.specs.Machine.{At}
use Rattle.unwinding_law.specs.Worked.{base}
use Rattle.option_law.specs.Worked.{worked, allowed, options, at_call, in_g, at_clac}
use Rattle.option_law.proofs.Access.{forgotten}
use Rattle.option_law.proofs.WorkedProgram as program
use Rattle.option_law.proofs.WorkedClean as clean
use Rattle.option_law.proofs.WorkedRun as run
use Rattle.option_law.proofs.laws.promises_worked.Goals as goal

pub returns : goal.returns
returns c = record {
  program = program.program;
  functions = program.functions;
  placed = program.placed;
  clean = clean.clean;
  framed_call = c.calls_have_frames.ensures worked allowed options base program.program program.placed refl clean.clean (At at_call) (forgotten worked allowed base (At at_call) _ run.turns_on);
  listed_return = c.branches_are_safe.ensures worked allowed options base program.program program.placed clean.clean (At in_g) (forgotten worked allowed base (At in_g) _ run.calls);
  run = run.comes_back;
  in_order = c.access_is_kept.ensures worked allowed options base program.program program.functions program.placed refl clean.clean (At at_clac) (false ∷ []) run.comes_back;
}
