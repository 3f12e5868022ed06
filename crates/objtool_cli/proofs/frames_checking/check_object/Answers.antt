use Rattle.objtool_cli.specs.Cfi.{out_of_memory}
use Rattle.objtool_cli.proofs.frames_checking.check_object.Goals as goal

pub returns-in-Err-check_code-clause-stopped : goal.returns-in-Err-check_code-clause-stopped
returns-in-Err-check_code-clause-stopped c = out_of_memory
