use Rattle.std.proofs.Common.{◌∙◌, ap, refl}
use Rattle.std.specs.Prelude.{Ok}
use Rattle.objtool_cli.specs.Command.{faulty, unfinished}
use Rattle.objtool_cli.proofs.DemoWords.{demo_small}
use Rattle.objtool_cli.proofs.command.dispatch.Goals as goal

pub run_command-requires : goal.run_command-requires
run_command-requires g c = λ n is. demo_small _ n (c.in-Ok.ensures.ok ∙ ap Ok is)

pub returns-in-Err-At-clause-ends : goal.returns-in-Err-At-clause-ends
returns-in-Err-At-clause-ends g c = let fault = rw c.in-Err-At.field-0-is at c.in-Err-At.ensures.fault in faulty c.in-Err-At.word c.in-Err-At.kind fault refl c.conclude.ensures.concluded

pub returns-in-Err-NoMemory-clause-ends : goal.returns-in-Err-NoMemory-clause-ends
returns-in-Err-NoMemory-clause-ends g c = unfinished refl c.conclude-in-Err-NoMemory.ensures.concluded
