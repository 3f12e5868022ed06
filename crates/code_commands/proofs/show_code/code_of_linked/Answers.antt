use Rattle.std.proofs.Common.{refl}
use Rattle.code_commands.specs.Entry.{no_memory}
use Rattle.code_commands.proofs.ShowCode.{shown_code}
use Rattle.code_commands.proofs.show_code.code_of_linked.Goals as goal

pub returns-in-Ok-clause-shown : goal.returns-in-Ok-clause-shown
returns-in-Ok-clause-shown c =
    shown_code c.program_is_one.ensures c.program_is_laid_out.ensures c.program_has_functions.ensures _ _ c.args.lists.now _ refl c.object_is_in_order.ensures c.in_ok-graph.ensures.tells c.in-Ok.ensures.points c.in-Ok.ensures.kept

pub returns-clause-stopped : goal.returns-clause-stopped
returns-clause-stopped c bytes is = no_memory
