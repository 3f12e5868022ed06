use Rattle.objtool_cli.specs.Telling.{lines, printed}
use Rattle.objtool_cli.proofs.telling.tell_warnings.Goals as goal

pub returns-else-asked-clause-told : goal.returns-else-asked-clause-told
returns-else-asked-clause-told g c = printed _ (lines c.if-asked.false) c.print_warnings.ensures.printed
