use Rattle.ot_base.proofs.ListsLemmas.{last_line, line_at}
use Rattle.ot_base.proofs.lists.split_line.Goals as goal

pub returns-in-Some-clause-line : goal.returns-in-Some-clause-line
returns-in-Some-clause-line c = line_at c.args.text.now c.in-Some.end c.in-Some.ensures

pub returns-in-None-clause-line : goal.returns-in-None-clause-line
returns-in-None-clause-line c = last_line c.args.text.now c.in-None.ensures
