-- One more point is told of.
use Rattle.kept_states.proofs.PassageLemmas.{linked_more, told_more}
use Rattle.kept_states.proofs.passages.tell_linked.Goals as goal

pub returns-clause-told : goal.returns-clause-told
returns-clause-told c p told own = told_more p c.args.passages.now.items c.args.n c.args.passage c.requires.inside own told

pub returns-clause-linked : goal.returns-clause-linked
returns-clause-linked c linked = linked_more c.args.passages.now.items c.args.n c.args.passage c.requires.inside c.requires.own c.requires.before linked
