-- One more point is told of.
use Rattle.kept_states.proofs.runs.tell_rare.Goals as goal

pub returns-clause-told : goal.returns-clause-told
returns-clause-told c p t told = c.tell_passage.ensures.told p told (c.rare_passage.ensures.passage p t)
