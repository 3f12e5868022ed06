-- What a point has of hints is told by the parts, by its place in their list.
use Rattle.program_graph.proofs.graph.Graph.hinted.Goals as goal

pub returns-in-Some-clause-told : goal.returns-in-Some-clause-told
returns-in-Some-clause-told c p t = (c.rare.ensures.told p t).hinted _ _ c.in-Some.is c.hinted_at.ensures
