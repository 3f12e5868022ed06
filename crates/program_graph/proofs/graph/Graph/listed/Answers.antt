-- All edges lead to points, so those that are listed of a point do.
use Rattle.std.proofs.Common.{◌<◌, length, All}
use Rattle.std.proofs.lemmas.List.Elements.{All-take, All-drop}
use Rattle.machine_defs.specs.declared.flow.Edge.{Edge}
use Rattle.program_graph.proofs.graph.Graph.listed.Goals as goal

pub returns-clause-within : goal.returns-clause-within
returns-clause-within c =
    let P : Edge → Type 0 = λ e. e.to < length c.args.self.now.parts.points.items in
    let all : All P c.deref-2.result.now = rw c.deref-2.ensures.value c.args.self.now.shape.targets in
    All-take P _ _ (All-drop P _ _ all)
