-- What the point has of hints tells the RESTOREs that mean it.
use Rattle.std.proofs.Common.{◌↔◌, Contains, List, ℕ, subst, sym}
use Rattle.program_graph.specs.Tells.{Means}
use Rattle.program_graph.proofs.graph.Graph.restores.Goals as goal

-- src/graph.rt:346:5
pub returns-in-Some-clause-restores : goal.returns-in-Some-clause-restores
returns-in-Some-clause-restores c =
    λ p tells r. subst (λ (xs : List ℕ). Contains xs r ↔ Means p c.args.n r) (sym c.restores_of.ensures.restores) ((c.in-Some.ensures.told p tells).restores r)
