-- What is listed of the point says which other one has its edges.
use Rattle.std.proofs.Common.{◌≡◌, ◌<◌, ℕ, List, [], ◌∷◌, Contains, get_or, ap, ◌∙◌, subst, sym}
use Rattle.machine_defs.specs.declared.flow.Edge.{Edge}
use Rattle.machine_defs.specs.declared.flow.EdgeKind.TheVariants.{Next, Table}
use Rattle.machine_defs.specs.Program.{edge}
use Rattle.program_graph.specs.Shape.{IsAlike, first_target}
use Rattle.program_graph.proofs.graph.Graph.alike.Goals as goal

pub returns-clause-edges : goal.returns-clause-edges
returns-clause-edges c = λ p tells.
    let parts = c.args.self.now.parts in
    let listed : Contains parts.alike.items c.args.n = c.is_alike.ensures.0 c.if-not-is_alike.false in
    let alike : IsAlike parts c.args.n (first_target parts c.args.n) = c.args.self.now.shape.alike c.args.n c.requires listed in
    let edges : c.listed-edges.result.now ≡ edge (first_target parts c.args.n) Table ∷ [] = c.listed-edges.ensures.edges ∙ alike.edge in
    let found : first_target parts c.args.n ≡ (get_or c.listed-edges.result.now 0 (edge 0 Next)).to = ap (λ (es : List Edge). (get_or es 0 (edge 0 Next)).to) (sym edges) in
    tells.alike c.args.n _ (subst (λ (count : ℕ). c.args.n < count) (sym tells.count) c.requires) listed (subst (IsAlike parts c.args.n) found alike)
