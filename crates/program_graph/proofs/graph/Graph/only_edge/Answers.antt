use Rattle.std.proofs.Common.{◌≡◌, ◌<◌, ℕ, List, [], ◌∷◌, Contains, length, get_or, refl, sym, ap, ◌∙◌, subst, arith}
use Rattle.std.proofs.lemmas.Bool.{false≢true}
use Rattle.machine_defs.specs.declared.flow.Edge.{Edge}
use Rattle.machine_defs.specs.declared.flow.EdgeKind.TheVariants.{Next, Table}
use Rattle.machine_defs.specs.Program.{edge}
use Rattle.program_graph.specs.Shape.{IsAlike, first_target}
use Rattle.program_graph.proofs.graph.Graph.only_edge.Goals as goal

-- a list of one has its first alone
one : (es : List Edge) (d : Edge) → length es ≡ 1 → es ≡ get_or es 0 d ∷ []
one [] d count = absurd (omega (arith, count))
one (e ∷ []) d count = refl
one (e ∷ f ∷ es) d count = absurd (omega (arith, count))

pub returns-clause-edges : goal.returns-clause-edges
returns-clause-edges c = λ p tells.
    let parts = c.args.self.now.parts in
    let n : ℕ = c.args.n in
    let es : List Edge = c.listed-edges.result.now in
    let own : Contains parts.alike.items n → ⊥ = λ listed.
    let alike : IsAlike parts n (first_target parts n) = c.args.self.now.shape.alike n c.requires listed in
    let kind : (get_or es 0 (edge 0 Next)).kind ≡ Table = ap (λ (xs : List Edge). (get_or xs 0 (edge 0 Next)).kind) (c.listed-edges.ensures.edges ∙ alike.edge) in
    false≢true (sym c.if-is_of_table.false ∙ c.is_of_table.ensures kind) in
    tells.edges n (subst (λ (count : ℕ). n < count) (sym tells.count) c.requires) own
    ∙ sym c.listed-edges.ensures.edges
    ∙ one es (edge 0 Next) c.if-edges-ne1.false
