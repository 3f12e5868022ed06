-- The point is found where the edge carries a return to it.
use Rattle.std.proofs.Common.{◌≡◌, ◌<◌, List, Bool, length, sym, ap, ◌∙◌, arith}
use Rattle.std.proofs.lemmas.List.{get_or_read}
use Rattle.machine_defs.specs.declared.flow.Edge.{Edge}
use Rattle.machine_defs.specs.declared.flow.EdgeKind.TheVariants.{Next}
use Rattle.machine_defs.specs.Program.{edge}
use Rattle.return_search.specs.Backward.{edge_at}
use Rattle.return_search.specs.Search.{carries}
use Rattle.return_search.proofs.Ranges.{ends_within}
use Rattle.return_search.proofs.Walks.{Finds, finds_carried}
use Rattle.return_search.proofs.spreading.find_by_edge.Goals as goal

pub index-requires : goal.index-requires
index-requires c = omega (arith, ends_within c.args.flow.now c.requires.shape c.args.q c.requires.edge.point, c.requires.edge.to)

pub returns-then-carries-clause-more : goal.returns-then-carries-clause-more
returns-then-carries-clause-more c =
    let flow = c.args.flow.now in
    let s = c.args.search.now in
    let t = c.find.new.self in
    let q = c.args.q in
    let i = c.args.number in
    let inside : i < length flow.edges.items = omega (arith, ends_within flow c.requires.shape q c.requires.edge.point, c.requires.edge.to) in
    let read : (c.index.result).now ≡ edge_at flow i = get_or_read flow.edges.items i (c.index.result).now inside c.index.ensures (edge 0 Next) in
    let told : c.carries.result ≡ carries flow s.known.items q (edge_at flow i).kind =
    c.carries.ensures ∙ (ap (λ (known : List Bool). carries flow known q (c.index.result).now.kind) c.deref.ensures.value ∙ ap (λ (e : Edge). carries flow s.known.items q e.kind) read) in
    let finds : Finds flow s t q = record { listed = c.find.ensures.listed; extends = c.find.ensures.extends; found = c.find.ensures.found; known = c.find.ensures.known } in
    finds_carried flow c.requires.shape s t c.requires.sound q finds i (c.requires.edge, c.requires.found, sym told ∙ c.if-carries.true)
