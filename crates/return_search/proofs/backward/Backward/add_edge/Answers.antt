-- An edge is listed, unless it leads right behind its point.
use Rattle.std.proofs.Common.{◌≡◌, ◌<◌, ◌+◌, ◌++◌, ◌∷◌, [], List, Some, length, sym, ap, subst, ◌∙◌, arith}
use Rattle.std.proofs.lemmas.List.{get_or_read}
use Rattle.machine_defs.specs.declared.flow.Edge.{Edge}
use Rattle.machine_defs.specs.declared.flow.EdgeKind.TheVariants.{Next}
use Rattle.machine_defs.specs.Program.{edge}
use Rattle.return_search.specs.declared.backward.Lead.{Lead}
use Rattle.return_search.specs.declared.backward.Lead.TheVariants as lead
use Rattle.return_search.specs.Shape.{points_of}
use Rattle.return_search.specs.Backward.{AreLeads, edge_at}
use Rattle.return_search.proofs.Leading.{chains_more, leads_behind, leads_edge, open_still}
use Rattle.return_search.proofs.Ranges.{ends_within}
use Rattle.return_search.proofs.backward.Backward.add_edge.Goals as goal

pub index-requires : goal.index-requires
index-requires c = omega (arith, ends_within c.args.flow.now c.requires.shape c.args.q c.requires.edge.point, c.requires.edge.to)

pub overflow_add-behind : goal.overflow_add-behind
overflow_add-behind c = omega (arith, c.requires.edge.point, c.requires.shape.few)

pub returns-then-to-behind : goal.returns-then-to-behind
returns-then-to-behind c =
    let flow = c.args.flow.now in
    let q = c.args.q in
    let i = c.args.number in
    let e : Edge = (c.index.result).now in
    let inside : i < length flow.edges.items = omega (arith, ends_within flow c.requires.shape q c.requires.edge.point, c.requires.edge.to) in
    let read : e ≡ edge_at flow i = get_or_read flow.edges.items i e inside c.index.ensures (edge 0 Next) in
    let behind : (edge_at flow i).to ≡ q + 1 = ap (λ (f : Edge). f.to) (sym read) ∙ c.if-to-behind.true in
    record {
      leads = leads_behind flow c.args.self.now.leads.items (q + 1) i c.requires.so_far.leads c.requires.shape q c.requires.edge behind;
      chains = c.requires.so_far.chains;
      heads = c.requires.so_far.heads;
      steps = c.requires.so_far.steps;
    }

pub add-requires : goal.add-requires
add-requires c =
    let flow = c.args.flow.now in
    let i = c.args.number in
    let e : Edge = (c.index.result).now in
    let inside : i < length flow.edges.items = omega (arith, ends_within flow c.requires.shape c.args.q c.requires.edge.point, c.requires.edge.to) in
    let read : e ≡ edge_at flow i = get_or_read flow.edges.items i e inside c.index.ensures (edge 0 Next) in
    let leads : e.to < points_of flow = subst (λ (f : Edge). f.to < points_of flow) (sym read) (c.requires.shape.targets i (edge 0 Next) inside) in
    record { to = omega (arith, leads, c.requires.so_far.heads) }

pub returns : goal.returns
returns c =
    let flow = c.args.flow.now in
    let q = c.args.q in
    let i = c.args.number in
    let e : Edge = (c.index.result).now in
    let before = c.args.self.now in
    let after = c.add.new.self in
    let inside : i < length flow.edges.items = omega (arith, ends_within flow c.requires.shape q c.requires.edge.point, c.requires.edge.to) in
    let read : e ≡ edge_at flow i = get_or_read flow.edges.items i e inside c.index.ensures (edge 0 Next) in
    let pushed : after.leads.items ≡ before.leads.items ++ lead.Edge q i ∷ [] = c.in_ok-add.ensures.leads in
    record {
      leads = subst (λ (ls : List Lead). AreLeads flow ls (q + 1) (i + 1)) (sym pushed) (leads_edge flow before.leads.items (q + 1) i c.requires.so_far.leads c.requires.shape q c.requires.edge);
      chains = chains_more flow before after (lead.Edge q i) e.to (ap (λ (f : Edge). Some f.to) (sym read)) pushed c.in_ok-add.ensures.chains c.requires.so_far.chains;
      heads = c.add.ensures.heads ∙ c.requires.so_far.heads;
      steps = open_still flow before.chains.heads.items after.chains.heads.items (q + 1) c.add.ensures.opens c.requires.so_far.steps;
    }
