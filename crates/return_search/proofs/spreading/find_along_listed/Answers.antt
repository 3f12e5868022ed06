-- What leads to the point, one by one.
use Rattle.std.proofs.Common.{◌≡◌, ◌<◌, ℕ, Option, Some, map, length, subst, ◌∙◌}
use Rattle.std.proofs.lemmas.List.{get_or_read}
use Rattle.return_search.specs.declared.backward.Lead.TheVariants.{Call, Edge}
use Rattle.return_search.specs.Chained.{IsLastBelow}
use Rattle.return_search.specs.Backward.{key_of}
use Rattle.return_search.proofs.Walks.{AlongFound, all_passed, along_first, along_next, in_leads, lead_at, lead_of}
use Rattle.return_search.proofs.spreading.find_along_listed.Goals as goal

pub leads-init : goal.leads-init
leads-init c =
    let flow = c.args.flow.now in
    let leads = c.args.backward.now.leads.items in
    along_first flow leads c.args.x c.args.search.now c.last-next.result c.requires.listed c.requires.sound (c.last-next.ensures (map (key_of flow) leads) c.requires.backward.chains)

pub leads-preserved : goal.leads-preserved
leads-preserved c =
    let flow = c.args.flow.now in
    let leads = c.args.backward.now.leads.items in
    let x = c.args.x in
    let before = c.args.search.now in
    let s = c.leads.search in
    let t = c.find_edge.new.search in
    let k = c.in-Some.k in
    let so_far : AlongFound flow leads before s x (Some k) = subst (λ (o : Option ℕ). AlongFound flow leads before s x o) c.in-Some.is c.leads.invariant in
    let inside : k < length leads = in_leads flow leads x k so_far.stands.0 in
    let read : (c.index.result).now ≡ lead_at leads k = get_or_read leads k (c.index.result).now inside c.index.ensures (Call 0) in
    let last : IsLastBelow (map (key_of flow) leads) x k c.before-next.result = c.before-next.ensures (map (key_of flow) leads) x c.requires.backward.chains so_far.stands.1 in
    along_next flow leads x before s t k c.before-next.result last c.find_edge.ensures.more so_far (λ q i at h. c.find_edge.ensures.found q i (read ∙ at) h)

pub returns-clause-along : goal.returns-clause-along
returns-clause-along c q i listed to h =
    let at = lead_of c.args.backward.now.leads.items (Edge q i) listed in
    c.leads.invariant.along at.0 q i at.1 at.2 to (all_passed c.leads.next c.in_default.not-Some at.0) h
