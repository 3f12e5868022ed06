-- What leads to the point, one by one.
use Rattle.std.proofs.Common.{◌≡◌, ◌<◌, ℕ, Option, Some, map, length, subst, ◌∙◌}
use Rattle.std.proofs.lemmas.List.{get_or_read}
use Rattle.return_search.specs.declared.backward.Lead.TheVariants.{Call}
use Rattle.return_search.specs.Chained.{IsLastBelow}
use Rattle.return_search.specs.Backward.{key_of}
use Rattle.return_search.proofs.Walks.{CallsFound, all_passed, calls_first, calls_next, in_leads, lead_at, lead_of}
use Rattle.return_search.proofs.spreading.find_calls.Goals as goal

pub leads-init : goal.leads-init
leads-init c =
    let flow = c.args.flow.now in
    let leads = c.args.backward.now.leads.items in
    calls_first flow leads c.args.entry c.args.search.now c.last-next.result c.requires.listed c.requires.sound (c.last-next.ensures (map (key_of flow) leads) c.requires.backward.chains)

pub leads-preserved : goal.leads-preserved
leads-preserved c =
    let flow = c.args.flow.now in
    let leads = c.args.backward.now.leads.items in
    let x = c.args.entry in
    let before = c.args.search.now in
    let s = c.leads.search in
    let t = c.find_call.new.search in
    let k = c.in-Some.k in
    let so_far : CallsFound flow leads before s x (Some k) = subst (λ (o : Option ℕ). CallsFound flow leads before s x o) c.in-Some.is c.leads.invariant in
    let inside : k < length leads = in_leads flow leads x k so_far.stands.0 in
    let read : (c.index.result).now ≡ lead_at leads k = get_or_read leads k (c.index.result).now inside c.index.ensures (Call 0) in
    let last : IsLastBelow (map (key_of flow) leads) x k c.before-next.result = c.before-next.ensures (map (key_of flow) leads) x c.requires.backward.chains so_far.stands.1 in
    calls_next flow leads x before s t k c.before-next.result last c.find_call.ensures.more so_far (λ q i at h. c.find_call.ensures.found q i (read ∙ at) h)

pub returns-clause-calls : goal.returns-clause-calls
returns-clause-calls c q i is of found h =
    let at = lead_of c.args.backward.now.leads.items (Call q) (c.requires.backward.leads.calls q c.args.entry of.point is) in
    c.leads.invariant.calls at.0 q i at.1 at.2 is (all_passed c.leads.next c.in_default.not-Some at.0) (of, found, h)
