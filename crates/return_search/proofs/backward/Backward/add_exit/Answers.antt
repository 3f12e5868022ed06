-- The point is listed where it calls an entry.
use Rattle.std.proofs.Common.{◌≡◌, ◌≢◌, ◌<◌, ◌+◌, ◌⊎◌, inl, inr, ◌++◌, ◌∷◌, [], ℕ, List, sym, ap, subst, ◌∙◌, arith}
use Rattle.std.proofs.lemmas.List.{get_or_read}
use Rattle.return_search.specs.declared.searched_flow.Exit.{Exit}
use Rattle.return_search.specs.declared.searched_flow.Exit.TheVariants.{Calls, CallsNever, CallsOut, Leaves, Passes}
use Rattle.return_search.specs.declared.searched_flow.Flow.{Flow}
use Rattle.return_search.specs.declared.backward.Backward.{Backward}
use Rattle.return_search.specs.declared.backward.Lead.{Lead}
use Rattle.return_search.specs.declared.backward.Lead.TheVariants.{Call}
use Rattle.return_search.specs.Chained.{IsOpen}
use Rattle.return_search.specs.Told.{exit_at, start_of}
use Rattle.return_search.specs.Shape.{points_of}
use Rattle.return_search.specs.Backward.{AreLeads, IsBackwardTo, StepsOn, called}
use Rattle.return_search.proofs.Leading.{chains_more, leads_call, leads_no_call, leaving_no, open_next, open_still}
use Rattle.return_search.proofs.backward.Backward.add_exit.Goals as goal

-- one that doesn't call is not listed
no_call : (flow : Flow) (backward : Backward) (q : ℕ) → IsBackwardTo flow backward q (start_of flow q) → (IsOpen backward.chains.heads.items (q + 1) → StepsOn flow q) → ((entry : ℕ) → exit_at flow q ≢ Calls entry) → IsBackwardTo flow backward (q + 1) (start_of flow q)
no_call flow backward q was steps none = record {
  leads = leads_no_call flow backward.leads.items q (start_of flow q) was.leads none;
  chains = was.chains;
  heads = was.heads;
  steps = open_next flow backward.chains.heads.items q was.steps steps;
}

pub add-requires : goal.add-requires
add-requires c =
    let flow = c.args.flow.now in
    let q = c.args.q in
    let is : exit_at flow q ≡ Calls c.in-Calls.entry = sym (c.exit.ensures ∙ get_or_read flow.exits.items q (c.index.result).now c.requires.point c.index.ensures Passes) ∙ c.in-Calls.is in
    let inside : c.in-Calls.entry < points_of flow = c.requires.shape.calls q c.in-Calls.entry is in
    record { to = omega (arith, inside, c.requires.so_far.heads) }

pub returns-in_ok-add-in-Calls-clause-one_more : goal.returns-in_ok-add-in-Calls-clause-one_more
returns-in_ok-add-in-Calls-clause-one_more c =
    let flow = c.args.flow.now in
    let q = c.args.q in
    let before = c.args.self.now in
    let after = c.add.new.self in
    let was = c.requires.so_far in
    let is : exit_at flow q ≡ Calls c.in-Calls.entry = sym (c.exit.ensures ∙ get_or_read flow.exits.items q (c.index.result).now c.requires.point c.index.ensures Passes) ∙ c.in-Calls.is in
    let pushed : after.leads.items ≡ before.leads.items ++ Call q ∷ [] = c.in_ok-add-in-Calls.ensures.leads in
    record {
      leads = subst (λ (ls : List Lead). AreLeads flow ls (q + 1) (start_of flow q)) (sym pushed) (leads_call flow before.leads.items q (start_of flow q) was.leads c.requires.point);
      chains = chains_more flow before after (Call q) c.in-Calls.entry (ap called is) pushed c.in_ok-add-in-Calls.ensures.chains was.chains;
      heads = c.add.ensures.heads ∙ was.heads;
      steps = open_next flow after.chains.heads.items q (open_still flow before.chains.heads.items after.chains.heads.items q c.add.ensures.opens was.steps) (λ is_open. c.requires.steps (c.add.ensures.opens (q + 1) is_open));
    }

pub returns-in_ok-add-in-Calls-clause-search : goal.returns-in_ok-add-in-Calls-clause-search
returns-in_ok-add-in-Calls-clause-search c =
    let flow = c.args.flow.now in
    let q = c.args.q in
    let is : exit_at flow q ≡ Calls c.in-Calls.entry = sym (c.exit.ensures ∙ get_or_read flow.exits.items q (c.index.result).now c.requires.point c.index.ensures Passes) ∙ c.in-Calls.is in
    leaving_no flow c.args.search.now q (λ e. let z : ⊥ = cc in z) c.requires.search

pub returns-in-Leaves-clause-one_more : goal.returns-in-Leaves-clause-one_more
returns-in-Leaves-clause-one_more c =
    let flow = c.args.flow.now in
    let q = c.args.q in
    let is : exit_at flow q ≡ Leaves = sym (c.exit.ensures ∙ get_or_read flow.exits.items q (c.index.result).now c.requires.point c.index.ensures Passes) ∙ c.in-Leaves.is in
    no_call flow c.args.self.now q c.requires.so_far c.requires.steps (λ entry e. let z : ⊥ = cc in z)

-- what is none of two kinds
neither : (x : Exit) → (x ≡ CallsOut) ⊎ ((x ≡ CallsNever) ⊎ (x ≡ Passes)) → ((entry : ℕ) → x ≢ Calls entry) × (x ≢ Leaves)
neither x (inl is) = (λ entry e. let z : ⊥ = cc in z, λ e. let z : ⊥ = cc in z)
neither x (inr (inl is)) = (λ entry e. let z : ⊥ = cc in z, λ e. let z : ⊥ = cc in z)
neither x (inr (inr is)) = (λ entry e. let z : ⊥ = cc in z, λ e. let z : ⊥ = cc in z)

pub returns-in-CallsOut : goal.returns-in-CallsOut
returns-in-CallsOut c =
    let flow = c.args.flow.now in
    let q = c.args.q in
    let read : c.exit.result ≡ exit_at flow q = c.exit.ensures ∙ get_or_read flow.exits.items q (c.index.result).now c.requires.point c.index.ensures Passes in
    let none = neither c.exit.result c.in-CallsOut.is in
    record {
      one_more = no_call flow c.args.self.now q c.requires.so_far c.requires.steps (λ entry e. none.0 entry (read ∙ e));
      search = leaving_no flow c.args.search.now q (λ e. none.1 (read ∙ e)) c.requires.search;
    }
