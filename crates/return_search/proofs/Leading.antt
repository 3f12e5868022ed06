-- What leads to the points of a flow, when one call or one edge more is listed.
use Rattle.std.proofs.Common.{◌≡◌, ◌≢◌, ℕ, ◌+◌, ◌<◌, ◌≤◌, ◌⊎◌, inl, inr, List, [], ◌∷◌, ◌++◌, Option, Some, Contains, map, sym, ap, ◌∙◌, subst, arith}
use Rattle.std.proofs.lemmas.List.{map-append}
use Rattle.std.proofs.lemmas.List.Elements.{All-nil, All-push, Contains-append_left, Contains-push}
use Rattle.return_search.specs.declared.searched_flow.Exit.TheVariants.{Calls, Leaves, Passes}
use Rattle.return_search.specs.declared.searched_flow.Flow.{Flow}
use Rattle.return_search.specs.declared.backward.Backward.{Backward}
use Rattle.return_search.specs.declared.backward.Lead.{Lead}
use Rattle.return_search.specs.declared.backward.Lead.TheVariants.{Call, Edge}
use Rattle.return_search.specs.declared.return_search.Search.{Search}
use Rattle.return_search.specs.Chained.{AreChains, IsOpen, OpensNone}
use Rattle.return_search.specs.Told.{exit_at, start_of}
use Rattle.return_search.specs.Shape.{HasShape, points_of}
use Rattle.return_search.specs.Backward.{AreLeads, IsBackwardTo, IsEdgeOf, IsLead, IsPlain, StepsOn, edge_at, key_of}
use Rattle.return_search.specs.Search.{IsSearchTo}
use Rattle.return_search.proofs.Passing.{leaving_next}
use Rattle.return_search.proofs.Ranges.{starts_ascend}
use Rattle.return_search.proofs.SearchSteps.{edge_of_one, extends_itself}

split_last : (j n : ℕ) → j < n + 1 → (j < n) ⊎ (j ≡ n)
split_last j n h = grind arith

-- none yet
pub leads_none : (flow : Flow) → AreLeads flow [] 0 0
leads_none flow = record {
  own = All-nil (IsLead flow);
  edges = λ q i l. absurd (omega arith);
  calls = λ q entry l. absurd (omega arith);
}

module _ (flow : Flow) (leads : List Lead) (n m : ℕ) (are : AreLeads flow leads n m) where
  edges_still : (lead : Lead) (q i : ℕ) → i < m → IsEdgeOf flow q i → ((edge_at flow i).to ≡ q + 1) ⊎ Contains (leads ++ lead ∷ []) (Edge q i)
  edges_still lead q i l of = elim (are.edges q i l of) [ inl behind ↦ inl behind | inr listed ↦ inr (Contains-append_left leads (lead ∷ []) (Edge q i) listed) ]

  -- a point that calls, and one that doesn't
  pub leads_call : n < points_of flow → AreLeads flow (leads ++ Call n ∷ []) (n + 1) m
  leads_call inside = record {
    own = All-push (IsLead flow) leads (Call n) are.own inside;
    edges = edges_still (Call n);
    calls = λ q entry l is. elim (split_last q n l) [
      | inl less ↦ Contains-append_left leads (Call n ∷ []) (Call q) (are.calls q entry less is)
      | inr same ↦ subst (λ (k : ℕ). Contains (leads ++ Call n ∷ []) (Call k)) (sym same) (Contains-push leads (Call n))
    ];
  }

  pub leads_no_call : ((entry : ℕ) → exit_at flow n ≢ Calls entry) → AreLeads flow leads (n + 1) m
  leads_no_call none = record {
    own = are.own;
    edges = are.edges;
    calls = λ q entry l is. elim (split_last q n l) [
      | inl less ↦ are.calls q entry less is
      | inr same ↦ absurd (none entry (subst (λ (k : ℕ). exit_at flow k ≡ Calls entry) same is))
    ];
  }

  -- an edge, and one that leads right behind its point
  module _ (shape : HasShape flow) (q : ℕ) (of : IsEdgeOf flow q m) where
    pub leads_edge : AreLeads flow (leads ++ Edge q m ∷ []) n (m + 1)
    leads_edge = record {
      own = All-push (IsLead flow) leads (Edge q m) are.own of;
      edges = λ r i l of_r. elim (split_last i m l) [
        | inl less ↦ edges_still (Edge q m) r i less of_r
        | inr same ↦
            let one : r ≡ q = edge_of_one flow shape r q m (subst (IsEdgeOf flow r) same of_r) of in
            inr (subst (λ (k : ℕ). Contains (leads ++ Edge q m ∷ []) (Edge r k)) (sym same) (subst (λ (k : ℕ). Contains (leads ++ Edge q m ∷ []) (Edge k m)) (sym one) (Contains-push leads (Edge q m))))
      ];
      calls = λ r entry l is. Contains-append_left leads (Edge q m ∷ []) (Call r) (are.calls r entry l is);
    }

    pub leads_behind : (edge_at flow m).to ≡ q + 1 → AreLeads flow leads n (m + 1)
    leads_behind behind = record {
      own = are.own;
      edges = λ r i l of_r. elim (split_last i m l) [
        | inl less ↦ are.edges r i less of_r
        | inr same ↦
            let one : r ≡ q = edge_of_one flow shape r q m (subst (IsEdgeOf flow r) same of_r) of in
            inl (subst (λ (k : ℕ). (edge_at flow k).to ≡ r + 1) (sym same) (subst (λ (k : ℕ). (edge_at flow m).to ≡ k + 1) (sym one) behind))
      ];
      calls = are.calls;
    }

-- a plain point steps on
plain_steps : (flow : Flow) (q : ℕ) → IsPlain flow q → StepsOn flow q
plain_steps flow q plain = record {
  edge = start_of flow q;
  of = record { point = plain.point; from = omega arith; to = omega (arith, plain.one) };
  behind = plain.behind;
  passes = inl plain.passes;
}

-- nothing is listed for plain points
module _ (flow : Flow) (shape : HasShape flow) (n e : ℕ) (ordered : n ≤ e) (within : e ≤ points_of flow) (plain : (q : ℕ) → n ≤ q → q < e → IsPlain flow q) where
  split_at : (j k : ℕ) → (j < k) ⊎ (k ≤ j)
  split_at j k = grind arith

  -- an edge of one of the first e points is one of the first n, or leads right behind its point
  edge_behind : (q i : ℕ) → i < start_of flow e → IsEdgeOf flow q i → (i < start_of flow n) ⊎ ((edge_at flow i).to ≡ q + 1)
  edge_behind q i l of = elim (split_at q n) [
    | inl before ↦ inl (let h = starts_ascend flow shape (q + 1) n (omega arith) (omega arith) in omega (arith, h, of.to))
    | inr from ↦ elim (split_at q e) [
      | inl below ↦
          let step : IsPlain flow q = plain q from below in
          let first : i ≡ start_of flow q = omega (arith, step.one, of.from, of.to) in
          inr (subst (λ (k : ℕ). (edge_at flow k).to ≡ q + 1) (sym first) step.behind)
      | inr past ↦ absurd (let h = starts_ascend flow shape e q past (omega (arith, of.point)) in omega (arith, h, l, of.from))
    ]
  ]

  pub leads_plain : (leads : List Lead) → AreLeads flow leads n (start_of flow n) → AreLeads flow leads e (start_of flow e)
  leads_plain leads are = record {
    own = are.own;
    edges = λ q i l of. elim (edge_behind q i l of) [ inl before ↦ are.edges q i before of | inr behind ↦ inl behind ];
    calls = λ q entry l is. elim (split_at q n) [
      | inl before ↦ are.calls q entry before is
      | inr from ↦ absurd (let passes : exit_at flow q ≡ Passes = (plain q from l).passes in let z : ⊥ = cc in z)
    ];
  }

  pub backward_plain : (backward : Backward) → IsBackwardTo flow backward n (start_of flow n) → IsBackwardTo flow backward e (start_of flow e)
  backward_plain backward are = record {
    leads = leads_plain backward.leads.items are.leads;
    chains = are.chains;
    heads = are.heads;
    steps = λ q l is. elim (split_at q n) [ inl before ↦ are.steps q before is | inr from ↦ plain_steps flow q (plain q from l) ];
  }

  pub leaving_plain : (s : Search) → IsSearchTo flow s n → IsSearchTo flow s e
  leaving_plain s are = record {
    search = are.search;
    leaving = λ q l is. elim (split_at q n) [
      | inl before ↦ are.leaving q before is
      | inr from ↦ absurd (let passes : exit_at flow q ≡ Passes = (plain q from l).passes in let z : ⊥ = cc in z)
    ];
  }

-- where no more keys are open, the points right behind which are open step on as before
pub open_still : (flow : Flow) (before after : List ℕ) (n : ℕ) → OpensNone before after → ((q : ℕ) → q < n → IsOpen before (q + 1) → StepsOn flow q) → (q : ℕ) → q < n → IsOpen after (q + 1) → StepsOn flow q
open_still flow before after n none steps q l is = steps q l (none (q + 1) is)

-- and one point more
pub open_next : (flow : Flow) (heads : List ℕ) (n : ℕ) → ((q : ℕ) → q < n → IsOpen heads (q + 1) → StepsOn flow q) → (IsOpen heads (n + 1) → StepsOn flow n) → (q : ℕ) → q < n + 1 → IsOpen heads (q + 1) → StepsOn flow q
open_next flow heads n steps next q l is = elim (split_last q n l) [
  | inl less ↦ steps q less is
  | inr same ↦ subst (StepsOn flow) (sym same) (next (subst (λ (k : ℕ). IsOpen heads (k + 1)) same is))
]

-- a point from which no return comes
pub leaving_no : (flow : Flow) (s : Search) (n : ℕ) → exit_at flow n ≢ Leaves → IsSearchTo flow s n → IsSearchTo flow s (n + 1)
leaving_no flow s n none are = record { search = are.search; leaving = leaving_next flow s s n are.leaving (extends_itself s) (λ is. absurd (none is)) }

-- one more of either kind is listed in the chain of where it leads
pub chains_more : (flow : Flow) (before after : Backward) (lead : Lead) (to : ℕ) → key_of flow lead ≡ Some to → after.leads.items ≡ before.leads.items ++ lead ∷ []
    → ((keys : List (Option ℕ)) → AreChains before.chains.heads.items before.chains.links.items keys → AreChains after.chains.heads.items after.chains.links.items (keys ++ Some to ∷ []))
    → AreChains before.chains.heads.items before.chains.links.items (map (key_of flow) before.leads.items) → AreChains after.chains.heads.items after.chains.links.items (map (key_of flow) after.leads.items)
chains_more flow before after lead to is pushed added are =
    let keys : map (key_of flow) after.leads.items ≡ map (key_of flow) before.leads.items ++ Some to ∷ [] =
    ap (map (key_of flow)) pushed ∙ (map-append (key_of flow) before.leads.items (lead ∷ []) ∙ ap (λ (k : Option ℕ). map (key_of flow) before.leads.items ++ k ∷ []) is) in
    subst (AreChains after.chains.heads.items after.chains.links.items) (sym keys) (added (map (key_of flow) before.leads.items) are)
