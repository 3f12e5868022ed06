-- What leads to the points of a flow: edges by where they lead, and calls by entry.
use Rattle.std.specs.Prelude.{◌≡◌, ℕ, ◌+◌, ◌<◌, ◌≤◌, ◌⊎◌, false, List, Option, Some, None, All, Contains, map, length, slice_index_or}
use Rattle.machine_defs.specs.declared.flow.Edge.{Edge}
use Rattle.machine_defs.specs.declared.flow.EdgeKind.TheVariants.{Next}
use Rattle.machine_defs.specs.Program.{edge}
use Rattle.return_search.specs.declared.searched_flow.Exit.{Exit}
use Rattle.return_search.specs.declared.searched_flow.Exit.TheVariants.{Leaves, Calls, CallsOut, CallsNever, Passes}
use Rattle.return_search.specs.declared.searched_flow.Flow.{Flow}
use Rattle.return_search.specs.declared.backward.Backward.{Backward}
use Rattle.return_search.specs.declared.backward.Lead.{Lead}
use Rattle.return_search.specs.declared.backward.Lead.TheVariants as lead
use Rattle.return_search.specs.Chained.{AreChains, IsOpen}
use Rattle.return_search.specs.Told.{dead_end_at, exit_at, start_of}
use Rattle.return_search.specs.Shape.{points_of}

-- the entry that is called
abbrev pub called : Exit → Option ℕ
called Leaves = None
called (Calls entry) = Some entry
called CallsOut = None
called CallsNever = None
called Passes = None

-- the edge with a number
abbrev pub edge_at : Flow → ℕ → Edge
edge_at flow i = slice_index_or flow.edges.items i (edge 0 Next)

-- it is the number of an edge of the point
pub record IsEdgeOf (flow : Flow) (q i : ℕ) : Type 0 where
  pub point : q < points_of flow
  pub from : start_of flow q ≤ i
  pub to : i < start_of flow (q + 1)

-- where something leads
abbrev pub key_of : Flow → Lead → Option ℕ
key_of flow (lead.Edge q i) = Some (edge_at flow i).to
key_of flow (lead.Call q) = called (exit_at flow q)

-- the edge is one of the point, or the point is one that calls
abbrev pub IsLead : Flow → Lead → Type 0
IsLead flow (lead.Edge q i) = IsEdgeOf flow q i
IsLead flow (lead.Call q) = q < points_of flow

-- These are the calls of the first n points, and those of the first m edges that don't lead right behind their points.
pub record AreLeads (flow : Flow) (leads : List Lead) (n m : ℕ) : Type 0 where
  pub own : All (IsLead flow) leads
  pub edges : (q i : ℕ) → i < m → IsEdgeOf flow q i → ((edge_at flow i).to ≡ q + 1) ⊎ Contains leads (lead.Edge q i)
  pub calls : (q entry : ℕ) → q < n → exit_at flow q ≡ Calls entry → Contains leads (lead.Call q)

-- The point passes, and has a single edge, which leads to the point right behind it.
pub record IsPlain (flow : Flow) (q : ℕ) : Type 0 where
  pub point : q < points_of flow
  pub passes : exit_at flow q ≡ Passes
  pub one : start_of flow (q + 1) ≡ start_of flow q + 1
  pub behind : (edge_at flow (start_of flow q)).to ≡ q + 1

-- the point passes, or is a call of code outside that execution passes
abbrev pub PassesOn : Flow → ℕ → Type 0
PassesOn flow q = (exit_at flow q ≡ Passes) ⊎ ((exit_at flow q ≡ CallsOut) × (dead_end_at flow q ≡ false))

-- An edge of the point leads to the point right behind it, and any return is carried over it.
pub record StepsOn (flow : Flow) (q : ℕ) : Type 0 where
  pub edge : ℕ
  pub of : IsEdgeOf flow q edge
  pub behind : (edge_at flow edge).to ≡ q + 1
  pub passes : PassesOn flow q

-- So many calls and edges of the flow are backwards. Of those points that many step on to whose keys are open.
pub record IsBackwardTo (flow : Flow) (backward : Backward) (n m : ℕ) : Type 0 where
  pub leads : AreLeads flow backward.leads.items n m
  pub chains : AreChains backward.chains.heads.items backward.chains.links.items (map (key_of flow) backward.leads.items)
  pub heads : length backward.chains.heads.items ≡ points_of flow
  pub steps : (q : ℕ) → q < n → IsOpen backward.chains.heads.items (q + 1) → StepsOn flow q

-- All are.
abbrev pub IsBackward : Flow → Backward → Type 0
IsBackward flow backward = IsBackwardTo flow backward (points_of flow) (length flow.edges.items)
