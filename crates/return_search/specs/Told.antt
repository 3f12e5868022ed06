-- When edges and exits tell a program, and when a result tells from where its returns come.
use Rattle.std.specs.Prelude.{◌≡◌, ℕ, ◌+◌, ◌↔◌, ◌⊎◌, Option, Some, None, Bool, false, All, Contains, List, [], ◌∷◌, filter, length, slice_get, slice_index, slice_index_or, slice_range, unwrap_or, if◌then◌else◌}
use Rattle.machine_defs.specs.declared.flow.Edge.{Edge}
use Rattle.machine_defs.specs.declared.flow.EdgeKind.TheVariants.{Table}
use Rattle.machine_defs.specs.declared.flow.Role.{Role}
use Rattle.machine_defs.specs.declared.flow.Role.TheVariants.{Plain, CallIn, CallEither, CallOut, CallAny, Return, JumpOut, JumpAny, Switch}
use Rattle.machine_defs.specs.Program.{Program, IsPoint, entry_points, edge}
use Rattle.machine_defs.specs.MayReturn.{is_listed, target_may_return}
use Rattle.machine_defs.specs.Kept.{can_go}
use Rattle.return_search.specs.declared.searched_flow.Exit.{Exit}
use Rattle.return_search.specs.declared.searched_flow.Exit.TheVariants.{Leaves, Calls, CallsOut, CallsNever, Passes}
use Rattle.return_search.specs.declared.searched_flow.Flow.{Flow}
use Rattle.return_search.specs.declared.found_returns.Returns.{Returns}

-- what a call is to a return, by whether it is marked and listed, and what it is where it is neither
abbrev pub call_exit : Bool → Bool → Exit → Exit
call_exit marked listed other = if marked then CallsOut else if listed then CallsNever else other

-- what a point of this role is to a return
abbrev pub exit_by : Program → ℕ → Role → Exit
exit_by p q Plain = Passes
exit_by p q (CallIn entry) = call_exit (p.marked_call q) (is_listed p q) (Calls entry)
exit_by p q (CallEither entry sym) = call_exit (p.marked_call q) (is_listed p q) CallsOut
exit_by p q (CallOut sym) = call_exit (p.marked_call q) (is_listed p q) CallsOut
exit_by p q CallAny = CallsOut
exit_by p q Return = Leaves
exit_by p q (JumpOut sym) = if p.never_returns sym then Passes else Leaves
exit_by p q JumpAny = Leaves
exit_by p q Switch = Passes

-- what a point is to a return
abbrev pub exit_of : Program → ℕ → Exit
exit_of p q = exit_by p q (p.role q)

-- what a flow has for a point, and the place in the list of edges where its own begin
abbrev pub exit_at : Flow → ℕ → Exit
exit_at flow q = slice_index_or flow.exits.items q Passes

abbrev pub dead_end_at : Flow → ℕ → Bool
dead_end_at flow q = slice_index_or flow.dead_ends.items q false

abbrev pub entered_at : Flow → ℕ → Option ℕ
entered_at flow q = slice_index_or flow.entered.items q None

-- by what number a call names a point: that of the entry at which control comes to it, where there is one, else its own
abbrev pub callee_at : Flow → ℕ → ℕ
callee_at flow q = unwrap_or (entered_at flow q) q

abbrev pub start_of : Flow → ℕ → ℕ
start_of flow q = slice_index flow.starts.items q

abbrev pub edges_from : Flow → ℕ → List Edge
edges_from flow q = slice_range flow.edges.items (start_of flow q) (start_of flow (q + 1))

-- Point q has the edges of point r, all of them of a jump table, and a return comes from r by these alone. The flow has
-- them at r only; at q it has one edge of a table, which leads to r.
pub record SharesEdges (p : Program) (flow : Flow) (q r : ℕ) : Type 0 where
  pub point : IsPoint p r
  pub own : p.goes r ≡ edges_from flow r
  pub same : p.goes q ≡ p.goes r
  pub tables : All (λ e. e.kind ≡ Table) (p.goes r)
  pub passes : exit_at flow r ≡ Passes
  pub listed : edges_from flow q ≡ edge r Table ∷ []

-- The flow tells the program, as far as returns ask for it.
pub record TellsFlow (p : Program) (flow : Flow) : Type 0 where
  pub count : p.count ≡ length flow.exits.items
  -- it has the edges of each point, or one edge in their place where the point shares those of another
  pub edges : (q : ℕ) → IsPoint p q → (p.goes q ≡ edges_from flow q) ⊎ ((r : ℕ) × SharesEdges p flow q r)
  pub exits : (q : ℕ) → IsPoint p q → exit_of p q ≡ exit_at flow q
  pub dead_ends : (q : ℕ) → IsPoint p q → p.dead_end q ≡ dead_end_at flow q
  -- control that comes to what is called may stand at the points that a call names by that number
  pub callees : (call entry q : ℕ) → IsPoint p call → p.role call ≡ CallIn entry → IsPoint p q → Contains (entry_points p entry) q ↔ (callee_at flow q ≡ entry)

-- The result tells of each point of the program whether a return may come from it on, whether the target of its call may
-- return, and the edges that the flow has for it, without the Next of a call that can't come back.
pub record TellsReturns (p : Program) (flow : Flow) (returns : Returns) : Type 0 where
  pub may_return : (q : ℕ) → IsPoint p q → slice_get returns.may_return.items q ≡ Some (p.may_return q)
  pub comes_back : (q : ℕ) → IsPoint p q → slice_get returns.comes_back.items q ≡ Some (target_may_return p q)
  pub edges : (q : ℕ) → IsPoint p q → slice_range returns.edges.items (slice_index returns.starts.items q) (slice_index returns.starts.items (q + 1)) ≡ filter (λ e. can_go p q e.kind) (edges_from flow q)
