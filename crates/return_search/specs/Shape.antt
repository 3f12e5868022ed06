-- How the parts of a flow, and of what is told of its returns, belong together.
use Rattle.std.specs.Prelude.{◌≡◌, ℕ, ◌+◌, ◌<◌, ◌≤◌, ◌^◌, Some, All, length, slice_index}
use Rattle.return_search.specs.declared.searched_flow.Exit.TheVariants.{Calls}
use Rattle.return_search.specs.declared.searched_flow.Flow.{Flow}
use Rattle.return_search.specs.declared.found_returns.Returns.{Returns}
use Rattle.return_search.specs.Told.{exit_at, entered_at, start_of}

-- how many points a flow has
abbrev pub points_of : Flow → ℕ
points_of flow = length flow.exits.items

-- each list of the flow has an item for each point, and what it names by a number is there
pub record HasShape (flow : Flow) : Type 0 where
  -- points and edges have numbers of 32 bits
  pub few : points_of flow < 2 ^ 32
  pub few_edges : length flow.edges.items < 2 ^ 32
  -- the edges of the points follow one another from the first of all edges to the last
  pub starts : length flow.starts.items ≡ points_of flow + 1
  pub first : start_of flow 0 ≡ 0
  pub ascending : (q : ℕ) → q < points_of flow → start_of flow q ≤ start_of flow (q + 1)
  pub last : start_of flow (points_of flow) ≡ length flow.edges.items
  -- edges lead to points, and entries are points
  pub targets : All (λ e. e.to < points_of flow) flow.edges.items
  pub calls : (q entry : ℕ) → exit_at flow q ≡ Calls entry → entry < points_of flow
  pub entries : (q entry : ℕ) → entered_at flow q ≡ Some entry → entry < points_of flow
  pub dead_ends : length flow.dead_ends.items ≡ points_of flow
  pub entered : length flow.entered.items ≡ points_of flow

-- what is told of so many points has an item for each, and their edges lead to points
pub record HaveShape (points : ℕ) (returns : Returns) : Type 0 where
  pub may_return : length returns.may_return.items ≡ points
  pub comes_back : length returns.comes_back.items ≡ points
  -- the edges of a point begin and end in the list of edges
  pub starts : length returns.starts.items ≡ points + 1
  pub ascending : (q : ℕ) → q < points → slice_index returns.starts.items q ≤ slice_index returns.starts.items (q + 1)
  pub within : (q : ℕ) → q < points → slice_index returns.starts.items (q + 1) ≤ length returns.edges.items
  pub targets : All (λ e. e.to < points) returns.edges.items
  pub dead_ends : length returns.dead_ends.items ≡ points
  pub entered : length returns.entered.items ≡ points
