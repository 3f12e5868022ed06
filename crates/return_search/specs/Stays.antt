-- The edges of a flow that stay.
use Rattle.std.specs.Prelude.{◌≡◌, ℕ, ◌+◌, ◌<◌, ◌≤◌, List, Bool, true, All, filter, length, slice_index, slice_range}
use Rattle.machine_defs.specs.declared.flow.Edge.{Edge}
use Rattle.machine_defs.specs.declared.flow.EdgeKind.{EdgeKind}
use Rattle.machine_defs.specs.declared.flow.EdgeKind.TheVariants.{Next, Taken, Fixup, Table, Sibling}
use Rattle.return_search.specs.declared.searched_flow.Flow.{Flow}
use Rattle.return_search.specs.Told.{edges_from, start_of}
use Rattle.return_search.specs.Shape.{points_of}

-- whether control may go along an edge of this kind, from a point whose target returns or not
abbrev pub stays : Bool → EdgeKind → Bool
stays comes_back Next = comes_back
stays comes_back Taken = true
stays comes_back Fixup = true
stays comes_back Table = true
stays comes_back Sibling = true

-- These are the edges of the first n points that stay, and where those of each begin and end.
pub record AreKept (flow : Flow) (comes_back : ℕ → Bool) (starts : List ℕ) (edges : List Edge) (n : ℕ) : Type 0 where
  pub long : length starts ≡ n + 1
  pub end : slice_index starts n ≡ length edges
  pub short : length edges ≤ start_of flow n
  pub ascending : (q : ℕ) → q < n → slice_index starts q ≤ slice_index starts (q + 1)
  pub within : (q : ℕ) → q < n → slice_index starts (q + 1) ≤ length edges
  pub each : (q : ℕ) → q < n → slice_range edges (slice_index starts q) (slice_index starts (q + 1)) ≡ filter (λ e. stays (comes_back q) e.kind) (edges_from flow q)
  pub targets : All (λ e. e.to < points_of flow) edges
