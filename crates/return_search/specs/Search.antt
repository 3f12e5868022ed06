-- A search for the points from which a return may come.
use Rattle.std.specs.Prelude.{◌≡◌, ℕ, ◌+◌, ◌<◌, ◌≤◌, ◌⊎◌, List, Bool, true, false, not, ◌&&◌, All, Contains, length, count_by, vec_capacity, slice_index_or}
use Rattle.machine_defs.specs.declared.flow.EdgeKind.{EdgeKind}
use Rattle.machine_defs.specs.declared.flow.EdgeKind.TheVariants.{Next, Taken, Fixup, Table, Sibling}
use Rattle.machine_defs.specs.declared.flow.Role.TheVariants.{CallIn}
use Rattle.machine_defs.specs.Program.{Program, IsPoint, entry_points}
use Rattle.machine_defs.specs.MayReturn.{MayReturn}
use Rattle.return_search.specs.declared.searched_flow.Exit.{Exit}
use Rattle.return_search.specs.declared.searched_flow.Exit.TheVariants.{Leaves, Calls, CallsOut, CallsNever, Passes}
use Rattle.return_search.specs.declared.searched_flow.Flow.{Flow}
use Rattle.return_search.specs.declared.return_search.Search.{Search}
use Rattle.return_search.specs.Told.{TellsFlow, callee_at, exit_at, dead_end_at}
use Rattle.return_search.specs.Shape.{points_of}
use Rattle.return_search.specs.Backward.{edge_at, IsEdgeOf, StepsOn}

-- whether a list of tests has one that holds there
abbrev pub is_set : List Bool → ℕ → Bool
is_set tests q = slice_index_or tests q false

-- whether the target of a point's call returns, where these are known to return that are called; what isn't a call passes
abbrev pub target_returns : List Bool → Exit → Bool
target_returns known Leaves = true
target_returns known (Calls entry) = is_set known entry
target_returns known CallsOut = true
target_returns known CallsNever = false
target_returns known Passes = true

-- the entries that are called are below a number
abbrev pub CallBelow : List Exit → ℕ → Type 0
CallBelow exits count = (q entry : ℕ) → slice_index_or exits q Passes ≡ Calls entry → entry < count

-- whether a point is a call
abbrev pub is_calling : Exit → Bool
is_calling Leaves = false
is_calling (Calls entry) = true
is_calling CallsOut = true
is_calling CallsNever = true
is_calling Passes = false

-- whether a return that may come from the end of an edge of this kind may come from its point too
abbrev pub carries : Flow → List Bool → ℕ → EdgeKind → Bool
carries flow known q Next = target_returns known (exit_at flow q) && not (is_calling (exit_at flow q) && dead_end_at flow q)
carries flow known q Taken = true
carries flow known q Fixup = true
carries flow known q Table = true
carries flow known q Sibling = true

-- Points that are found and not passed on yet are listed, each once at most.
pub record AreListed (flow : Flow) (s : Search) : Type 0 where
  pub long : length s.found.items ≡ points_of flow
  pub room : points_of flow ≤ vec_capacity s.waiting
  pub once : length s.waiting.items ≤ count_by (λ b. b) s.found.items
  pub found : All (λ q. is_set s.found.items q ≡ true) s.waiting.items
  pub known : length s.known.items ≡ points_of flow

-- A return may come from the points that are found, and from what is called and known to return.
pub record AreSound (flow : Flow) (found known : List Bool) : Type 0 where
  pub points : (p : Program) → TellsFlow p flow → (q : ℕ) → is_set found q ≡ true → MayReturn p q
  pub entries : (p : Program) → TellsFlow p flow → (call entry : ℕ) → IsPoint p call → p.role call ≡ CallIn entry → is_set known entry ≡ true → (first : ℕ) × Contains (entry_points p entry) first × MayReturn p first

-- What is found stays so, and what is listed; all that is found besides is listed, each once.
pub record Extends (before after : Search) : Type 0 where
  pub found : (q : ℕ) → is_set before.found.items q ≡ true → is_set after.found.items q ≡ true
  pub waiting : (q : ℕ) → Contains before.waiting.items q → Contains after.waiting.items q
  pub new : (q : ℕ) → is_set after.found.items q ≡ true → (is_set before.found.items q ≡ true) ⊎ Contains after.waiting.items q
  pub grown : length after.waiting.items + count_by (λ b. b) before.found.items ≡ length before.waiting.items + count_by (λ b. b) after.found.items
  pub more : count_by (λ b. b) before.found.items ≤ count_by (λ b. b) after.found.items

-- the points of edges that lead to x are found, as far as a return is carried along them
abbrev pub FindsAlong : Flow → List Bool → List Bool → ℕ → Type 0
FindsAlong flow found known x = (q i : ℕ) → IsEdgeOf flow q i → (edge_at flow i).to ≡ x → carries flow known q (edge_at flow i).kind ≡ true → is_set found q ≡ true

-- all is found that a return which comes from x is carried to
pub record IsPassedOn (flow : Flow) (found known : List Bool) (x : ℕ) : Type 0 where
  pub edges : FindsAlong flow found known x
  pub callee : (q : ℕ) → exit_at flow q ≡ Calls (callee_at flow x) → is_set known (callee_at flow x) ≡ true

-- those of the first n points from which a return comes are found
abbrev pub FindsLeaving : Flow → List Bool → ℕ → Type 0
FindsLeaving flow found n = (q : ℕ) → q < n → exit_at flow q ≡ Leaves → is_set found q ≡ true

-- Each point that is found is listed, or all is found that a return from it is carried to.
pub record IsSearch (flow : Flow) (s : Search) : Type 0 where
  pub listed : AreListed flow s
  pub sound : AreSound flow s.found.items s.known.items
  pub passed : (x : ℕ) → is_set s.found.items x ≡ true → Contains s.waiting.items x ⊎ IsPassedOn flow s.found.items s.known.items x

-- So is each but x, which is found and was taken from the list.
pub record IsTaken (flow : Flow) (s : Search) (x : ℕ) : Type 0 where
  pub listed : AreListed flow s
  pub sound : AreSound flow s.found.items s.known.items
  pub found : is_set s.found.items x ≡ true
  pub passed : (y : ℕ) → is_set s.found.items y ≡ true → (y ≡ x) ⊎ (Contains s.waiting.items y ⊎ IsPassedOn flow s.found.items s.known.items y)

-- what is found and known is closed: no return is carried any further
pub record AreClosed (flow : Flow) (found known : List Bool) : Type 0 where
  pub leaving : FindsLeaving flow found (points_of flow)
  pub passed : (x : ℕ) → is_set found x ≡ true → IsPassedOn flow found known x

-- More is found, and rightly so; what is known to return stays.
pub record FindsMore (flow : Flow) (before after : Search) : Type 0 where
  pub listed : AreListed flow after
  pub extends : Extends before after
  pub known : after.known.items ≡ before.known.items
  pub sound : AreSound flow after.found.items after.known.items

-- a return is carried to the point along one of its edges, from a point that is found
abbrev pub IsCarriedBy : Flow → List Bool → List Bool → ℕ → ℕ → Type 0
IsCarriedBy flow found known q i = IsEdgeOf flow q i × (is_set found (edge_at flow i).to ≡ true) × (carries flow known q (edge_at flow i).kind ≡ true)

-- nothing leads to the point but the point right before it, which steps on to it, and no call names it
pub record IsSteppedTo (flow : Flow) (x : ℕ) : Type 0 where
  pub edges : (q i : ℕ) → IsEdgeOf flow q i → (edge_at flow i).to ≡ x → q + 1 ≡ x
  pub calls : (q : ℕ) → exit_at flow q ≡ Calls (callee_at flow x) → ⊥
  pub steps : (q : ℕ) → q + 1 ≡ x → StepsOn flow q

-- More is found, and what is listed stays.
pub record RunsOn (before after : Search) : Type 0 where
  pub found : (q : ℕ) → is_set before.found.items q ≡ true → is_set after.found.items q ≡ true
  pub waiting : after.waiting.items ≡ before.waiting.items
  pub more : count_by (λ b. b) before.found.items ≤ count_by (λ b. b) after.found.items

-- a search that has found those of the first n points from which a return comes, and that has passed on what isn't listed
pub record IsSearchTo (flow : Flow) (s : Search) (n : ℕ) : Type 0 where
  pub search : IsSearch flow s
  pub leaving : FindsLeaving flow s.found.items n
