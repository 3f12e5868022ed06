-- Kept points that run in sites.
use Rattle.std.specs.Prelude.{◌≡◌, ◌⊎◌, ℕ, ◌<◌, ◌≤◌, nat_lt, true, List, Option, IsSome, All, AllPairs, Contains, if◌then◌else◌, length, slice_index_or}
use Rattle.ot_base.specs.declared.place.Place.{Place}
use Rattle.ot_base.specs.Places.{is_before}
use Rattle.state_defs.specs.declared.state.State.{State}
use Rattle.machine_defs.specs.Program.{Program, Site, IsPoint}
use Rattle.machine_defs.specs.IsProgram.{IsLaidOut}
use Rattle.machine_defs.specs.Kept.{AreKeptStates}
use Rattle.machine_defs.specs.Broken.{KeptInSite}
use Rattle.program_graph.specs.declared.parts.GraphSite.{GraphSite as OwnSite}
use Rattle.program_graph.specs.declared.parts.GraphParts.{GraphParts}
use Rattle.program_graph.specs.Tells.{Tells}
use Rattle.kept_states.specs.LevelStates.{at}
use Rattle.stack_rules.specs.Sites.{in_own_site}

-- where nothing runs that is looked up
abbrev pub nowhere : Place
nowhere = record { sec = 0; off = 0 }

-- where the point with a number runs; of a number past all points that says nothing
abbrev pub address_by_number : Program → ℕ → Place
address_by_number p n = if nat_lt n p.count then p.address n else nowhere

-- and its variant
abbrev pub key_by_number : Program → ℕ → Place × ℕ
key_by_number p n = if nat_lt n p.count then (p.address n, p.variant n) else (nowhere, 0)

-- a point runs in one of these sites
abbrev pub RunsIn : Program → List OwnSite → ℕ → Type 0
RunsIn p sites q = (site : OwnSite) × Contains sites site × (in_own_site site (p.address q) ≡ true)

-- the list has the points with a state that run in these sites
pub record ArePointsIn (p : Program) (states : ℕ → Option State) (sites : List OwnSite) (points : List ℕ) : Type 0 where
  pub each : (q : ℕ) → Contains points q → RunsIn p sites q
  pub all : (q : ℕ) → IsPoint p q → IsSome (states q) → RunsIn p sites q → Contains points q

-- the list has those of another one that run in these sites
pub record AreAmong (p : Program) (points : List ℕ) (sites : List OwnSite) (among : List ℕ) : Type 0 where
  pub each : (q : ℕ) → Contains among q → Contains points q × RunsIn p sites q
  pub all : (q : ℕ) → Contains points q → RunsIn p sites q → Contains among q

-- a plain point runs at the start of a site, which has a byte there
pub record IsStartOf (p : Program) (site : OwnSite) (q : ℕ) : Type 0 where
  pub variant : p.variant q ≡ 0
  pub start : p.address q ≡ site.start
  pub inside : in_own_site site (p.address q) ≡ true

-- some of the sites are those at whose starts points of the list run
pub record AreKeptIn (p : Program) (points : List ℕ) (sites starts : List OwnSite) : Type 0 where
  pub each : (site : OwnSite) → Contains starts site → Contains sites site × ((q : ℕ) × Contains points q × IsStartOf p site q)
  pub all : (q : ℕ) (site : OwnSite) → Contains points q → Contains sites site → IsStartOf p site q → Contains starts site

-- a point comes before another: it runs at a place before, or at the same one and is of a lower variant
abbrev pub ComesBefore : Program → ℕ → ℕ → Type 0
ComesBefore p q r = (is_before (p.address q) (p.address r) ≡ true) ⊎ ((p.address q ≡ p.address r) × (p.variant q < p.variant r))

-- of two points the later one doesn't come before the other
abbrev pub AreInOrder : Program → List ℕ → Type 0
AreInOrder p points = (i j d : ℕ) → i ≤ j → j < length points → ComesBefore p (slice_index_or points j d) (slice_index_or points i d) → ⊥

-- a kept point of a site whose original code is kept at its start
pub record IsSitePoint (p : Program) (q : ℕ) : Type 0 where
  pub site : Site
  pub state : State
  pub kept : KeptInSite p site q state

-- The list has each kept point of a site whose original code is kept at its start, once, by address and then by variant.
pub record AreSitePoints (p : Program) (points : List ℕ) : Type 0 where
  pub ascend : AllPairs (ComesBefore p) points
  pub each : (q : ℕ) → Contains points q → IsSitePoint p q
  pub all : (site : Site) (q : ℕ) (s : State) → KeptInSite p site q s → Contains points q

-- The list has these of each program that the graph tells and whose states are those.
pub record AreSitePointsOf (parts : GraphParts) (states : List (Option State)) (points : List ℕ) : Type 0 where
  pub within : All (λ q. q < length states) points
  pub listed : (p : Program) → Tells p parts → IsLaidOut p → AreKeptStates p (at states) → AreSitePoints p points
