-- The first points at some places.
use Rattle.std.specs.Prelude.{◌≡◌, ℕ, ◌<◌, ◌&&◌, true, AllPairs, List, Option, is_some, length, slice_index_or}
use Rattle.ot_base.specs.declared.warning.Warning.{Warning}
use Rattle.ot_base.specs.Places.{is_before}
use Rattle.elf_objects.specs.Below.{least_below}
use Rattle.state_defs.specs.declared.state.State.{State}
use Rattle.machine_defs.specs.Program.{Program}
use Rattle.command_base.specs.declared.backtrace_spots.Spot.{Spot}
use Rattle.command_base.specs.Backtrace.{stands_at}

-- each place is before those behind it
abbrev pub AreApart : List Spot → Type 0
AreApart spots = AllPairs (λ one other. is_before one.place other.place ≡ true) spots

-- of the points below a bound, the first at the place of a spot and the first there that keeps a state
pub record IsSpot (p : Program) (states : ℕ → Option State) (bound : ℕ) (spot : Spot) : Type 0 where
  pub first : spot.first ≡ least_below (stands_at p spot.place) bound
  pub kept : spot.kept ≡ least_below (λ q. stands_at p spot.place q && is_some (states q)) bound

abbrev pub AreSpots : Program → (ℕ → Option State) → ℕ → List Spot → Type 0
AreSpots p states bound spots = (k : ℕ) (d : Spot) → k < length spots → IsSpot p states bound (slice_index_or spots k d)

-- a number for each of the first warnings: that of the spot at its place
abbrev pub HaveNumbers : List Warning → List Spot → List ℕ → Type 0
HaveNumbers warnings spots numbers = (i : ℕ) (w : Warning) (d : Spot) → i < length numbers
    → (slice_index_or numbers i 0 < length spots) × ((slice_index_or spots (slice_index_or numbers i 0) d).place ≡ (slice_index_or warnings i w).place)

-- the spots with these numbers, in their order
pub record ArePicked (spots : List Spot) (numbers : List ℕ) (picked : List Spot) : Type 0 where
  pub len : length picked ≡ length numbers
  pub each : (i : ℕ) (d : Spot) → i < length picked → slice_index_or picked i d ≡ slice_index_or spots (slice_index_or numbers i 0) d

-- by warning, the first points of the program at its place
abbrev pub AreFirst : Program → (ℕ → Option State) → List Warning → List Spot → Type 0
AreFirst p states warnings firsts = (i : ℕ) (w : Warning) (d : Spot) → i < length firsts
    → ((slice_index_or firsts i d).place ≡ (slice_index_or warnings i w).place) × IsSpot p states p.count (slice_index_or firsts i d)
