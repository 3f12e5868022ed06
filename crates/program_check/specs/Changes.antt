-- The rows that begin in a program, and those of them that differ from the one before.
use Rattle.std.specs.Prelude.{◌≡◌, ◌⊎◌, ℕ, ◌-◌, ◌==◌, Bool, true, false, List, [], ◌∷◌, ◌++◌, Option, Some, None, Contains, AllPairs, if◌then◌else◌, length, map, slice_get}
use Rattle.ot_base.specs.declared.place.Place.{Place}
use Rattle.ot_base.specs.declared.row.Row.{Row}
use Rattle.ot_base.specs.declared.row.PlacedRow.{PlacedRow}
use Rattle.ot_base.specs.Rows.{same_row, zero_row}
use Rattle.ot_base.specs.Places.{is_before}
use Rattle.state_defs.specs.declared.state.State.{State}
use Rattle.machine_defs.specs.Program.{Program, Site, IsPoint, in_site}
use Rattle.machine_defs.specs.Broken.{KeptInSite}
use Rattle.machine_defs.specs.Rows.{placed, row_of_point}
use Rattle.stack_rules.specs.Points.{ComesBefore}

-- each row lies before those behind it
abbrev pub Ascends : List PlacedRow → Type 0
Ascends [] = Unit {0}
Ascends (x ∷ xs) = ((y : PlacedRow) → Contains xs y → is_before x.place y.place ≡ true) × Ascends xs

-- the row that holds in a section behind the last of some rows
abbrev pub row_before : ℕ → Option PlacedRow → Row
row_before sec None = zero_row
row_before sec (Some last) = if last.place.sec == sec then last.row else zero_row

-- whether a row is equal to the one that holds in its section behind some rows
abbrev pub is_held : List PlacedRow → ℕ → Row → Bool
is_held rows sec row = same_row (row_before sec (slice_get rows (length rows - 1))) row

-- some rows and one more, unless it is equal to the one before in its section
abbrev pub after_row : List PlacedRow → PlacedRow → List PlacedRow
after_row rows x = if is_held rows x.place.sec x.row then rows else rows ++ x ∷ []

abbrev pub add_all : List PlacedRow → List PlacedRow → List PlacedRow
add_all rows [] = rows
add_all rows (x ∷ xs) = add_all (after_row rows x) xs

-- some points are those of a list, which are by their addresses, but for those that run where one before does
pub record AreFirstOf (p : Program) (points firsts : List ℕ) : Type 0 where
  pub each : (q : ℕ) → Contains firsts q → Contains points q
  pub all : (q : ℕ) → Contains points q → (r : ℕ) × Contains firsts r × (p.address r ≡ p.address q)
  pub ascend : AllPairs (ComesBefore p) points → AllPairs (λ q r. is_before (p.address q) (p.address r) ≡ true) firsts

-- the row of a point where it runs, and those of some points
abbrev pub row_in_site : Program → (ℕ → Option State) → ℕ → PlacedRow
row_in_site p states q = placed (p.address q) (row_of_point states q)

abbrev pub rows_in_sites : Program → (ℕ → Option State) → List ℕ → List PlacedRow
rows_in_sites p states points = map (row_in_site p states) points

-- a kept point of a site whose original code is kept has this row
pub record IsRowInSite (p : Program) (states : ℕ → Option State) (x : PlacedRow) : Type 0 where
  pub site : Site
  pub point : ℕ
  pub state : State
  pub kept : KeptInSite p site point state
  pub place : p.address point ≡ x.place
  pub row : x.row ≡ row_of_point states point

-- the rows in sites whose original code is kept: one at each address of a kept point, in order
pub record AreRowsInSites (p : Program) (states : ℕ → Option State) (rows : List PlacedRow) : Type 0 where
  pub ascend : Ascends rows
  pub each : (x : PlacedRow) → Contains rows x → IsRowInSite p states x
  pub all : (site : Site) (q : ℕ) (s : State) → KeptInSite p site q s → (x : PlacedRow) × Contains rows x × (x.place ≡ p.address q)

-- the place lies in no site
abbrev pub LiesOutside : Program → Place → Type 0
LiesOutside p place = (site : Site) → Contains p.sites site → in_site site place ≡ false

-- it is the start of a site, and the point there isn't kept
pub record IsUnkeptStart (p : Program) (states : ℕ → Option State) (q : ℕ) : Type 0 where
  pub site : Site
  pub listed : Contains p.sites site
  pub start : site.start ≡ p.place q
  pub inside : in_site site (p.place q) ≡ true
  pub not_kept : states q ≡ None

-- A row begins at a point of the object's code: it runs in no site, or is the first of one and isn't kept.
pub record BeginsRow (p : Program) (states : ℕ → Option State) (q : ℕ) : Type 0 where
  pub plain : p.variant q ≡ 0
  pub begins : LiesOutside p (p.place q) ⊎ IsUnkeptStart p states q

-- it is the row of such a point
abbrev pub row_from : Program → (ℕ → Option State) → ℕ → PlacedRow
row_from p states q = placed (p.place q) (row_of_point states q)

-- the rows of points and those in sites, by their places
pub record AreMerged (p : Program) (states : ℕ → Option State) (in_sites all : List PlacedRow) : Type 0 where
  pub ascend : Ascends all
  pub each : (x : PlacedRow) → Contains all x → ((q : ℕ) × IsPoint p q × BeginsRow p states q × (x ≡ row_from p states q)) ⊎ Contains in_sites x
  pub plain : (q : ℕ) → IsPoint p q → BeginsRow p states q → Contains all (row_from p states q)
  pub sites : (x : PlacedRow) → Contains in_sites x → Contains all x
