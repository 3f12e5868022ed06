-- Which row of a table holds at an address.
use Rattle.std.specs.Prelude.{◌≡◌, ℕ, Bool, true, false, ◌&&◌, ◌||◌, not, List, [], ◌∷◌, ◌++◌, Option, Some, None, option_map, filter, filter_map, All, ◌==◌, nat_le, nat_lt, if◌then◌else◌, ◌<◌, ◌⊎◌, IfSome}
use Rattle.ot_base.specs.declared.row.Row.{Row}
use Rattle.ot_base.specs.declared.row.PlacedRow.{PlacedRow}
use Rattle.table_defs.specs.declared.range.Range.{Range}
use Rattle.ot_base.specs.declared.codes.TheConstants.{KIND_UNDEFINED}
use Rattle.table_defs.specs.Placement.{address_of}

-- a row and the address from which on it holds
pub record AddressedRow : Type 0 where
  pub address : ℕ
  pub row : Row

abbrev pub addressed_row : List Range → PlacedRow → Option AddressedRow
addressed_row ranges placed = option_map (λ at. record { address = at; row = placed.row }) (address_of ranges placed.place)

-- the rows with their addresses, in the order of the rows; a row of a section that isn't placed has none
abbrev pub addressed : List Range → List PlacedRow → List AddressedRow
addressed ranges rows = filter_map (addressed_row ranges) rows

-- those that begin to hold at or below an address
abbrev pub at_or_below : ℕ → List AddressedRow → List AddressedRow
at_or_below address rows = filter (λ x. nat_le x.address address) rows

-- One row comes before another: by its address, or at one address by being of the undefined kind
-- where the other isn't. So the row that ends a section gives way to the first row of a section right
-- behind it.
abbrev pub comes_before : AddressedRow → AddressedRow → Bool
comes_before one other = nat_lt one.address other.address || (one.address == other.address && (one.row.kind == KIND_UNDEFINED && not (other.row.kind == KIND_UNDEFINED)))

-- The row is the last of the list in the order (address, the undefined kind first, place in the
-- list): it comes before none that stands ahead of it, and each that stands behind it comes before it.
pub record IsLast (rows : List AddressedRow) (row : AddressedRow) : Type 0 where
  pub ahead : List AddressedRow
  pub behind : List AddressedRow
  pub all : rows ≡ ahead ++ row ∷ behind
  pub before_none : All (λ other. comes_before row other ≡ false) ahead
  pub after_each : All (λ other. comes_before other row ≡ true) behind

-- The row holds at the address: it is the last one at or below it.
pub record RowHoldsAt (rows : List PlacedRow) (ranges : List Range) (address : ℕ) (row : Row) : Type 0 where
  pub from : ℕ
  pub last : IsLast (at_or_below address (addressed ranges rows)) (record { address = from; row = row })

-- no row begins to hold at or below the address
abbrev pub NoneHoldsAt : List PlacedRow → List Range → ℕ → Type 0
NoneHoldsAt rows ranges address = at_or_below address (addressed ranges rows) ≡ []

-- The later of a row and the last of those behind it, which wins a tie.
abbrev pub later : AddressedRow → Option AddressedRow → AddressedRow
later one None = one
later one (Some other) = if comes_before other one then one else other

-- the last row of a list, as a maximum over all of it
abbrev pub last_of : List AddressedRow → Option AddressedRow
last_of [] = None
last_of (row ∷ rows) = Some (later row (last_of rows))

-- the row that holds at an address
abbrev pub find_row : List PlacedRow → List Range → ℕ → Option Row
find_row rows ranges address = option_map (λ x. x.row) (last_of (at_or_below address (addressed ranges rows)))

-- Of two rows the second gives way to the first at an address: it isn't placed, or lies above the
-- address, or doesn't come after the first.
abbrev pub IsNoLater : List Range → ℕ → AddressedRow → PlacedRow → Type 0
IsNoLater ranges address one other = IfSome (addressed_row ranges other) (λ x. (address < x.address) ⊎ (comes_before one x ≡ false))

-- the same, where in a tie the first would give way
abbrev pub IsEarlier : List Range → ℕ → AddressedRow → PlacedRow → Type 0
IsEarlier ranges address one other = IfSome (addressed_row ranges other) (λ x. (address < x.address) ⊎ (comes_before x one ≡ true))
