-- What holds of every table, placement and memory.
use Rattle.std.specs.Prelude.{◌≡◌, ℕ, ◌+◌, ◌<◌, ◌≤◌, ◌^◌, ◌↔◌, List, [], ◌∷◌, ◌++◌, Some, None, IfSome, All}
use Rattle.ot_base.specs.declared.row.Row.{Row}
use Rattle.ot_base.specs.declared.row.PlacedRow.{PlacedRow}
use Rattle.table_defs.specs.declared.range.Range.{Range}
use Rattle.table_defs.specs.declared.frame.Regs.{Regs}
use Rattle.table_defs.specs.declared.frame.Frame.{Frame}
use Rattle.table_defs.specs.declared.frame.Stop.{Stop}
use Rattle.table_defs.specs.Placement.{TextSection, IsPlacement, address_of}
use Rattle.table_defs.specs.Lookup.{find_row, RowHoldsAt, NoneHoldsAt, IsNoLater, IsEarlier}
use Rattle.table_defs.specs.Walk.{Memory, Walks}

-- the row found is the one that holds at the address
abbrev pub FoundIsLast : Type 0
FoundIsLast = (rows : List PlacedRow) (ranges : List Range) (address : ℕ) (row : Row) → (find_row rows ranges address ≡ Some row) ↔ RowHoldsAt rows ranges address row

-- none is found exactly where none begins to hold at or below the address
abbrev pub NoneFoundIsNone : Type 0
NoneFoundIsNone = (rows : List PlacedRow) (ranges : List Range) (address : ℕ) → (find_row rows ranges address ≡ None) ↔ NoneHoldsAt rows ranges address

-- at most one row holds at an address
abbrev pub OneRowHolds : Type 0
OneRowHolds = (rows : List PlacedRow) (ranges : List Range) (address : ℕ) (one other : Row) → RowHoldsAt rows ranges address one → RowHoldsAt rows ranges address other → one ≡ other

-- Where a row lies at or below the address, those in front of it in the table give way to it and those
-- behind it are earlier, it is the one that holds.
abbrev pub RowAmongOthers : Type 0
RowAmongOthers = (ranges : List Range) (address from : ℕ) (front back : List PlacedRow) (placed : PlacedRow)
    → address_of ranges placed.place ≡ Some from → from ≤ address
    → All (IsNoLater ranges address (record { address = from; row = placed.row })) front
    → All (IsEarlier ranges address (record { address = from; row = placed.row })) back
    → find_row (front ++ placed ∷ back) ranges address ≡ Some placed.row

-- one text section has one range
abbrev pub OneRange : Type 0
OneRange = (text : TextSection) (ranges : List Range) → IsPlacement (text ∷ []) ranges → (base : ℕ) × (base + text.size < 2 ^ 64) × (ranges ≡ record { sec = text.sec; base = base; size = text.size } ∷ [])

-- a walk gives at most one list of frames and one stop
abbrev pub WalkIsDetermined : Type 0
WalkIsDetermined = (rows : List PlacedRow) (ranges : List Range) (memory : Memory) (regs : Regs) (frames others : List Frame) (stop other : Stop) → Walks rows ranges memory regs frames stop → Walks rows ranges memory regs others other → (frames ≡ others) × (stop ≡ other)

-- the words of the memory are 64-bit numbers
abbrev pub HasWords : Memory → Type 0
HasWords memory = (address : ℕ) → IfSome (memory address) (λ word. word < 2 ^ 64)

-- every walk ends
abbrev pub WalkEnds : Type 0
WalkEnds = (rows : List PlacedRow) (ranges : List Range) (memory : Memory) (regs : Regs) → HasWords memory → (frames : List Frame) × ((stop : Stop) × Walks rows ranges memory regs frames stop)
