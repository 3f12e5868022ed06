-- That look-ups and walks by a table tell what they tell by the rows of the objects that were merged.
use Rattle.std.specs.Prelude.{◌≡◌, ◌≢◌, ℕ, true, List, ◌++◌, Option, Contains}
use Rattle.ot_base.specs.declared.row.Row.{Row}
use Rattle.table_defs.specs.declared.frame.Regs.{Regs}
use Rattle.table_defs.specs.declared.frame.Frame.{Frame}
use Rattle.table_defs.specs.declared.frame.Stop.{Stop}
use Rattle.table_defs.specs.declared.frame.Stop.TheVariants.{Outside}
use Rattle.table_defs.specs.Placement.{is_inside}
use Rattle.table_defs.specs.Lookup.{AddressedRow, find_row}
use Rattle.table_defs.specs.Walk.{Memory, Walks}
use Rattle.orc_walk.specs.Rows.{row_at}
use Rattle.orc_merge.specs.Alike.{known}
use Rattle.orc_merge.specs.Merged.{IsMergedTable}
use Rattle.orc_merge.specs.MergedWalk.{StopAlike, TableWalks, ranges_of_all}
use Rattle.orc_merge.specs.TableBytes.{table_bytes}
use Rattle.orc_merge.specs.declared.part.Part.{Part}

-- these bytes are the table of these rows
pub record HoldsTable (bytes : List ℕ) (rows : List AddressedRow) : Type 0 where
  pub table : IsMergedTable rows
  pub written : bytes ≡ table_bytes rows

-- The bytes are a table, and this is what holds at an address in it: a row, or none.
pub record FindsRow (bytes : List ℕ) (address : ℕ) (found : Option Row) : Type 0 where
  pub rows : List AddressedRow
  pub holds : HoldsTable bytes rows
  pub row : found ≡ row_at address rows

-- At each address inside one of the ranges of one of these objects, what holds in the table is what the object's own rows and ranges
-- give. No row, and a row of the undefined kind, count as one.
abbrev pub FindAlike : List ℕ → List Part → Type 0
FindAlike bytes parts = (part : Part) (address : ℕ) (found : Option Row) → Contains parts part → is_inside part.ranges.items address ≡ true → FindsRow bytes address found → known found ≡ known (find_row part.rows.items part.ranges.items address)

-- A walk over one of these objects' own rows in its ranges, and over the rows of the table in the ranges of all: where the first doesn't
-- leave the object's ranges, the second gives the same frames, and stops alike; and where it does, its frames are the first of the
-- second's.
pub record WalkAlike (bytes : List ℕ) (parts : List Part) : Type 0 where
  pub within :
      (rows : List AddressedRow) (part : Part) (memory : Memory) (regs : Regs) (frames : List Frame) (stop : Stop)
      → HoldsTable bytes rows
      → Contains parts part
      → Walks part.rows.items part.ranges.items memory regs frames stop
      → stop ≢ Outside
      → (end : Stop) × TableWalks rows (ranges_of_all parts) memory regs frames end × StopAlike stop end
  pub front :
      (rows : List AddressedRow) (part : Part) (memory : Memory) (regs : Regs) (frames all : List Frame) (stop end : Stop)
      → HoldsTable bytes rows
      → Contains parts part
      → Walks part.rows.items part.ranges.items memory regs frames stop
      → TableWalks rows (ranges_of_all parts) memory regs all end
      → (rest : List Frame) × (all ≡ frames ++ rest)
