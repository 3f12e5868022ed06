-- The jump tables of an object.
use Rattle.std.specs.Prelude.{◌≡◌, ℕ, Option}
use Rattle.ot_base.specs.declared.place.Place.{Place}
use Rattle.flow_defs.specs.Coded.{Coded}
use Rattle.alternatives.specs.declared.point.Point.{Point}
use Rattle.flow_defs.specs.Tables.{jump_table, table_of}
use Rattle.jump_tables.specs.Kept.{KeptTables, start_in, table_in}
use Rattle.flow_defs.specs.Code.{alternatives_of, texts_of}

-- where the table begins of the jump that stands at a point's place
unfoldable pub table_start_of : Coded → Point → Option Place
table_start_of o point = jump_table o.elf (texts_of o) (alternatives_of o) point

-- they tell the table of each point and owner, and where that of each point begins
pub record AreTablesOf (o : Coded) (tables : KeptTables) : Type 0 where
  pub entries : (point : Point) (owner : Option ℕ) → table_in tables point owner ≡ table_of o.elf (texts_of o) (alternatives_of o) point owner
  pub starts : (point : Point) → start_in tables point ≡ jump_table o.elf (texts_of o) (alternatives_of o) point
