-- A program's sections in memory, as the machine places them and as a table does.
use Rattle.std.specs.Prelude.{◌≡◌, List, All}
use Rattle.machine_defs.specs.Program.{Program}
use Rattle.machine_defs.specs.Machine.{Bases}
use Rattle.table_defs.specs.declared.range.Range.{Range}
use Rattle.table_defs.specs.Placement.{IsPlacement}

-- each range begins where the bases place its section
abbrev pub BeginAt : Bases → List Range → Type 0
BeginAt bases ranges = All (λ range. range.base ≡ bases range.sec) ranges

-- the ranges place the text sections of the program, each at its base
pub record IsPlacedBy (p : Program) (bases : Bases) (ranges : List Range) : Type 0 where
  pub placement : IsPlacement p.texts ranges
  pub begin : BeginAt bases ranges
