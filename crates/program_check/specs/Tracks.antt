-- What user access is tracked over.
use Rattle.machine_defs.specs.Program.{Program}
use Rattle.machine_defs.specs.IsProgram.{IsProgram}
use Rattle.machine_defs.specs.Allowances.{Allowances, EntersFunctions}
use Rattle.program_graph.specs.declared.parts.GraphParts.{GraphParts}
use Rattle.program_graph.specs.Tells.{Tells}
use Rattle.program_check.specs.declared.allowance_table.AllowanceTable.{AllowanceTable}
use Rattle.program_check.specs.Allows.{Allows}

-- The graph tells the program, which is one as the laws ask and has functions; and the table tells what is allowed at its
-- points and symbols.
pub record Tracks (p : Program) (allowed : Allowances) (parts : GraphParts) (table : AllowanceTable) : Type 0 where
  pub tells : Tells p parts
  pub is_program : IsProgram p
  pub functions : EntersFunctions p
  pub allows : Allows allowed table p.count
