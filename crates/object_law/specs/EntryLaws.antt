-- The entries of the program of every object.
use Rattle.ot_base.specs.NameLists.{NameLists}
use Rattle.flow_defs.specs.Coded.{Coded}
use Rattle.flow_defs.specs.Program.{program_of}
use Rattle.machine_defs.specs.Allowances.{EntersFunctions}

abbrev pub ProgramHasFunctions : Type 0
ProgramHasFunctions = (o : Coded) (lists : NameLists) → EntersFunctions (program_of o lists)
