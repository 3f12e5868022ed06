-- What the code knows of a program and of its sections.
use Rattle.std.specs.Prelude.{◌≡◌, ℕ, Bool, false, List, slice_index_or}
use Rattle.machine_defs.specs.Program.{Program}
use Rattle.machine_defs.specs.IsProgram.{IsProgram}
use Rattle.machine_defs.specs.Allowances.{EntersFunctions}
use Rattle.program_graph.specs.declared.parts.GraphParts.{GraphParts}
use Rattle.program_graph.specs.Tells.{Tells}
use Rattle.entry_rules.specs.Facts.{EntryFacts}

-- the flags tell which sections have code that isn't instrumented
abbrev pub TellsNoinstr : EntryFacts → List Bool → Type 0
TellsNoinstr facts flags = (sec : ℕ) → facts.noinstr sec ≡ slice_index_or flags sec false

-- The parts tell the program, which is one as the laws ask, and the flags its sections.
pub record Knows (p : Program) (facts : EntryFacts) (parts : GraphParts) (flags : List Bool) : Type 0 where
  pub tells : Tells p parts
  pub is_program : IsProgram p
  pub functions : EntersFunctions p
  pub noinstr : TellsNoinstr facts flags
