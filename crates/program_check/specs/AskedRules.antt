-- What options ask for besides the rules of the stack.
use Rattle.std.specs.Prelude.{◌≡◌, ◌⊎◌, ◌||◌, ℕ, Bool, true, false, Option, Some, None, IfSome, length}
use Rattle.ot_base.specs.declared.options.Options.{Options}
use Rattle.ot_base.specs.declared.warning.Warning.{Warning}
use Rattle.machine_defs.specs.Program.{Program}
use Rattle.machine_defs.specs.IsProgram.{IsProgram}
use Rattle.machine_defs.specs.Allowances.{Allowances, EntersFunctions}
use Rattle.program_graph.specs.declared.parts.GraphParts.{GraphParts}
use Rattle.program_graph.specs.Tells.{Tells}
use Rattle.program_check.specs.declared.allowance_table.AllowanceTable.{AllowanceTable}
use Rattle.program_check.specs.Allows.{Allows}
use Rattle.program_check.specs.Branches.{BranchWarns}
use Rattle.program_check.specs.PointWarns.{IsAccessWarning}

-- the options ask for a rule that looks at what is allowed
abbrev pub needs_allowances : Options → Bool
needs_allowances options = options.retpoline || (options.rethunk || options.uaccess)

-- where they do, there is a table
abbrev pub IsEnough : Options → Option AllowanceTable → Type 0
IsEnough options None = needs_allowances options ≡ false
IsEnough options (Some table) = Unit {0}

-- the table has something for each of so many points
abbrev pub HasLengths : AllowanceTable → ℕ → Type 0
HasLengths table points = (length table.safe_branches.items ≡ points) × (length table.before_user_space.items ≡ points) × (length table.lacking_smap.items ≡ points)

-- the warnings of the rules 31, 32 and 41 to 47, as far as they are asked for
abbrev pub AskedWarns : Program → Allowances → Options → Warning → Type 0
AskedWarns p allowed options w = BranchWarns p allowed options w ⊎ ((options.uaccess ≡ true) × IsAccessWarning p allowed w)

-- The graph tells the program, which is one as the laws ask and has functions; and the table, if there is one, tells what is
-- allowed.
pub record IsTracked (p : Program) (allowed : Allowances) (parts : GraphParts) (table : Option AllowanceTable) : Type 0 where
  pub tells : Tells p parts
  pub is_program : IsProgram p
  pub functions : EntersFunctions p
  pub allows : IfSome table (λ t. Allows allowed t p.count)
