-- Graphs that are ready to be checked, and what their check comes to.
use Rattle.std.specs.Prelude.{◌≡◌, ◌^◌, ◌<◌, Option, All, IfSome}
use Rattle.ot_base.specs.declared.options.Options.{Options}
use Rattle.ot_base.specs.NameLists.{NameLists}
use Rattle.flow_defs.specs.Coded.{Coded}
use Rattle.machine_defs.specs.Program.{Program}
use Rattle.machine_defs.specs.IsProgram.{IsLaidOut, IsProgram}
use Rattle.table_defs.specs.Order.{PlainPointsAscend}
use Rattle.machine_defs.specs.Allowances.{Allowances, EntersFunctions}
use Rattle.program_check.specs.declared.allowance_table.AllowanceTable.{AllowanceTable}
use Rattle.program_check.specs.Allows.{Allows}
use Rattle.program_graph.specs.declared.parts.GraphParts.{GraphParts}
use Rattle.program_graph.specs.Tells.{Tells}
use Rattle.flow_defs.specs.Program.{program_of}
use Rattle.object_law.specs.Flows.{ObjectIsInOrder}
use Rattle.object_check.specs.Order.{IsInOrder}
use Rattle.object_check.specs.Outcome.{AreWarnings, HasRows, IsUnbroken}
use Rattle.object_check.specs.declared.counts.CodeCounts.{CodeCounts}
use Rattle.object_check.specs.declared.outcome.ObjectVerdict.{ObjectVerdict}
use Rattle.object_check.specs.declared.outcome.ObjectVerdict.TheVariants.{Accepted, Broken}

-- The graph is that of the object's program under the lists of names, and the object is in order.
pub record IsGraphOf (o : Coded) (lists : NameLists) (parts : GraphParts) : Type 0 where
  pub tells : Tells (program_of o lists) parts
  pub in_order : IsInOrder o lists
  pub object : ObjectIsInOrder o

-- The graph tells a program that is one as the laws ask, whose instructions lie in order, and which has functions.
pub record IsReady (p : Program) (parts : GraphParts) : Type 0 where
  pub tells : Tells p parts
  pub is_program : IsProgram p
  pub laid : IsLaidOut p
  pub ascending : PlainPointsAscend p
  pub functions : EntersFunctions p

-- the table, if there is one, tells what is allowed at the program's points
abbrev pub IsTableOf : Program → Allowances → Option AllowanceTable → Type 0
IsTableOf p allowed table = IfSome table (λ t. Allows allowed t p.count)

-- sites end where a file may
abbrev pub HasSmallSites : GraphParts → Type 0
HasSmallSites parts = All (λ site. site.len < 2 ^ 63) parts.sites.items

-- what the check of a program comes to, whose object has so much code
abbrev pub IsOutcomeOf : Program → Allowances → Options → CodeCounts → ObjectVerdict → Type 0
IsOutcomeOf p allowed options counts (Accepted rows told) = IsUnbroken p allowed options × HasRows p rows.items × (told ≡ counts)
IsOutcomeOf p allowed options counts (Broken warnings) = AreWarnings p allowed options warnings.items
