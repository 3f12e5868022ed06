-- What the check of an object comes to.
use Rattle.std.specs.Prelude.{◌≡◌, ◌≢◌, ℕ, ◌↔◌, List, [], Option, AllPairs, Contains}
use Rattle.ot_base.specs.declared.options.Options.{Options}
use Rattle.ot_base.specs.declared.row.PlacedRow.{PlacedRow}
use Rattle.ot_base.specs.declared.warning.Warning.{Warning}
use Rattle.ot_base.specs.NameLists.{NameLists}
use Rattle.flow_defs.specs.Coded.{Coded}
use Rattle.state_defs.specs.declared.state.State.{State}
use Rattle.machine_defs.specs.Program.{Program}
use Rattle.machine_defs.specs.Kept.{AreKeptStates}
use Rattle.machine_defs.specs.Broken.{IsAccepted}
use Rattle.machine_defs.specs.Allowances.{Allowances}
use Rattle.machine_defs.specs.Asked.{IsClean, IsWarned}
use Rattle.machine_defs.specs.Rows.{rows_of}
use Rattle.flow_defs.specs.Program.{program_of}
pub use Rattle.object_check.specs.Allowances.{allowances_of}
use Rattle.stack_rules.specs.Before.{ComesBefore}
use Rattle.object_check.specs.Counts.{IsCounted}
use Rattle.object_check.specs.Order.{IsCheckable}
use Rattle.object_check.specs.declared.outcome.ObjectVerdict.{ObjectVerdict}
use Rattle.object_check.specs.declared.outcome.ObjectVerdict.TheVariants.{Accepted, Broken}

-- no rule is broken, of those that are always asked for and of those that the options ask for
pub record IsUnbroken (p : Program) (allowed : Allowances) (options : Options) : Type 0 where
  pub accepted : IsAccepted p
  pub clean : IsClean p allowed options

-- the rows are those of the program's kept states
pub record HasRows (p : Program) (rows : List PlacedRow) : Type 0 where
  pub states : ℕ → Option State
  pub kept : AreKeptStates p states
  pub is : rows ≡ rows_of p states

-- there are warnings, and these are they: each once, ascending by section, offset, rule and numbers
pub record AreWarnings (p : Program) (allowed : Allowances) (options : Options) (warnings : List Warning) : Type 0 where
  pub some : warnings ≢ []
  pub ascend : AllPairs ComesBefore warnings
  pub all : (w : Warning) → Contains warnings w ↔ IsWarned p allowed options w.place w.rule w.a w.b

-- The object is checked. Its program, under the lists of names, breaks no rule that is asked for, the rows are the
-- program's, and the object has so much code; or the program breaks some, and the warnings are exactly these.
abbrev pub IsOutcome : Coded → NameLists → Options → ObjectVerdict → Type 0
IsOutcome o lists options (Accepted rows counts) = IsCheckable o lists × IsUnbroken (program_of o lists) (allowances_of o lists options) options × HasRows (program_of o lists) rows.items × IsCounted o counts
IsOutcome o lists options (Broken warnings) = IsCheckable o lists × AreWarnings (program_of o lists) (allowances_of o lists options) options warnings.items

-- what holds of the rows, where it is accepted
abbrev pub OnAccepted : ObjectVerdict → (List PlacedRow → Type 0) → Type 0
OnAccepted (Accepted rows counts) P = P rows.items
OnAccepted (Broken warnings) P = Unit {0}
