-- The verdict of a check under its options.
use Rattle.std.specs.Prelude.{◌≡◌, ◌↔◌, ℕ, ◌<◌, List, Option, IfSome, AllPairs, Contains, ℤ, length}
use Rattle.ot_base.specs.declared.options.Options.{Options}
use Rattle.ot_base.specs.declared.place.Place.{Place}
use Rattle.ot_base.specs.declared.warning.Warning.{Warning}
use Rattle.state_defs.specs.declared.state.State.{State}
use Rattle.machine_defs.specs.Program.{Program}
use Rattle.machine_defs.specs.Broken.{IsAccepted, IsBroken}
use Rattle.machine_defs.specs.Allowances.{Allowances, EntersFunctions}
use Rattle.machine_defs.specs.Asked.{IsClean, IsWarned}
use Rattle.program_graph.specs.declared.parts.GraphParts.{GraphParts}
use Rattle.stack_rules.specs.Before.{ComesBefore}
use Rattle.program_check.specs.Checkable.{IsPrepared}
use Rattle.program_check.specs.declared.allowance_table.AllowanceTable.{AllowanceTable}
use Rattle.program_check.specs.Allows.{Allows}
use Rattle.program_check.specs.declared.option_verdict.OptionVerdict.{OptionVerdict}
use Rattle.program_check.specs.declared.option_verdict.OptionVerdict.TheVariants.{Clean, Warned}

-- A program that a check under options may be asked of: with its graph and its kept states, and with its functions; and the
-- table, if there is one, tells what is allowed.
pub record IsAskable (p : Program) (allowed : Allowances) (parts : GraphParts) (states : List (Option State)) (table : Option AllowanceTable) : Type 0 where
  pub checkable : IsPrepared p parts states
  pub functions : EntersFunctions p
  pub allows : IfSome table (λ t. Allows allowed t p.count)

-- no rule of the stack is broken
pub record IsUnbroken (p : Program) (options : Options) : Type 0 where
  pub accepted : IsAccepted p
  pub unbroken : (place : Place) (rule : ℕ) (a b : ℤ) → IsBroken p options place rule a b → ⊥

-- nothing is warned of, and what is checked is what was given
pub record IsFoundClean (p : Program) (allowed : Allowances) (options : Options) (parts checked : GraphParts) (states checked_states : List (Option State)) : Type 0 where
  pub graph : checked ≡ parts
  pub kept : checked_states ≡ states
  pub accepted : IsAccepted p
  pub clean : IsClean p allowed options

-- these are all warnings, each once and in order
abbrev pub AreWarned : Program → Allowances → Options → List Warning → Type 0
AreWarned p allowed options warnings = (w : Warning) → Contains warnings w ↔ IsWarned p allowed options w.place w.rule w.a w.b

-- something is warned of
pub record IsFoundBroken (p : Program) (allowed : Allowances) (options : Options) (warnings : List Warning) : Type 0 where
  pub some : 0 < length warnings
  pub ascending : AllPairs ComesBefore warnings
  pub all : AreWarned p allowed options warnings

abbrev pub IsVerdict : Program → Allowances → Options → GraphParts → List (Option State) → OptionVerdict → Type 0
IsVerdict p allowed options parts states (Clean checked) = IsFoundClean p allowed options parts checked.graph.parts states checked.kept
IsVerdict p allowed options parts states (Warned warnings) = IsFoundBroken p allowed options warnings.items
