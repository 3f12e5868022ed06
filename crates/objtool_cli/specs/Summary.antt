-- The check of bytes that no file holds, and of an object that is made up, told by one line.
use Rattle.std.specs.Prelude.{◌≡◌, ◌⊎◌, ℕ, List, [], ◌++◌, Option, codes, length}
use Rattle.std.specs.Fmt.{decimal}
use Rattle.ot_base.specs.NameLists.{built_in}
use Rattle.cli_words.specs.declared.options.CheckOptions.{CheckOptions}
use Rattle.ot_base.specs.declared.row.PlacedRow.{PlacedRow}
use Rattle.ot_base.specs.declared.warning.Warning.{Warning}
use Rattle.ot_files.specs.Output.{appending}
use Rattle.cli_words.specs.Grammar.{options_in}
use Rattle.elf_objects.specs.Elf.{Elf}
use Rattle.elf_objects.specs.Object.{IsObject}
use Rattle.demo_objects.specs.Demo.{demo_spec}
use Rattle.demo_objects.specs.Made.{made}
use Rattle.flow_defs.specs.Coded.{coded_by}
use Rattle.object_check.specs.Counts.{IsCounted}
use Rattle.object_check.specs.Order.{IsCheckable}
use Rattle.object_check.specs.Outcome.{HasRows, IsUnbroken}
use Rattle.object_check.specs.declared.counts.CodeCounts.{CodeCounts}
use Rattle.command_base.specs.declared.refusal.Refusal.{Refusal}
use Rattle.command_base.specs.declared.status.Status.{Status}
use Rattle.command_base.specs.declared.status.Status.TheVariants as status
use Rattle.command_base.specs.declared.stop.CommandStop.{CommandStop}
use Rattle.command_base.specs.declared.stop.CommandStop.TheVariants as stop
use Rattle.command_base.specs.Outside.{Output}
use Rattle.command_base.specs.Printing.{Concludes, Prints}
use Rattle.command_base.specs.Stop.{line_of}
use Rattle.objtool_cli.specs.Checked.{HasWarnings, IsUncheckable, IsUncheckableStop, allowances_under, program_under}
use Rattle.command_base.specs.Warnings.{warnings_text}

-- the options of `check` where none is given
abbrev pub no_options : CheckOptions
no_options = options_in []

-- how much code an object has, and how many rows
unfoldable pub numbers_text : CodeCounts → ℕ → List ℕ
numbers_text counts rows =
    codes "functions " ++ decimal counts.functions ++ codes ", instructions " ++ decimal counts.instructions ++ codes ", rows " ++ decimal rows ++ codes ", text bytes " ++ decimal counts.text_bytes

-- the line of an object that breaks no rule: a title, and these numbers
unfoldable pub summary_line : List ℕ → CodeCounts → ℕ → List ℕ
summary_line title counts rows = title ++ codes ": " ++ numbers_text counts rows ++ codes "\n"

-- These bytes are an object that is checked and breaks no rule, under the built-in lists of names and with no options. It
-- has so much code, and its program so many rows.
pub record Passes (bytes : List ℕ) (counts : CodeCounts) (rows : ℕ) : Type 0 where
  pub object : Elf
  pub is : IsObject bytes object
  pub checkable : IsCheckable (coded_by no_options.map object) built_in
  pub unbroken : IsUnbroken (program_under no_options built_in object) (allowances_under no_options built_in object) no_options.rules
  pub counted : IsCounted (coded_by no_options.map object) counts
  pub all : List PlacedRow
  pub has_rows : HasRows (program_under no_options built_in object) all
  pub so_many : rows ≡ length all

-- How the check of these bytes ends: they break no rule, and the line with the title is printed; or they break rules, and the
-- lines of all warnings are; or they can't be checked, and it is told why.
pub data SumsUp (title bytes : List ℕ) (out out' : Output) : Status → Type 0 where
  passed : {s : Status} (counts : CodeCounts) (rows : ℕ) → Passes bytes counts rows → Prints status.Done (summary_line title counts rows) out out' s → SumsUp title bytes out out' s
  warned :
      {s : Status} (o : Elf) (warnings : List Warning)
      → HasWarnings bytes built_in no_options o warnings
      → Prints status.Warnings (warnings_text o warnings) out out' s
      → SumsUp title bytes out out' s
  stopped : {s : Status} (stop : CommandStop) → IsUncheckableStop no_options.map bytes built_in stop → Concludes stop out out' s → SumsUp title bytes out out' s

-- these bytes break rules, these are all warnings, and exactly their lines were printed
pub record PrintsWarningsOf (bytes : List ℕ) (before after : Option (List ℕ)) : Type 0 where
  pub object : Elf
  pub warnings : List Warning
  pub warns : HasWarnings bytes built_in no_options object warnings
  pub printed : after ≡ appending before (warnings_text object warnings)

-- these bytes break no rule, and exactly their line was printed
pub record PrintsSummary (title bytes : List ℕ) (before after : Option (List ℕ)) : Type 0 where
  pub counts : CodeCounts
  pub rows : ℕ
  pub passes : Passes bytes counts rows
  pub printed : after ≡ appending before (summary_line title counts rows)

-- these bytes can't be checked, and exactly the line that says why was printed
pub record PrintsRefusal (bytes : List ℕ) (before after : Option (List ℕ)) : Type 0 where
  pub refusal : Refusal
  pub uncheckable : IsUncheckable no_options.map bytes built_in refusal
  pub printed : after ≡ appending before (line_of (stop.Refused refusal))

-- what may be answered in place of a status: a fault of the output, or want of memory
abbrev pub IsOrFails : Status → Status → Type 0
IsOrFails end s = (s ≡ end) ⊎ ((s ≡ status.SinkFault) ⊎ (s ≡ status.NoMemory))

-- the object of so many functions that is made up, and its title
abbrev pub demo_bytes : ℕ → List ℕ
demo_bytes n = made (demo_spec n)

abbrev pub demo_title : ℕ → List ℕ
demo_title n = codes "demo " ++ decimal n
