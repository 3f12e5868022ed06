-- How the warnings of an object are told.
use Rattle.std.specs.Prelude.{◌≡◌, ℕ, true, false, List, Option}
use Rattle.ot_base.specs.NameLists.{NameLists}
use Rattle.ot_base.specs.declared.warning.Warning.{Warning}
use Rattle.cli_words.specs.declared.options.CheckOptions.{CheckOptions}
use Rattle.elf_objects.specs.Elf.{Elf}
use Rattle.flow_defs.specs.Coded.{coded_by}
use Rattle.state_defs.specs.declared.state.State.{State}
use Rattle.machine_defs.specs.Kept.{AreKeptStates}
use Rattle.command_base.specs.declared.status.Status.{Status}
use Rattle.command_base.specs.declared.status.Status.TheVariants as status
use Rattle.command_base.specs.declared.stop.CommandStop.{CommandStop}
use Rattle.command_base.specs.Outside.{Output}
use Rattle.command_base.specs.Printing.{Concludes, Prints}
use Rattle.command_base.specs.Warnings.{warnings_text}
use Rattle.command_base.specs.BacktraceText.{AreBacktraced}
use Rattle.objtool_cli.specs.Checked.{IsUnchecked, program_under}

-- The text of the warnings of the object of IN under its lists of names: a line for each; and where `backtrace` is asked for, behind each
-- line a backtrace of it, by the states that are kept in the object's program.
pub data IsText (input : List ℕ) (options : CheckOptions) (lists : NameLists) (o : Elf) (warnings : List Warning) : List ℕ → Type 0 where
  lines : options.backtrace ≡ false → IsText input options lists o warnings (warnings_text o warnings)
  backtraces :
      {text : List ℕ} (states : ℕ → Option State)
      → options.backtrace ≡ true
      → AreKeptStates (program_under options lists o) states
      → AreBacktraced o input (program_under options lists o) states warnings text
      → IsText input options lists o warnings text

-- Such a text of them was to be printed; or the code of the object isn't read again, which is told. Want of memory says nothing of it.
pub data TellsWarnings (input : List ℕ) (options : CheckOptions) (lists : NameLists) (o : Elf) (warnings : List Warning) (before after : Output) : Status → Type 0 where
  printed : {s : Status} (text : List ℕ) → IsText input options lists o warnings text → Prints status.Warnings text before after s → TellsWarnings input options lists o warnings before after s
  unread : {s : Status} (stop : CommandStop) → IsUnchecked (coded_by options.map o) lists stop → Concludes stop before after s → TellsWarnings input options lists o warnings before after s
