-- Which commands are refused on files that hold this, and why: what the first step finds that fails, in the order of the steps.
-- Faults of files and of the output, and want of memory, are no refusals.
use Rattle.std.specs.Prelude.{◌≡◌, ◌≢◌, ℕ, List, Option, Ok}
use Rattle.ot_base.specs.NameLists.{built_in}
use Rattle.ot_files.specs.Content.{Content, reading}
use Rattle.cli_words.specs.Grammar.{Command, cfa, cfi, check, demo, dump, entry, explain, find, help, list, merge, show, sites, unwind, version}
use Rattle.cli_words.specs.declared.options.CheckOptions.{CheckOptions}
use Rattle.elf_objects.specs.declared.TheConstants.{MAX_FILE_BYTES}
use Rattle.command_base.specs.declared.reading.TheConstants.{MAX_IMAGE_BYTES}
use Rattle.command_base.specs.declared.stop.CommandStop.{CommandStop}
use Rattle.command_base.specs.declared.stop.CommandStop.TheVariants.{Refused, NoMemory}
use Rattle.command_base.specs.Dump.{HoldsNoRows}
use Rattle.command_base.specs.Reading.{IsUnreadable}
use Rattle.command_base.specs.Refusing.{Tells}
use Rattle.command_base.specs.Unwind.{HasNoWalk}
use Rattle.command_base.specs.Inputs.{RefusesInput}
use Rattle.objtool_cli.specs.Checked.{IsRefusal, IsUncheckable}
use Rattle.code_commands.specs.SitesRefused.{RefusesSites}
use Rattle.code_commands.specs.SitesWords.{list_options}
use Rattle.command_base.specs.ListRefused.{RefusesList}
use Rattle.code_commands.specs.EntryRefused.{RefusesEntry}
use Rattle.objtool_cli.specs.FramesRefused.{RefusesCfi}
use Rattle.command_base.specs.CfaRefused.{RefusesCfa}
use Rattle.command_base.specs.MergeRefused.{RefusesFind, RefusesMerge}
use Rattle.code_commands.specs.ShowRefused.{RefusesShow}
use Rattle.objtool_cli.specs.Summary.{demo_bytes, no_options}
use Rattle.objtool_cli.specs.Words.{Meaning}

-- `check IN OUT`: IN is read; then the names file, where one is given, and its lines; then the bytes of IN are parsed, their code
-- is read and checked, and the tables are made of what breaks no rule.
abbrev pub RefusesCheck : List ℕ → CheckOptions → Option (List ℕ) → Content → CommandStop → Type 0
RefusesCheck input options names held = RefusesInput (λ read lists stop. IsRefusal read lists options stop) input names held

-- `dump FILE`: FILE is read and parsed, and then its ORC sections are.
pub data RefusesDump (file : List ℕ) (held : Content) : CommandStop → Type 0 where
  object_unread : {stop : CommandStop} → IsUnreadable MAX_FILE_BYTES held file stop → RefusesDump file held stop
  without_rows :
      {stop : CommandStop} (bytes : List ℕ)
      → reading held file MAX_FILE_BYTES ≡ Ok bytes
      → HoldsNoRows bytes stop
      → stop ≢ NoMemory
      → RefusesDump file held stop

-- `unwind FILE IMAGE`: FILE is read, and then IMAGE; the lines of IMAGE are parsed, and the rows of FILE; and the rows are placed as
-- IMAGE says.
pub data RefusesUnwind (file image : List ℕ) (held : Content) : CommandStop → Type 0 where
  tables_unread : {stop : CommandStop} → IsUnreadable MAX_FILE_BYTES held file stop → RefusesUnwind file image held stop
  image_unread :
      {stop : CommandStop} (bytes : List ℕ)
      → reading held file MAX_FILE_BYTES ≡ Ok bytes
      → IsUnreadable MAX_IMAGE_BYTES held image stop
      → RefusesUnwind file image held stop
  without_walk :
      {stop : CommandStop} (bytes text : List ℕ)
      → reading held file MAX_FILE_BYTES ≡ Ok bytes
      → reading held image MAX_IMAGE_BYTES ≡ Ok text
      → HasNoWalk bytes text stop
      → stop ≢ NoMemory
      → RefusesUnwind file image held stop

-- `demo N`: the object that it makes can't be checked
abbrev pub RefusesDemo : ℕ → CommandStop → Type 0
RefusesDemo n (Refused refusal) = IsUncheckable no_options.map (demo_bytes n) built_in refusal
RefusesDemo n _ = ⊥

-- A command is refused on files that hold this, and this is why. `explain`, `--help` and `--version` never are.
abbrev pub RefusesAs : Command → Content → CommandStop → Type 0
RefusesAs (check input output options names) held stop = RefusesCheck input options names held stop
RefusesAs (dump file) held stop = RefusesDump file held stop
RefusesAs (unwind file image) held stop = RefusesUnwind file image held stop
RefusesAs (sites input output options map names) held stop = RefusesSites (list_options options) map input names held stop
RefusesAs (list file) held stop = RefusesList file held stop
RefusesAs (entry input rules map names) held stop = RefusesEntry map input names held stop
RefusesAs (cfi input output map names) held stop = RefusesCfi map input names held stop
RefusesAs (cfa file) held stop = RefusesCfa file held stop
RefusesAs (merge layout output) held stop = RefusesMerge layout held stop
RefusesAs (find table address) held stop = RefusesFind table held stop
RefusesAs (show input function map names) held stop = RefusesShow map input names function held stop
RefusesAs (explain topic) held stop = ⊥
RefusesAs (demo n) held stop = RefusesDemo n stop
RefusesAs help held stop = ⊥
RefusesAs version held stop = ⊥

-- the command that the words mean is refused, and this is why
pub record IsRefused (meaning : Meaning) (held : Content) (stop : CommandStop) : Type 0 where
  pub command : Command
  pub is : meaning ≡ Ok command
  pub why : RefusesAs command held stop

-- the command is refused, and exactly the line that says why was printed
abbrev pub TellsRefusal : Meaning → Content → Option (List ℕ) → Option (List ℕ) → Type 0
TellsRefusal meaning held before after = Tells (IsRefused meaning held) before after
