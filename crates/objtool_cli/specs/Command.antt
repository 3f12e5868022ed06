-- What the commands do, on whatever their files hold, and how they end.
use Rattle.std.specs.Prelude.{◌≡◌, ◌⊎◌, ℕ, List, Option, Ok, Err}
use Rattle.ot_files.specs.Content.{Content, ChangesAtMost, writing}
use Rattle.ot_files.specs.Output.{appending}
use Rattle.elf_objects.specs.Elf.{Elf}
use Rattle.elf_objects.specs.declared.TheConstants.{MAX_FILE_BYTES}
use Rattle.command_base.specs.declared.status.Status.{Status}
use Rattle.command_base.specs.declared.status.Status.TheVariants as status
use Rattle.command_base.specs.declared.stop.CommandStop.{CommandStop}
use Rattle.command_base.specs.declared.stop.CommandStop.TheVariants.{Usage, NoMemory}
use Rattle.command_base.specs.Outside.{Outside, Output}
use Rattle.command_base.specs.Stop.{usage_at}
use Rattle.command_base.specs.Printing.{Concludes, Prints}
use Rattle.command_base.specs.Reading.{MayRead, StopsAtRead}
use Rattle.command_base.specs.Dump.{EndsDump}
use Rattle.command_base.specs.Unwind.{EndsUnwind}
use Rattle.objtool_cli.specs.Checked.{Accepts, HasWarnings, IsRefusal}
use Rattle.objtool_cli.specs.Promises.{InKeepsPromises}
use Rattle.objtool_cli.specs.Telling.{IsText}
use Rattle.objtool_cli.specs.Unwinding.{OutUnwinds}
use Rattle.x86_map.specs.declared.map.Map.{Map}
use Rattle.cli_words.specs.Grammar.{Command, cfa, cfi, check, demo, dump, entry, explain, find, help, list, merge, show, sites, unwind, version}
use Rattle.cli_matches.specs.Texts.{help_text, version_text}
use Rattle.cli_words.specs.declared.fault.UsageKind.{UsageKind}
use Rattle.ot_base.specs.NameLists.{NameLists}
use Rattle.cli_words.specs.declared.options.CheckOptions.{CheckOptions}
use Rattle.ot_base.specs.declared.warning.Warning.{Warning}
use Rattle.command_base.specs.Names.{StopsAtNames}
use Rattle.objtool_cli.specs.Summary.{PrintsWarningsOf, SumsUp, demo_bytes, demo_title}
use Rattle.cli_words.specs.declared.options.EntryRules.{EntryRules}
use Rattle.code_commands.specs.EntryWords.{entry_options}
use Rattle.objtool_cli.specs.Words.{Meaning, explained}
use Rattle.command_base.specs.Writing.{StopsAtWrite}
use Rattle.code_commands.specs.Sites.{EndsSites, SitesMayChange}
use Rattle.code_commands.specs.SitesWords.{list_options}
use Rattle.command_base.specs.List.{EndsList}
use Rattle.code_commands.specs.Entry.{EndsEntry, PrintsEntryWarnings}
use Rattle.objtool_cli.specs.Cfi.{CfiMayChange, EndsCfi, TellsWarnings}
use Rattle.command_base.specs.Cfa.{EndsCfa}
use Rattle.command_base.specs.Merge.{EndsMerge, MayBeMerged}
use Rattle.command_base.specs.Find.{EndsFind}
use Rattle.code_commands.specs.Show.{EndsShow}
use Rattle.command_base.specs.Inputs.{IsRead}

-- the file may read as bytes that are accepted, and for which these are to be written
pub record MayBeAccepted (content : Option Content) (input : List ℕ) (options : CheckOptions) (names : Option (List ℕ)) (table : List ℕ) : Type 0 where
  pub read : List ℕ
  pub lists : NameLists
  pub is_read : IsRead content input names read lists
  pub accepts : Accepts read lists options table

-- the file may read as the bytes of this object, which breaks rules: these are all warnings, and this is the text of them
pub record MayBeWarned (content : Option Content) (input : List ℕ) (options : CheckOptions) (names : Option (List ℕ)) (o : Elf) (warnings : List Warning) (text : List ℕ) : Type 0 where
  pub read : List ℕ
  pub lists : NameLists
  pub is_read : IsRead content input names read lists
  pub warns : HasWarnings read lists options o warnings
  pub told : IsText input options lists o warnings text

-- `check` is done: IN was accepted, OUT holds its bytes with the tables, which unwind it, and every other name what it
-- held; and IN keeps what the options promise.
pub record IsDone (input output : List ℕ) (options : CheckOptions) (names : Option (List ℕ)) (before after : Outside) : Type 0 where
  pub table : List ℕ
  pub accepted : MayBeAccepted before.content input options names table
  pub written : after.content ≡ writing before.content output table
  pub unwinds : OutUnwinds options.map input output names before.content after.content
  pub keeps : InKeepsPromises input options names before.content

-- How `check` stops, and what stands then. Where IN or the names file isn't read, a line of the names file isn't in order,
-- the bytes of IN are refused or memory runs out before OUT is written, no file has changed. Only where IN was accepted and
-- then writing OUT didn't come to its end is it open what OUT holds; every other name holds what it held.
pub data Stops (input output : List ℕ) (options : CheckOptions) (names : Option (List ℕ)) (before after : Outside) : CommandStop → Type 0 where
  unread : {stop : CommandStop} → StopsAtRead MAX_FILE_BYTES input before after stop → after.content ≡ before.content → Stops input output options names before after stop
  without_names :
      {stop : CommandStop} (read : List ℕ)
      → MayRead MAX_FILE_BYTES before.content input (Ok read)
      → StopsAtNames names before after stop
      → after.content ≡ before.content
      → Stops input output options names before after stop
  refused :
      {stop : CommandStop} (read : List ℕ) (lists : NameLists)
      → IsRead before.content input names read lists
      → IsRefusal read lists options stop
      → after.content ≡ before.content
      → Stops input output options names before after stop
  unwritten :
      {stop : CommandStop} (table : List ℕ)
      → MayBeAccepted before.content input options names table
      → StopsAtWrite output before after stop
      → ChangesAtMost output before.content after.content
      → Stops input output options names before after stop

-- How `check` ends: it is done, and has printed nothing; or IN breaks rules, and it prints the text of all warnings and changes
-- no file; or it stops, and tells why.
pub data EndsCheck (input output : List ℕ) (options : CheckOptions) (names : Option (List ℕ)) (before after : Outside) (out out' : Output) : Status → Type 0 where
  done : IsDone input output options names before after → out' ≡ out → EndsCheck input output options names before after out out' status.Done
  warned :
      {s : Status} {text : List ℕ} (o : Elf) (warnings : List Warning)
      → MayBeWarned before.content input options names o warnings text
      → after.content ≡ before.content
      → Prints status.Warnings text out out' s
      → EndsCheck input output options names before after out out' s
  stopped : {s : Status} (stop : CommandStop) → Stops input output options names before after stop → Concludes stop out out' s → EndsCheck input output options names before after out out' s

-- no file has changed
abbrev pub Kept : Outside → Outside → Type 0
Kept before after = after.content ≡ before.content

-- How a command ends. Those that write no file change none; `demo N` sums up the object that it makes; `explain`, `--help` and
-- `--version` print their texts.
abbrev pub EndsAs : Command → Outside → Outside → Output → Output → Status → Type 0
EndsAs (check input output options names) before after out out' s = EndsCheck input output options names before after out out' s
EndsAs (dump file) before after out out' s = EndsDump file before after out out' s × Kept before after
EndsAs (unwind file image) before after out out' s = EndsUnwind file image before after out out' s × Kept before after
EndsAs (sites input output options map names) before after out out' s = EndsSites (list_options options) map input output names before after out out' s
EndsAs (list file) before after out out' s = EndsList file before after out out' s × Kept before after
EndsAs (entry input rules map names) before after out out' s = EndsEntry map (entry_options rules) input names before after out out' s × Kept before after
EndsAs (cfi input output map names) before after out out' s = EndsCfi map input output names before after out out' s
EndsAs (cfa file) before after out out' s = EndsCfa file before after out out' s × Kept before after
EndsAs (merge layout output) before after out out' s = EndsMerge layout output before after out out' s
EndsAs (find table address) before after out out' s = EndsFind table address before after out out' s × Kept before after
EndsAs (show input function map names) before after out out' s = EndsShow map input names function before after out out' s × Kept before after
EndsAs (explain topic) before after out out' s = (after ≡ before) × Prints status.Done (explained topic) out out' s
EndsAs (demo n) before after out out' s = (after ≡ before) × SumsUp (demo_title n) (demo_bytes n) out out' s
EndsAs help before after out out' s = (after ≡ before) × Prints status.Done help_text out out' s
EndsAs version before after out out' s = (after ≡ before) × Prints status.Done version_text out out' s

-- How the words end that mean this: words at fault are told, and nothing else is done; a command ends as it does. Memory may run out
-- while the words are read.
pub data Ends (meaning : Meaning) (before after : Outside) (out out' : Output) : Status → Type 0 where
  faulty : {s : Status} (word : ℕ) (kind : UsageKind) → meaning ≡ Err (word, kind) → after ≡ before → Concludes (Usage (usage_at word kind)) out out' s → Ends meaning before after out out' s
  unfinished : {s : Status} → after ≡ before → Concludes NoMemory out out' s → Ends meaning before after out out' s
  ended : {s : Status} (command : Command) → meaning ≡ Ok command → EndsAs command before after out out' s → Ends meaning before after out out' s

-- What stands outside of a command: its files, and its output.
pub record World : Type 0 where
  pub files : Outside
  pub output : Output

-- such a world: what the files tell of their content, and their count of faults; what was written to the output, and its count
abbrev pub world_of : Option Content → ℕ → Option (List ℕ) → ℕ → World
world_of content faults written failed = record {
  files = record { content = content; faults = faults };
  output = record { written = written; faults = failed };
}

-- how the words that mean this change the world, and end
abbrev pub EndsIn : Meaning → World → World → Status → Type 0
EndsIn meaning before after s = Ends meaning before.files after.files before.output after.output s

-- A command has come to writing OUT, every step before has passed, and only OUT has changed: of `check` IN was accepted, of `sites`
-- it gets site lists, of `cfi` call frame information, and of `merge` nothing hinders that the rows are merged. No other command
-- writes.
abbrev pub ChangesOut : Command → Option Content → Option Content → Type 0
ChangesOut (check input output options names) before after = (table : List ℕ) × (MayBeAccepted before input options names table × ChangesAtMost output before after)
ChangesOut (sites input output options map names) before after = SitesMayChange (list_options options) map input output names before after
ChangesOut (cfi input output map names) before after = CfiMayChange map input output names before after
ChangesOut (merge layout output) before after = MayBeMerged layout before × ChangesAtMost output before after
ChangesOut _ before after = ⊥

-- the words mean a command that may have changed a file so
pub record MayChange (meaning : Meaning) (before after : Option Content) : Type 0 where
  pub command : Command
  pub is : meaning ≡ Ok command
  pub changes : ChangesOut command before after

-- The command was `check`, `cfi` or `entry`, and IN was read as an object that breaks rules, or it was `demo`, and the object that it makes
-- breaks some; these are all warnings of it, and exactly the text of them was printed.
pub data PrintsWarnings (meaning : Meaning) (content : Option Content) (before after : Option (List ℕ)) : Type 0 where
  of_check :
      {text : List ℕ} (input output : List ℕ) (options : CheckOptions) (names : Option (List ℕ)) (o : Elf) (warnings : List Warning)
      → meaning ≡ Ok (check input output options names)
      → MayBeWarned content input options names o warnings text
      → after ≡ appending before text
      → PrintsWarnings meaning content before after
  of_cfi :
      (input output : List ℕ) (map : Map) (names : Option (List ℕ))
      → meaning ≡ Ok (cfi input output map names)
      → TellsWarnings map input names content before after
      → PrintsWarnings meaning content before after
  of_entry :
      (input : List ℕ) (rules : EntryRules) (map : Map) (names : Option (List ℕ))
      → meaning ≡ Ok (entry input rules map names)
      → PrintsEntryWarnings map (entry_options rules) input names content before after
      → PrintsWarnings meaning content before after
  of_demo : (n : ℕ) → meaning ≡ Ok (demo n) → PrintsWarningsOf (demo_bytes n) before after → PrintsWarnings meaning content before after

-- the words are at fault
pub data IsFaulty (meaning : Meaning) : Type 0 where
  at_fault : (word : ℕ) (kind : UsageKind) → meaning ≡ Err (word, kind) → IsFaulty meaning

-- what such words are answered by
abbrev pub IsUsageAnswer : Status → Type 0
IsUsageAnswer s = (s ≡ status.Usage) ⊎ ((s ≡ status.SinkFault) ⊎ (s ≡ status.NoMemory))
