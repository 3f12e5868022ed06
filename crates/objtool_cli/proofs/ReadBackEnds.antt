-- What follows from how `dump` and `unwind` end.
use Rattle.std.proofs.Common.{◌≡◌, ℕ, List, inl, inr}
use Rattle.std.specs.Prelude.{◌⊎◌, Option, Some, None, Ok}
use Rattle.ot_files.specs.Content.{Content, reading}
use Rattle.command_base.specs.declared.status.Status.{Status}
use Rattle.command_base.specs.declared.status.Status.TheVariants.{Done, FileFault, NoMemory}
use Rattle.command_base.specs.declared.stop.CommandStop.TheVariants as stop
use Rattle.command_base.specs.Outside.{Outside, Output}
use Rattle.command_base.specs.Printing.{Concludes}
use Rattle.command_base.proofs.ConcludeLemmas.{concluded_no_memory}
use Rattle.elf_objects.specs.declared.TheConstants.{MAX_FILE_BYTES}
use Rattle.objtool_cli.specs.Command.{Ends}
use Rattle.cli_words.specs.Grammar.{cfa, cfi, dump, entry, find, list, merge, show, sites, unwind}
use Rattle.code_commands.specs.EntryWords.{entry_options}
use Rattle.objtool_cli.specs.Words.{Meaning}
use Rattle.cli_words.specs.declared.options.EntryRules.{EntryRules}
use Rattle.command_base.specs.Code.{IsInOrder}
use Rattle.code_commands.specs.Entry.{BreaksEntryRule, IsUnbroken}
use Rattle.code_commands.proofs.EntryLaws.{entry_accepts, entry_warns}
use Rattle.ot_base.specs.declared.row.PlacedRow.{PlacedRow}
use Rattle.elf_objects.specs.Elf.{Elf}
use Rattle.command_base.specs.Dump.{HoldsRows, IsAnswered, IsDumped}
use Rattle.orc_walk.specs.ImageFile.{StackImage}
use Rattle.command_base.specs.declared.reading.TheConstants.{MAX_IMAGE_BYTES}
use Rattle.command_base.specs.Unwind.{IsPlaced, IsUnwound}
use Rattle.command_base.proofs.UnwindLaws.{unwind_left, unwound as files_unwound}
use Rattle.command_base.proofs.DumpLaws.{dump_left, dumped as file_dumped}
use Rattle.ot_base.specs.NameLists.{NameLists}
use Rattle.elf_objects.specs.Object.{IsObject}
use Rattle.flow_defs.specs.Coded.{coded_by}
use Rattle.x86_map.specs.declared.map.Map.{Map}
use Rattle.x86_decode.specs.Decoding.{OneOutcome}
use Rattle.command_base.specs.Names.{HasNames}
use Rattle.site_lists.specs.Listed.{Listed}
use Rattle.code_commands.specs.SitesOrder.{GetsSites}
use Rattle.command_base.specs.List.{HoldsLists}
use Rattle.command_base.proofs.ListLaws.{list_left}
use Rattle.code_commands.specs.SitesWords.{list_options}
use Rattle.cli_words.specs.declared.options.SiteOptions.{SiteOptions}
use Rattle.code_commands.proofs.SitesLaws.{sites_left}
use Rattle.eh_frame.specs.declared.rule.PlacedRule.{PlacedRule}
use Rattle.command_base.specs.Cfa.{SaysRules}
use Rattle.objtool_cli.specs.Cfi.{BreaksRule, Gets}
use Rattle.command_base.specs.Refusing.{IsWarnedOrFails}
use Rattle.command_base.proofs.CfaLaws.{cfa_left}
use Rattle.objtool_cli.proofs.CfiLaws.{cfi_left, cfi_warns}
use Rattle.table_defs.specs.Lookup.{AddressedRow}
use Rattle.orc_merge.specs.LayoutFile.{FileSaid}
use Rattle.orc_merge.specs.MergeFaults.{merge_fault}
use Rattle.orc_merge.specs.Merged.{IsMergedTable}
use Rattle.orc_merge.specs.TableBytes.{table_bytes}
use Rattle.orc_merge.specs.declared.part.Part.{Part}
use Rattle.command_base.specs.Layouts.{IsLayoutOf}
use Rattle.command_base.specs.MergedObjects.{ArePartsOf}
use Rattle.command_base.proofs.FindLaws.{find_left}
use Rattle.code_commands.proofs.ShowLaws.{show_accepts}
use Rattle.code_commands.specs.Show.{HasCode}
use Rattle.flow_defs.specs.Program.{program_of}
use Rattle.command_base.proofs.MergeLaws.{merge_left}
use Rattle.objtool_cli.proofs.SameCommand.{done_as, ends_as}

pub rows_dumped : (meaning : Meaning) (before after : Outside) (out out' : Output) (x : Status) (file : List ℕ) → Ends meaning before after out out' x → x ≡ Done → meaning ≡ Ok (dump file) → IsDumped file before.content out.written out'.written
rows_dumped meaning before after out out' x file ends e n = file_dumped file before after out out' x (done_as (dump file) meaning before after out out' x ends e n).0 e

-- what is left where memory runs out
pub no_memory_left : (out out' : Output) (x : Status) → Concludes stop.NoMemory out out' x → IsAnswered x
no_memory_left out out' x t = inr (inr (inr (concluded_no_memory out out' x t)))

pub dump_answered : (meaning : Meaning) (before after : Outside) (out out' : Output) (x : Status) (file bytes : List ℕ) (o : Elf) (rows : List PlacedRow) (content : Content) → Ends meaning before after out out' x → meaning ≡ Ok (dump file) → before.content ≡ Some content → reading content file MAX_FILE_BYTES ≡ Ok bytes → HoldsRows bytes o rows → IsAnswered x
dump_answered meaning before after out out' x file bytes o rows content ends n c r held = elim (ends_as (dump file) meaning before after out out' x ends n) [
  | inl h ↦ dump_left file bytes o rows content before after out out' x c r held h.0
  | inr none ↦ no_memory_left out out' x none.1
]

pub walk_printed : (meaning : Meaning) (before after : Outside) (out out' : Output) (x : Status) (file image : List ℕ) → Ends meaning before after out out' x → x ≡ Done → meaning ≡ Ok (unwind file image) → IsUnwound file image before.content out.written out'.written
walk_printed meaning before after out out' x file image ends e n = files_unwound file image before after out out' x (done_as (unwind file image) meaning before after out out' x ends e n).0 e

pub unwind_answered : (meaning : Meaning) (before after : Outside) (out out' : Output) (x : Status) (file image bytes text : List ℕ) (stack : StackImage) (o : Elf) (rows : List PlacedRow) (content : Content) → Ends meaning before after out out' x → meaning ≡ Ok (unwind file image) → before.content ≡ Some content → reading content file MAX_FILE_BYTES ≡ Ok bytes → reading content image MAX_IMAGE_BYTES ≡ Ok text → IsPlaced bytes text stack o rows → IsAnswered x
unwind_answered meaning before after out out' x file image bytes text stack o rows content ends n c r q placed = elim (ends_as (unwind file image) meaning before after out out' x ends n) [
  | inl h ↦ unwind_left file image bytes text stack o rows content before after out out' x c r q placed h.0
  | inr none ↦ no_memory_left out out' x none.1
]

-- ---- the other commands

pub sites_answered : OneOutcome → (meaning : Meaning) (before after : Outside) (out out' : Output) (x : Status) (input output : List ℕ) (options : SiteOptions) (map : Map) (names : Option (List ℕ)) (read : List ℕ) (o : Elf) (lists : NameLists) (held : Content) → Ends meaning before after out out' x → meaning ≡ Ok (sites input output options map names) → before.content ≡ Some held → reading held input MAX_FILE_BYTES ≡ Ok read → HasNames (Some held) names lists → IsObject read o → GetsSites (list_options options) (coded_by map o) lists → IsAnswered x
sites_answered one meaning before after out out' x input output options map names read o lists held ends n c is named of gets = elim (ends_as (sites input output options map names) meaning before after out out' x ends n) [
  | inl h ↦ sites_left one (list_options options) map input output names read o lists held before after out out' x c is named of gets h
  | inr none ↦ no_memory_left out out' x none.1
]

pub list_answered : (meaning : Meaning) (before after : Outside) (out out' : Output) (x : Status) (file bytes : List ℕ) (o : Elf) (lists : Listed) (held : Content) → Ends meaning before after out out' x → meaning ≡ Ok (list file) → before.content ≡ Some held → reading held file MAX_FILE_BYTES ≡ Ok bytes → HoldsLists bytes o lists → IsAnswered x
list_answered meaning before after out out' x file bytes o lists held ends n c is holds = elim (ends_as (list file) meaning before after out out' x ends n) [
  | inl h ↦ list_left file bytes o lists held before after out out' x c is holds h.0
  | inr none ↦ no_memory_left out out' x none.1
]

pub merge_answered : (meaning : Meaning) (before after : Outside) (out out' : Output) (x : Status) (layout output : List ℕ) (held : Content) (said : List FileSaid) (parts : List Part) → Ends meaning before after out out' x → meaning ≡ Ok (merge layout output) → before.content ≡ Some held → IsLayoutOf (Some held) layout said → ArePartsOf (Some held) said parts → merge_fault parts ≡ None → (x ≡ Done) ⊎ ((x ≡ FileFault) ⊎ (x ≡ NoMemory))
merge_answered meaning before after out out' x layout output held said parts ends n c is are fits = elim (ends_as (merge layout output) meaning before after out out' x ends n) [
  | inl h ↦ merge_left layout output said parts held before after out out' x c is are fits h
  | inr none ↦ inr (inr (concluded_no_memory out out' x none.1))
]

pub find_answered : (meaning : Meaning) (before after : Outside) (out out' : Output) (x : Status) (table : List ℕ) (address : ℕ) (bytes : List ℕ) (rows : List AddressedRow) (held : Content) → Ends meaning before after out out' x → meaning ≡ Ok (find table address) → before.content ≡ Some held → reading held table MAX_FILE_BYTES ≡ Ok bytes → IsMergedTable rows → bytes ≡ table_bytes rows → IsAnswered x
find_answered meaning before after out out' x table address bytes rows held ends n c is merged same = elim (ends_as (find table address) meaning before after out out' x ends n) [
  | inl h ↦ find_left table address bytes rows held before after out out' x c is (record { table = merged; written = same }) h.0
  | inr none ↦ no_memory_left out out' x none.1
]

pub cfi_answered : OneOutcome → (meaning : Meaning) (before after : Outside) (out out' : Output) (x : Status) (input output : List ℕ) (map : Map) (names : Option (List ℕ)) (read : List ℕ) (o : Elf) (rows : List PlacedRow) (lists : NameLists) (held : Content) → Ends meaning before after out out' x → meaning ≡ Ok (cfi input output map names) → before.content ≡ Some held → reading held input MAX_FILE_BYTES ≡ Ok read → HasNames (Some held) names lists → Gets map read lists o rows → IsAnswered x
cfi_answered one meaning before after out out' x input output map names read o rows lists held ends n c is named gets = elim (ends_as (cfi input output map names) meaning before after out out' x ends n) [
  | inl h ↦ cfi_left one map input output names read o rows lists held before after out out' x c is named gets h
  | inr none ↦ no_memory_left out out' x none.1
]

pub cfi_broken : OneOutcome → (meaning : Meaning) (before after : Outside) (out out' : Output) (x : Status) (input output : List ℕ) (map : Map) (names : Option (List ℕ)) (read : List ℕ) (lists : NameLists) (held : Content) → Ends meaning before after out out' x → meaning ≡ Ok (cfi input output map names) → before.content ≡ Some held → reading held input MAX_FILE_BYTES ≡ Ok read → HasNames (Some held) names lists → BreaksRule map read lists → IsWarnedOrFails x
cfi_broken one meaning before after out out' x input output map names read lists held ends n c is named breaks = elim (ends_as (cfi input output map names) meaning before after out out' x ends n) [
  | inl h ↦ cfi_warns one map input output names read lists held before after out out' x c is named breaks h
  | inr none ↦ inr (inr (inr (concluded_no_memory out out' x none.1)))
]

pub cfa_answered : (meaning : Meaning) (before after : Outside) (out out' : Output) (x : Status) (file bytes : List ℕ) (o : Elf) (rules : List PlacedRule) (held : Content) → Ends meaning before after out out' x → meaning ≡ Ok (cfa file) → before.content ≡ Some held → reading held file MAX_FILE_BYTES ≡ Ok bytes → SaysRules bytes o rules → IsAnswered x
cfa_answered meaning before after out out' x file bytes o rules held ends n c is says = elim (ends_as (cfa file) meaning before after out out' x ends n) [
  | inl h ↦ cfa_left file bytes o rules held before after out out' x c is says h.0
  | inr none ↦ no_memory_left out out' x none.1
]

pub entry_answered : OneOutcome → (meaning : Meaning) (before after : Outside) (out out' : Output) (x : Status) (input : List ℕ) (rules : EntryRules) (map : Map) (names : Option (List ℕ)) (read : List ℕ) (o : Elf) (lists : NameLists) (held : Content) → Ends meaning before after out out' x → meaning ≡ Ok (entry input rules map names) → before.content ≡ Some held → reading held input MAX_FILE_BYTES ≡ Ok read → HasNames (Some held) names lists → IsObject read o → IsInOrder (coded_by map o) lists → IsUnbroken (coded_by map o) lists (entry_options rules) → IsAnswered x
entry_answered one meaning before after out out' x input rules map names read o lists held ends n c is named of order clean = elim (ends_as (entry input rules map names) meaning before after out out' x ends n) [
  | inl h ↦ entry_accepts one map (entry_options rules) input names read o lists held before after out out' x c is named of order clean h.0
  | inr none ↦ no_memory_left out out' x none.1
]

pub entry_broken : OneOutcome → (meaning : Meaning) (before after : Outside) (out out' : Output) (x : Status) (input : List ℕ) (rules : EntryRules) (map : Map) (names : Option (List ℕ)) (read : List ℕ) (o : Elf) (lists : NameLists) (held : Content) → Ends meaning before after out out' x → meaning ≡ Ok (entry input rules map names) → before.content ≡ Some held → reading held input MAX_FILE_BYTES ≡ Ok read → HasNames (Some held) names lists → IsObject read o → IsInOrder (coded_by map o) lists → BreaksEntryRule (coded_by map o) lists (entry_options rules) → IsWarnedOrFails x
entry_broken one meaning before after out out' x input rules map names read o lists held ends n c is named of order breaks = elim (ends_as (entry input rules map names) meaning before after out out' x ends n) [
  | inl h ↦ entry_warns one map (entry_options rules) input names read o lists held before after out out' x c is named of order breaks h.0
  | inr none ↦ inr (inr (inr (concluded_no_memory out out' x none.1)))
]

pub show_answered : OneOutcome → (meaning : Meaning) (before after : Outside) (out out' : Output) (x : Status) (input : List ℕ) (function : Option (List ℕ)) (map : Map) (names : Option (List ℕ)) (read : List ℕ) (o : Elf) (lists : NameLists) (held : Content) → Ends meaning before after out out' x → meaning ≡ Ok (show input function map names) → before.content ≡ Some held → reading held input MAX_FILE_BYTES ≡ Ok read → HasNames (Some held) names lists → IsObject read o → IsInOrder (coded_by map o) lists → HasCode o (program_of (coded_by map o) lists) function → IsAnswered x
show_answered one meaning before after out out' x input function map names read o lists held ends n c is named of order code = elim (ends_as (show input function map names) meaning before after out out' x ends n) [
  | inl h ↦ show_accepts one map input names function read o lists held before after out out' x c is named of order code h.0
  | inr none ↦ no_memory_left out out' x none.1
]
