-- How `cfi` ends, from what its parts ensure.
use Rattle.std.proofs.Common.{◌≡◌, ℕ, ◌≤◌, List, subst, arith}
use Rattle.std.specs.Prelude.{Option}
use Rattle.ot_base.specs.NameLists.{NameLists}
use Rattle.ot_base.specs.declared.row.PlacedRow.{PlacedRow}
use Rattle.ot_base.specs.declared.warning.Warning.{Warning}
use Rattle.ot_files.specs.Content.{Content, writing}
use Rattle.elf_objects.specs.Elf.{Elf}
use Rattle.elf_objects.specs.Object.{IsObject}
use Rattle.elf_objects.specs.declared.TheConstants.{MAX_SYMBOLS}
use Rattle.elf_objects.specs.declared.fault.Counted.TheVariants as counted
use Rattle.x86_map.specs.declared.map.Map.{Map}
use Rattle.flow_defs.specs.Coded.{coded_by}
use Rattle.object_check.specs.Outcome.{AreWarnings, HasRows, IsUnbroken}
use Rattle.object_check.specs.Unwinding.{RowsUnwind}
use Rattle.table_defs.specs.WalkLaws.{FoundIsLast, NoneFoundIsNone}
use Rattle.orc_output.specs.Tables.{symbols_needed}
use Rattle.command_base.specs.Names.{StopsAtNames}
use Rattle.command_base.specs.Outside.{Outside, Output}
use Rattle.command_base.specs.Printing.{Prints}
use Rattle.command_base.specs.Warnings.{warnings_text}
use Rattle.command_base.specs.declared.refusal.Refusal.TheVariants as refusal
use Rattle.command_base.specs.declared.status.Status.{Status}
use Rattle.command_base.specs.declared.status.Status.TheVariants as status
use Rattle.command_base.specs.declared.stop.CommandStop.{CommandStop}
use Rattle.command_base.specs.declared.stop.CommandStop.TheVariants as stop
use Rattle.objtool_cli.specs.Cfi.{EndsCfi, GetNoFrames, MayGetFrames, StopsCfi, done, no_memory, refused, stopped, too_many_symbols, unread, unwritten, warned, without_names}
use Rattle.command_base.specs.Inputs.{IsRead}
use Rattle.objtool_cli.specs.FramesOrder.{GetsFrames, IsCheckable, allowances_under, default_rules, program_under}
use Rattle.objtool_cli.specs.Written.{IsCrowded, TellsRows}
use Rattle.objtool_cli.proofs.Undoes.{rules_undo}
use Rattle.command_base.proofs.Stops.{names_earlier, outside, read_earlier, write_earlier}

-- an object that breaks no rule, and its rows
abbrev pub IsSound : Map → Elf → NameLists → List PlacedRow → Type 0
IsSound map o lists rows = IsCheckable (coded_by map o) lists × IsUnbroken (program_under map lists o) (allowances_under map lists o) default_rules × HasRows (program_under map lists o) rows

gets_frames : (map : Map) (o : Elf) (lists : NameLists) (rows : List PlacedRow) → IsSound map o lists rows → symbols_needed o rows ≤ MAX_SYMBOLS → GetsFrames map lists o rows
gets_frames map o lists rows sound few = record { checkable = sound.0; unbroken = sound.1; has_rows = sound.2; few_symbols = few }

pub may_get : (map : Map) (content : Option Content) (input : List ℕ) (names : Option (List ℕ)) (read : List ℕ) (lists : NameLists) (o : Elf) (rows told : List PlacedRow) (file : List ℕ) → FoundIsLast → NoneFoundIsNone → IsRead content input names read lists → IsObject read o → IsSound map o lists rows → RowsUnwind (coded_by map o) lists rows → told ≡ rows
    → symbols_needed o told ≤ MAX_SYMBOLS → TellsRows o told file → MayGetFrames map content input names o rows file
may_get map content input names read lists o rows told file found none was is sound unwinds same few tells =
    let here : TellsRows o rows file = subst (λ (rs : List PlacedRow). TellsRows o rs file) same tells in
    record {
      read = read;
      lists = lists;
      is_read = was;
      gets = record { is = is; gets = gets_frames map o lists rows sound (subst (λ (rs : List PlacedRow). symbols_needed o rs ≤ MAX_SYMBOLS) same few) };
      tells = here;
      undoes = rules_undo found none (coded_by map o) lists rows file sound.2 unwinds here.follows;
    }

crowd : (map : Map) (read : List ℕ) (lists : NameLists) (o : Elf) (rows : List PlacedRow) (s : CommandStop) → IsObject read o → IsSound map o lists rows → IsCrowded o rows s → GetNoFrames map read lists s
crowd map read lists o rows (stop.Refused (refusal.TooMany counted.Symbols count)) is sound h = too_many_symbols o rows is sound.0 sound.1 sound.2 h.0 h.1
crowd map read lists o rows (stop.Refused (refusal.TooMany counted.Sections count)) is sound h = absurd h
crowd map read lists o rows (stop.Refused (refusal.TooMany counted.TextBytes count)) is sound h = absurd h
crowd map read lists o rows (stop.Refused (refusal.Malformed fault)) is sound h = absurd h
crowd map read lists o rows (stop.Refused (refusal.Orc fault)) is sound h = absurd h
crowd map read lists o rows (stop.Refused (refusal.Lists fault)) is sound h = absurd h
crowd map read lists o rows (stop.Refused (refusal.Image fault)) is sound h = absurd h
crowd map read lists o rows (stop.Refused (refusal.NoText sec)) is sound h = absurd h
crowd map read lists o rows (stop.Refused (refusal.Unplaced fault)) is sound h = absurd h
crowd map read lists o rows (stop.Refused (refusal.Unlinked told)) is sound h = absurd h
crowd map read lists o rows (stop.Refused (refusal.Unflowed told)) is sound h = absurd h
crowd map read lists o rows (stop.Refused (refusal.HasOrc sec)) is sound h = absurd h
crowd map read lists o rows (stop.Refused (refusal.HasSites sec)) is sound h = absurd h
crowd map read lists o rows (stop.Refused (refusal.Sites fault)) is sound h = absurd h
crowd map read lists o rows (stop.Refused (refusal.HasFrames sec)) is sound h = absurd h
crowd map read lists o rows (stop.Refused (refusal.Frames fault)) is sound h = absurd h
crowd map read lists o rows (stop.Refused (refusal.Layout fault)) is sound h = absurd h
crowd map read lists o rows (stop.Refused (refusal.TooManyFiles count)) is sound h = absurd h
crowd map read lists o rows (stop.Refused (refusal.Merge fault)) is sound h = absurd h
crowd map read lists o rows (stop.Refused (refusal.Table fault)) is sound h = absurd h
crowd map read lists o rows (stop.Refused (refusal.NoFunction function)) is sound h = absurd h
crowd map read lists o rows (stop.Usage usage) is sound h = absurd h
crowd map read lists o rows (stop.Missing told) is sound h = absurd h
crowd map read lists o rows (stop.TooLong told at) is sound h = absurd h
crowd map read lists o rows (stop.PartMissing part told) is sound h = absurd h
crowd map read lists o rows (stop.PartTooLong part told at) is sound h = absurd h
crowd map read lists o rows (stop.PartRefused part why) is sound h = absurd h
crowd map read lists o rows (stop.FileFault told) is sound h = absurd h
crowd map read lists o rows stop.NoMemory is sound h = no_memory

pub crowded : (map : Map) (read : List ℕ) (lists : NameLists) (o : Elf) (rows told : List PlacedRow) (s : CommandStop) → IsObject read o → IsSound map o lists rows → told ≡ rows → IsCrowded o told s → GetNoFrames map read lists s
crowded map read lists o rows told s is sound same h = crowd map read lists o rows s is sound (subst (λ (rs : List PlacedRow). IsCrowded o rs s) same h)

pub warned_end : (map : Map) (input output : List ℕ) (names : Option (List ℕ)) (read : List ℕ) (lists : NameLists) (before after : Outside) (out out' : Output) (x : Status) (o : Elf) (warnings told : List Warning) → IsRead before.content input names read lists → IsObject read o
    → IsCheckable (coded_by map o) lists × AreWarnings (program_under map lists o) (allowances_under map lists o) default_rules warnings → after.content ≡ before.content → told ≡ warnings → Prints status.Warnings (warnings_text o told) out out' x → EndsCfi map input output names before after out out' x
warned_end map input output names read lists before after out out' x o warnings told was is found kept same t =
    warned o warnings (record { read = read; lists = lists; is_read = was; warns = record { is = is; checkable = found.0; are = found.1 } }) kept
    (subst (λ (ws : List Warning). Prints status.Warnings (warnings_text o ws) out out' x) same t)

-- fewer faults at the beginning
stops_earlier : (s : CommandStop) (map : Map) (input output : List ℕ) (names : Option (List ℕ)) (content : Option Content) (before middle : ℕ) (after : Outside) → before ≤ middle → StopsCfi map input output names (outside content middle) after s → StopsCfi map input output names (outside content before) after s
stops_earlier s map input output names content before middle after later (unread h kept) = unread (read_earlier _ s input content before middle after later h) kept
stops_earlier s map input output names content before middle after later (without_names read may h kept) = without_names read may (names_earlier s names content before middle after later h) kept
stops_earlier s map input output names content before middle after later (refused read lists is h kept) = refused read lists is h kept
stops_earlier s map input output names content before middle after later (unwritten o rows file may h others) = unwritten o rows file may (write_earlier s output content before middle after later h) others

ends_earlier : (map : Map) (input output : List ℕ) (names : Option (List ℕ)) (content : Option Content) (before middle : ℕ) (after : Outside) (out out' : Output) (x : Status) → before ≤ middle → EndsCfi map input output names (outside content middle) after out out' x → EndsCfi map input output names (outside content before) after out out' x
ends_earlier map input output names content before middle after out out' status.Done later (done o rows file may e same) = done o rows file may e same
ends_earlier map input output names content before middle after out out' x later (warned o warnings is kept t) = warned o warnings is kept t
ends_earlier map input output names content before middle after out out' x later (stopped s h t) = stopped s (stops_earlier s map input output names content before middle after later h) t

pub ends_later : (map : Map) (input output : List ℕ) (names : Option (List ℕ)) (content middle : Option Content) (before faults : ℕ) (after : Outside) (out out' : Output) (x : Status) → middle ≡ content → before ≤ faults → EndsCfi map input output names (outside middle faults) after out out' x → EndsCfi map input output names (outside content before) after out out' x
ends_later map input output names content middle before faults after out out' x same later h = ends_earlier map input output names content before faults after out out' x later (subst (λ (c : Option Content). EndsCfi map input output names (outside c faults) after out out' x) same h)

pub names_later : (s : CommandStop) (names : Option (List ℕ)) (content middle : Option Content) (before faults : ℕ) (after : Outside) → middle ≡ content → before ≤ faults → StopsAtNames names (outside middle faults) after s → StopsAtNames names (outside content before) after s
names_later s names content middle before faults after same later h = names_earlier s names content before faults after later (subst (λ (c : Option Content). StopsAtNames names (outside c faults) after s) same h)

pub later_still : (a b c : ℕ) → a ≤ b → b ≤ c → a ≤ c
later_still a b c h k = omega arith

pub wrote : (output shown file : List ℕ) (before after : Option Content) → shown ≡ file → after ≡ writing before output shown → after ≡ writing before output file
wrote output shown file before after same h = subst (λ (bytes : List ℕ). after ≡ writing before output bytes) same h
