-- How `check` ends, from what checking and writing ensure.
use Rattle.std.proofs.Common.{◌≡◌, ℕ, List, subst}
use Rattle.std.specs.Prelude.{Option, Result, Ok, Err, OnOk, OnErr, IfErr}
use Rattle.ot_base.specs.NameLists.{NameLists}
use Rattle.cli_words.specs.declared.options.CheckOptions.{CheckOptions}
use Rattle.ot_base.specs.declared.row.PlacedRow.{PlacedRow}
use Rattle.ot_base.specs.declared.warning.Warning.{Warning}
use Rattle.ot_files.specs.Content.{Content, ChangesAtMost, writing}
use Rattle.elf_objects.specs.Elf.{Elf}
use Rattle.elf_objects.specs.Object.{IsObject}
use Rattle.elf_objects.specs.declared.fault.Counted.TheVariants as counted
use Rattle.flow_defs.specs.Coded.{coded_by}
use Rattle.flow_defs.specs.Program.{program_of}
use Rattle.object_check.specs.Allowances.{allowances_of}
use Rattle.object_check.specs.Counts.{IsCounted}
use Rattle.object_check.specs.Order.{IsCheckable}
use Rattle.object_check.specs.Outcome.{AreWarnings, HasRows, IsUnbroken}
use Rattle.object_check.specs.Promises.{KeepsPromises}
use Rattle.object_check.specs.Unwinding.{RowsUnwind}
use Rattle.object_check.specs.declared.counts.CodeCounts.{CodeCounts}
use Rattle.orc_bytes.proofs.OneList.{one_list_fits}
use Rattle.command_base.specs.declared.refusal.Refusal.TheVariants as refusal
use Rattle.command_base.specs.declared.status.Status.{Status}
use Rattle.command_base.specs.declared.stop.CommandStop.{CommandStop}
use Rattle.command_base.specs.declared.stop.CommandStop.TheVariants as stop
use Rattle.command_base.specs.Outside.{Outside, Output}
use Rattle.objtool_cli.specs.Checked.{Accepts, IsRefusal, crowded}
use Rattle.objtool_cli.specs.Command.{EndsCheck, IsDone, Stops, refused, stopped, unwritten, warned}
use Rattle.command_base.specs.Inputs.{IsRead}
use Rattle.objtool_cli.specs.Telling.{TellsWarnings, printed, unread}
use Rattle.objtool_cli.specs.Writing.{IsCrowded, IsTable, StopsAtTable, WritesTable, crowded as too_many, cut_off}
use Rattle.command_base.specs.Writing.{StopsAtWrite}
use Rattle.objtool_cli.proofs.ContentLemmas.{is_done}
use Rattle.objtool_cli.proofs.ParseLemmas.{check_uncheckable, uncheckable_refusal}
use Rattle.objtool_cli.proofs.UnwindingLemmas.{unwinds_by}

-- ---- OUT

pub table_written : {T E : Type 0} (r : Result T E) (o : Elf) (rows : List PlacedRow) (output table shown : List ℕ) (before after : Option Content) → IsTable o rows table → shown ≡ table → OnOk r (after ≡ writing before output shown) → OnOk r (WritesTable o rows output before after)
table_written (Ok u) o rows output table shown before after is same h = record { table = table; is = is; written = subst (λ (bytes : List ℕ). after ≡ writing before output bytes) same h }
table_written (Err e) o rows output table shown before after is same h = tt

pub table_cut_off : {T : Type 0} (r : Result T CommandStop) (o : Elf) (rows : List PlacedRow) (output table : List ℕ) (before after : Outside) → IsTable o rows table → IfErr r (StopsAtWrite output before after) → OnErr r (ChangesAtMost output before.content after.content) → IfErr r (StopsAtTable o rows output before after)
table_cut_off (Ok u) o rows output table before after is h others = tt
table_cut_off (Err s) o rows output table before after is h others = cut_off table is h others

-- ---- what the check comes to

pub warned_end : (input output : List ℕ) (options : CheckOptions) (names : Option (List ℕ)) (read : List ℕ) (lists : NameLists) (before after : Outside) (out out' : Output) (x : Status) (o : Elf) (warnings told : List Warning) → IsRead before.content input names read lists → IsObject read o → IsCheckable (coded_by options.map o) lists × AreWarnings (program_of (coded_by options.map o) lists) (allowances_of (coded_by options.map o) lists options.rules) options.rules warnings → after.content ≡ before.content → told ≡ warnings → TellsWarnings input options lists o told out out' x → EndsCheck input output options names before after out out' x
warned_end input output options names read lists before after out out' x o warnings told is_read is found kept same t =
    ends x (subst (λ (ws : List Warning). TellsWarnings input options lists o ws out out' x) same t)
  where
    ends : (x : Status) → TellsWarnings input options lists o warnings out out' x → EndsCheck input output options names before after out out' x
    ends x (printed text is_text prints) = warned o warnings (record { read = read; lists = lists; is_read = is_read; warns = record { is = is; checkable = found.0; are = found.1 }; told = is_text }) kept prints
    ends x (unread s why concludes) = stopped s (refused read lists is_read (uncheckable_refusal read lists options s (check_uncheckable options.map read lists o s is why)) kept) concludes

-- an object that breaks no rule, and its rows
abbrev pub IsSound : Elf → NameLists → CheckOptions → List PlacedRow → Type 0
IsSound o lists options rows = IsCheckable (coded_by options.map o) lists × IsUnbroken (program_of (coded_by options.map o) lists) (allowances_of (coded_by options.map o) lists options.rules) options.rules × HasRows (program_of (coded_by options.map o) lists) rows

-- as its check finds it
pub sound : (o : Elf) (lists : NameLists) (options : CheckOptions) (rows : List PlacedRow) (counts : CodeCounts)
    → IsCheckable (coded_by options.map o) lists × IsUnbroken (program_of (coded_by options.map o) lists) (allowances_of (coded_by options.map o) lists options.rules) options.rules × HasRows (program_of (coded_by options.map o) lists) rows × IsCounted (coded_by options.map o) counts → IsSound o lists options rows
sound o lists options rows counts found = (found.0, found.1, found.2)

accepts : (o : Elf) (read : List ℕ) (lists : NameLists) (options : CheckOptions) (rows : List PlacedRow) (table : List ℕ) → IsObject read o → IsSound o lists options rows → IsTable o rows table → Accepts read lists options table
accepts o read lists options rows table is sound has = record {
  object = o;
  is = is;
  checkable = sound.0;
  unbroken = sound.1;
  rows = rows;
  has_rows = sound.2;
  table_is = has;
}

pub done_end : (input output : List ℕ) (options : CheckOptions) (names : Option (List ℕ)) (read : List ℕ) (lists : NameLists) (before after : Outside) (o : Elf) (rows told : List PlacedRow) → IsRead before.content input names read lists → IsObject read o → IsSound o lists options rows → RowsUnwind (coded_by options.map o) lists rows → KeepsPromises (coded_by options.map o) lists options.rules → told ≡ rows → WritesTable o told output before.content after.content → IsDone input output options names before after
done_end input output options names read lists before after o rows told is_read is sound unwind keeps same h =
    let wrote = subst (λ (rs : List PlacedRow). WritesTable o rs output before.content after.content) same h in
    is_done input output options names read wrote.table lists before after o is_read is keeps (accepts o read lists options rows wrote.table is sound wrote.is)
    (record { object = o; is_object = is; unwinds = unwinds_by one_list_fits (coded_by options.map o) lists rows wrote.table unwind wrote.is.tables }) wrote.written

crowd_refusal : (o : Elf) (read : List ℕ) (lists : NameLists) (options : CheckOptions) (rows : List PlacedRow) (s : CommandStop) → IsObject read o → IsSound o lists options rows → IsCrowded o rows s → IsRefusal read lists options s
crowd_refusal o read lists options rows (stop.Refused (refusal.TooMany counted.Symbols count)) is sound h = crowded o rows is sound.0 sound.1 sound.2 h.0 h.1
crowd_refusal o read lists options rows (stop.Refused (refusal.TooMany counted.Sections count)) is sound h = absurd h
crowd_refusal o read lists options rows (stop.Refused (refusal.TooMany counted.TextBytes count)) is sound h = absurd h
crowd_refusal o read lists options rows (stop.Refused (refusal.Malformed why)) is sound h = absurd h
crowd_refusal o read lists options rows (stop.Refused (refusal.Orc why)) is sound h = absurd h
crowd_refusal o read lists options rows (stop.Refused (refusal.Lists why)) is sound h = absurd h
crowd_refusal o read lists options rows (stop.Refused (refusal.Image why)) is sound h = absurd h
crowd_refusal o read lists options rows (stop.Refused (refusal.NoText sec)) is sound h = absurd h
crowd_refusal o read lists options rows (stop.Refused (refusal.Unplaced why)) is sound h = absurd h
crowd_refusal o read lists options rows (stop.Refused (refusal.Unlinked told)) is sound h = absurd h
crowd_refusal o read lists options rows (stop.Refused (refusal.Unflowed told)) is sound h = absurd h
crowd_refusal o read lists options rows (stop.Refused (refusal.HasOrc sec)) is sound h = absurd h
crowd_refusal o read lists options rows (stop.Refused (refusal.HasSites sec)) is sound h = absurd h
crowd_refusal o read lists options rows (stop.Refused (refusal.Sites why)) is sound h = absurd h
crowd_refusal o read lists options rows (stop.Refused (refusal.HasFrames sec)) is sound h = absurd h
crowd_refusal o read lists options rows (stop.Refused (refusal.Frames why)) is sound h = absurd h
crowd_refusal o read lists options rows (stop.Refused (refusal.Layout why)) is sound h = absurd h
crowd_refusal o read lists options rows (stop.Refused (refusal.TooManyFiles count)) is sound h = absurd h
crowd_refusal o read lists options rows (stop.Refused (refusal.Merge why)) is sound h = absurd h
crowd_refusal o read lists options rows (stop.Refused (refusal.Table why)) is sound h = absurd h
crowd_refusal o read lists options rows (stop.Refused (refusal.NoFunction function)) is sound h = absurd h
crowd_refusal o read lists options rows stop.NoMemory is sound h = tt
crowd_refusal o read lists options rows (stop.Usage usage) is sound h = absurd h
crowd_refusal o read lists options rows (stop.PartMissing part file) is sound h = absurd h
crowd_refusal o read lists options rows (stop.PartTooLong part file limit) is sound h = absurd h
crowd_refusal o read lists options rows (stop.PartRefused part refusal) is sound h = absurd h
crowd_refusal o read lists options rows (stop.Missing file) is sound h = absurd h
crowd_refusal o read lists options rows (stop.TooLong file limit) is sound h = absurd h
crowd_refusal o read lists options rows (stop.FileFault file) is sound h = absurd h

stop_of_table : (input output : List ℕ) (options : CheckOptions) (names : Option (List ℕ)) (read : List ℕ) (lists : NameLists) (before after : Outside) (o : Elf) (rows : List PlacedRow) (s : CommandStop) → IsRead before.content input names read lists → IsObject read o → IsSound o lists options rows → StopsAtTable o rows output before after s → Stops input output options names before after s
stop_of_table input output options names read lists before after o rows s is_read is sound (too_many h kept) = refused read lists is_read (crowd_refusal o read lists options rows s is sound h) kept
stop_of_table input output options names read lists before after o rows s is_read is sound (cut_off table has h others) =
    unwritten table (record { read = read; lists = lists; is_read = is_read; accepts = accepts o read lists options rows table is sound has }) h others

pub stopped_end : (input output : List ℕ) (options : CheckOptions) (names : Option (List ℕ)) (read : List ℕ) (lists : NameLists) (before after : Outside) (o : Elf) (rows told : List PlacedRow) (s : CommandStop) → IsRead before.content input names read lists → IsObject read o → IsSound o lists options rows → told ≡ rows → StopsAtTable o told output before after s → Stops input output options names before after s
stopped_end input output options names read lists before after o rows told s is_read is sound same h =
    stop_of_table input output options names read lists before after o rows s is_read is sound (subst (λ (rs : List PlacedRow). StopsAtTable o rs output before after s) same h)
