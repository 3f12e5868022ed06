-- How `dump` and `unwind` end over files that tell what they hold, where nothing fails.
use Rattle.std.proofs.Common.{◌≡◌, ℕ, List, length, Option, Some, refl, ap, ◌∙◌, subst, inl, inr, cond}
use Rattle.std.specs.Prelude.{◌⊎◌, Ok, Err}
use Rattle.std.proofs.lemmas.Bool.{le-ltb}
use Rattle.ot_base.specs.declared.row.PlacedRow.{PlacedRow}
use Rattle.ot_files.specs.Content.{Content, reading, reading_of}
use Rattle.ot_files.specs.Output.{appending}
use Rattle.ot_files.specs.declared.access.FileError.TheVariants.{TooLong}
use Rattle.machine_defs.specs.Machine.{frames_end}
use Rattle.table_defs.specs.WalkLaws.{WalkIsDetermined}
use Rattle.table_defs.specs.Walk.{Walks}
use Rattle.table_defs.specs.declared.frame.Frame.{Frame}
use Rattle.table_defs.specs.declared.frame.Stop as walk
use Rattle.table_defs.specs.Walks.{StopsAs}
use Rattle.elf_objects.specs.declared.TheConstants.{MAX_FILE_BYTES}
use Rattle.elf_objects.specs.Elf.{Elf}
use Rattle.orc_output.specs.Tables.{with_tables_object}
use Rattle.orc_walk.specs.Memory.{word_at}
use Rattle.orc_walk.specs.ImageFile.{IsImage}
use Rattle.orc_walk.specs.ImageLaws.{MemoryIsSaid}
use Rattle.command_base.specs.declared.reading.TheConstants.{MAX_IMAGE_BYTES}
use Rattle.command_base.specs.declared.status.Status.{Status}
use Rattle.command_base.specs.declared.status.Status.TheVariants as status
use Rattle.command_base.specs.Outside.{Outside, Output}
use Rattle.command_base.specs.Reading.{MayRead}
use Rattle.objtool_cli.specs.Command.{Ends}
use Rattle.cli_words.specs.Grammar.{dump, unwind}
use Rattle.objtool_cli.specs.Words.{Meaning}
use Rattle.objtool_cli.proofs.FaultEnds.{file_fault, sink_fault}
use Rattle.objtool_cli.proofs.ReadBackEnds.{dump_answered, rows_dumped, unwind_answered, walk_printed}
use Rattle.command_base.specs.Dump.{HoldsRows, IsAnswered, IsDumped, rows_text}
use Rattle.command_base.specs.Unwind.{IsUnwound, ranges_of}
use Rattle.command_base.specs.WalkText.{walk_text}
use Rattle.command_base.proofs.DumpLaws.{same_read, told_read}
use Rattle.composition_law.specs.Laws.{DumpIsDone, Holds, NothingFails, UnwindIsDone, shadow_text}
use Rattle.composition_law.proofs.DumpLaw.{rows_are, text_is}
use Rattle.composition_law.proofs.UnwindLaw.{placed_law, walk_is}

-- a file within the limit is read as what it holds
pub read_as : (content : Content) (limit : ℕ) (name bytes : List ℕ) → Holds content limit name bytes → reading content name limit ≡ Ok bytes
read_as content limit name bytes holds =
    ap (λ found. reading_of found limit) holds.there
    ∙ ap (λ b. cond b (Err (TooLong limit)) (Ok bytes)) (le-ltb limit (length bytes) holds.short)

-- so what was read is what it holds
pub was_read : (content : Content) (limit : ℕ) (name bytes other : List ℕ) (told : Option Content) → told ≡ Some content → Holds content limit name bytes → MayRead limit told name (Ok other) → other ≡ bytes
was_read content limit name bytes other told is holds may = same_read other bytes (told_read limit told content name (Ok other) is may ∙ read_as content limit name bytes holds)

-- where nothing fails, no fault is answered
pub no_fault : (P : Type 0) (meaning : Meaning) (before after : Outside) (out out' : Output) (answer : Status) → Ends meaning before after out out' answer → NothingFails before after out out' → IsAnswered answer → (answer ≡ status.Done → P) → P ⊎ (answer ≡ status.NoMemory)
no_fault P meaning before after out out' answer ends nothing (inl done) whole = inl (whole done)
no_fault P meaning before after out out' answer ends nothing (inr (inl fault)) whole = absurd (nothing.files (file_fault meaning before after out out' answer ends fault))
no_fault P meaning before after out out' answer ends nothing (inr (inr (inl fault))) whole = absurd (nothing.output (sink_fault meaning before after out out' answer ends fault))
no_fault P meaning before after out out' answer ends nothing (inr (inr (inr none))) whole = inr none

pub dump_law : DumpIsDone
dump_law o lists written unwinds content file holds before after out out' answer told ends nothing =
    no_fault _ (Ok (dump file)) before after out out' answer ends nothing
    (dump_answered (Ok (dump file)) before after out out' answer file written (with_tables_object o.elf unwinds.rows) unwinds.rows content ends refl told (read_as content MAX_FILE_BYTES file written holds) (record { object = unwinds.reads_back; held = unwinds.holds }))
    (λ done. (done, printed (rows_dumped (Ok (dump file)) before after out out' answer file ends done refl)))
  where
    printed : IsDumped file before.content out.written out'.written → out'.written ≡ appending out.written (rows_text (with_tables_object o.elf unwinds.rows) unwinds.rows)
    printed d =
        let same = was_read content MAX_FILE_BYTES file written d.bytes before.content told holds d.may in
        let are = rows_are o lists written unwinds d.object d.rows (subst (λ (b : List ℕ). HoldsRows b d.object d.rows) same d.held) in
        d.printed ∙ ap (λ (text : List ℕ). appending out.written text) (text_is d.object (with_tables_object o.elf unwinds.rows) d.rows unwinds.rows are.0 are.1)

pub unwind_law : WalkIsDetermined → MemoryIsSaid → UnwindIsDone
unwind_law determined said o lists written text unwinds state tells content file image holds holds_text before after out out' answer told ends nothing =
    no_fault _ (Ok (unwind file image)) before after out out' answer ends nothing
    (unwind_answered (Ok (unwind file image)) before after out out' answer file image written text tells.image (with_tables_object o.elf unwinds.rows) unwinds.rows content ends refl told
    (read_as content MAX_FILE_BYTES file written holds) (read_as content MAX_IMAGE_BYTES image text holds_text) (placed_law o lists written text unwinds state tells))
    (λ done. (done, printed (walk_printed (Ok (unwind file image)) before after out out' answer file image ends done refl)))
  where
    printed : IsUnwound file image before.content out.written out'.written → (stop : walk.Stop) × StopsAs (frames_end state) stop × (out'.written ≡ appending out.written (shadow_text state stop))
    printed d =
        let bytes = was_read content MAX_FILE_BYTES file written d.bytes before.content told holds d.may in
        let words = was_read content MAX_IMAGE_BYTES image text d.text before.content told holds_text d.may_text in
        let also : IsImage text d.stack = subst (λ (t : List ℕ). IsImage t d.stack) words d.placed.is_image in
        let are = rows_are o lists written unwinds d.object d.rows (subst (λ (b : List ℕ). HoldsRows b d.object d.rows) bytes d.placed.held) in
        let by_rows : Walks unwinds.rows (ranges_of (with_tables_object o.elf unwinds.rows) d.stack.places) (word_at d.stack.memory) d.stack.regs d.frames d.stop =
        subst (λ (rs : List PlacedRow). Walks rs (ranges_of (with_tables_object o.elf unwinds.rows) d.stack.places) (word_at d.stack.memory) d.stack.regs d.frames d.stop) are.1
        (subst (λ (q : Elf). Walks d.rows (ranges_of q d.stack.places) (word_at d.stack.memory) d.stack.regs d.frames d.stop) are.0 d.walks) in
        let machine = walk_is determined said o lists written text unwinds state tells d.stack also d.frames d.stop by_rows in
        (d.stop, machine.0, d.printed ∙ ap (λ (fs : List Frame). appending out.written (walk_text fs d.stop)) machine.1)
