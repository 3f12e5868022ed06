-- What follows from how `unwind` ends.
use Rattle.std.proofs.Common.{◌≡◌, ℕ, ◌+◌, ◌-◌, ◌<◌, ◌≤◌, List, [], ◌∷◌, length, refl, sym, ap, ◌∙◌, subst, inl, inr, arith, Option, Some, None}
use Rattle.std.proofs.lemmas.Option.{none-some}
use Rattle.std.specs.Prelude.{◌≢◌, ◌⊎◌, Ok}
use Rattle.ot_base.specs.declared.row.PlacedRow.{PlacedRow}
use Rattle.ot_files.specs.Causes.{Rose}
use Rattle.ot_files.specs.Content.{Content, reading}
use Rattle.ot_files.specs.Output.{appending}
use Rattle.table_defs.specs.declared.frame.Regs.{Regs}
use Rattle.elf_objects.specs.declared.TheConstants.{MAX_FILE_BYTES}
use Rattle.elf_objects.specs.Elf.{Elf}
use Rattle.orc_bytes.specs.Sections.{HoldsOrc}
use Rattle.orc_bytes.proofs.OneList.{one_list_fits}
use Rattle.orc_walk.specs.declared.faults.PlaceFault.{PlaceFault}
use Rattle.orc_walk.specs.Faults.{place_fault}
use Rattle.orc_walk.specs.declared.image_fault.ImageWhy.{ImageWhy}
use Rattle.orc_walk.specs.declared.image_fault.ImageFault.TheVariants.{Line}
use Rattle.orc_walk.specs.Lines.{lines}
use Rattle.orc_walk.specs.ImageFile.{IsImage, IsImageFault, IsFirstFault, LacksRegisters, StackImage, fault_at}
use Rattle.command_base.specs.declared.reading.TheConstants.{MAX_IMAGE_BYTES}
use Rattle.command_base.specs.declared.status.Status.{Status}
use Rattle.command_base.specs.declared.status.Status.TheVariants.{Done, Warnings, FileFault, SinkFault, NoMemory}
use Rattle.command_base.specs.declared.stop.CommandStop.{CommandStop}
use Rattle.command_base.specs.declared.stop.CommandStop.TheVariants as stop
use Rattle.command_base.specs.Outside.{Outside, Output}
use Rattle.command_base.specs.Printing.{Concludes}
use Rattle.command_base.specs.Reading.{MayRead, StopsAtRead}
use Rattle.command_base.specs.Stop.{status_of}
use Rattle.command_base.proofs.ConcludeLemmas.{concluded_fault, concluded_no_warnings, concluded_not_done, concluded_sink_fault, printed_fault, printed_sink_fault, printed_warnings}
use Rattle.command_base.specs.Dump.{HoldsNoRows, HoldsRows, IsAnswered}
use Rattle.command_base.specs.Unwind.{EndsUnwind, HasNoWalk, IsPlaced, IsUnwound, Unwinds, first_foreign, foreign, no_file, no_image, no_memory, no_rows, no_text, ranges_of, read, stopped, unplaced, walked}
use Rattle.command_base.specs.WalkText.{walk_text}
use Rattle.command_base.proofs.DumpLaws.{no_memory_left, no_rows_excluded, no_rows_fault, not_file_fault, not_sink_fault, not_warnings, one_object, printed_done, read_fault, same_read, text_left, told_read, unread_left}

bytes_unwound : (file image bytes text : List ℕ) (content : Option Content) (before after : Output) (x : Status) → MayRead MAX_FILE_BYTES content file (Ok bytes) → MayRead MAX_IMAGE_BYTES content image (Ok text) → Unwinds bytes text before after x → x ≡ Done → IsUnwound file image content before.written after.written
bytes_unwound file image bytes text content before after x may may_text (walked stack o rows frames s placed walks t) e = record {
  bytes = bytes;
  may = may;
  text = text;
  may_text = may_text;
  stack = stack;
  object = o;
  rows = rows;
  placed = placed;
  frames = frames;
  stop = s;
  walks = walks;
  printed = printed_done (walk_text frames s) before after x t e;
}
bytes_unwound file image bytes text content before after x may may_text (stopped s h t) e = absurd (concluded_not_done s before after x t e)

pub unwound : (file image : List ℕ) (before after : Outside) (out out' : Output) (x : Status) → EndsUnwind file image before after out out' x → x ≡ Done → IsUnwound file image before.content out.written out'.written
unwound file image before after out out' x (no_file s h t) e = absurd (concluded_not_done s out out' x t e)
unwound file image before after out out' x (no_text bytes s may h t) e = absurd (concluded_not_done s out out' x t e)
unwound file image before after out out' x (read bytes text may may_text h) e = bytes_unwound file image bytes text before.content out out' x may may_text h e

-- ---- faults

no_walk_fault : (s : CommandStop) (bytes text : List ℕ) → HasNoWalk bytes text s → status_of s ≢ FileFault
no_walk_fault s bytes text (no_image h) e = cc
no_walk_fault s bytes text (no_rows image is h) e = no_rows_fault s bytes h e
no_walk_fault s bytes text (foreign image o rows is held f) e = cc
no_walk_fault s bytes text (unplaced image o rows is held f p) e = cc
no_walk_fault s bytes text no_memory e = cc

bytes_fault : (bytes text : List ℕ) (before after : Output) (x : Status) → Unwinds bytes text before after x → x ≢ FileFault
bytes_fault bytes text before after x (walked stack o rows frames s placed walks t) e = not_file_fault (printed_fault Done _ before after x t e)
bytes_fault bytes text before after x (stopped s h t) e = no_walk_fault s bytes text h (concluded_fault s before after x t e)

pub unwind_fault : (file image : List ℕ) (before after : Outside) (out out' : Output) (x : Status) → EndsUnwind file image before after out out' x → x ≡ FileFault → Rose before.faults after.faults
unwind_fault file image before after out out' x (no_file s h t) e = read_fault MAX_FILE_BYTES s file before after h (concluded_fault s out out' x t e)
unwind_fault file image before after out out' x (no_text bytes s may h t) e = read_fault MAX_IMAGE_BYTES s image before after h (concluded_fault s out out' x t e)
unwind_fault file image before after out out' x (read bytes text may may_text h) e = absurd (bytes_fault bytes text out out' x h e)

bytes_sink_fault : (bytes text : List ℕ) (before after : Output) (x : Status) → Unwinds bytes text before after x → x ≡ SinkFault → Rose before.faults after.faults
bytes_sink_fault bytes text before after x (walked stack o rows frames s placed walks t) e = printed_sink_fault Done _ before after x t not_sink_fault e
bytes_sink_fault bytes text before after x (stopped s h t) e = concluded_sink_fault s before after x t e

pub unwind_sink_fault : (file image : List ℕ) (before after : Outside) (out out' : Output) (x : Status) → EndsUnwind file image before after out out' x → x ≡ SinkFault → Rose out.faults out'.faults
unwind_sink_fault file image before after out out' x (no_file s h t) e = concluded_sink_fault s out out' x t e
unwind_sink_fault file image before after out out' x (no_text bytes s may h t) e = concluded_sink_fault s out out' x t e
unwind_sink_fault file image before after out out' x (read bytes text may may_text h) e = bytes_sink_fault bytes text out out' x h e

bytes_warnings : (bytes text : List ℕ) (before after : Output) (x : Status) → Unwinds bytes text before after x → x ≢ Warnings
bytes_warnings bytes text before after x (walked stack o rows frames s placed walks t) e = not_warnings (printed_warnings Done _ before after x t e)
bytes_warnings bytes text before after x (stopped s h t) e = concluded_no_warnings s before after x t e

pub unwind_no_warnings : (file image : List ℕ) (before after : Outside) (out out' : Output) (x : Status) → EndsUnwind file image before after out out' x → x ≢ Warnings
unwind_no_warnings file image before after out out' x (no_file s h t) e = concluded_no_warnings s out out' x t e
unwind_no_warnings file image before after out out' x (no_text bytes s may h t) e = concluded_no_warnings s out out' x t e
unwind_no_warnings file image before after out out' x (read bytes text may may_text h) e = bytes_warnings bytes text out out' x h e

-- ---- what is answered where the files give a walk

regs_none : (found : List Regs) (regs : Regs) → found ≡ [] → found ≡ regs ∷ [] → ⊥
regs_none found regs none some = let u : ◌≡◌ {A = List Regs} [] (regs ∷ []) = sym none ∙ some in cc

image_excluded : (text : List ℕ) (image : StackImage) (line : ℕ) (why : ImageWhy) → IsImage text image → IsFirstFault text line why ⊎ LacksRegisters text line why → ⊥
image_excluded text image line why is (inl fault) = none-some why (sym (is.no_fault (line - 1) (omega (arith, fault.counted, fault.there))) ∙ fault.fault)
image_excluded text image line why is (inr lacks) = regs_none _ image.regs lacks.none is.says.regs

same_places : (text : List ℕ) (one other : StackImage) → IsImage text one → IsImage text other → one.places ≡ other.places
same_places text one other h k = h.says.places ∙ sym k.says.places

same_rows : (o p : Elf) (rows others : List PlacedRow) → o ≡ p → HoldsOrc o rows → HoldsOrc p others → rows ≡ others
same_rows o p rows others e h k = one_list_fits p rows others (subst (λ (x : Elf). HoldsOrc x rows) e h) k

pub walk_excluded : (bytes text : List ℕ) (image : StackImage) (o : Elf) (rows : List PlacedRow) (s : CommandStop) → IsPlaced bytes text image o rows → HasNoWalk bytes text s → s ≡ stop.NoMemory
walk_excluded bytes text image o rows s placed (no_image h) = absurd (image_excluded text image _ _ placed.is_image h)
walk_excluded bytes text image o rows s placed (no_rows other is h) = no_rows_excluded bytes o rows s placed.held h
walk_excluded bytes text image o rows s placed (foreign other p others is held f) =
    let places = same_places text image other placed.is_image is in
    let same = one_object bytes o p placed.held.object held.object in
    absurd (none-some _ (sym (ap (λ (x : Elf). first_foreign x other.places) (sym same) ∙ ap (λ (ps : List (ℕ × ℕ)). first_foreign o ps) (sym places) ∙ placed.texts) ∙ f))
walk_excluded bytes text image o rows s placed (unplaced other p others is held f fault) =
    let places = same_places text image other placed.is_image is in
    let same = one_object bytes o p placed.held.object held.object in
    let list = same_rows o p rows others same placed.held.held held.held in
    absurd (none-some _ (sym
    (ap (λ (r : List PlacedRow). place_fault r (ranges_of p other.places)) (sym list) ∙ ap (λ (x : Elf). place_fault rows (ranges_of x other.places)) (sym same) ∙ ap (λ (ps : List (ℕ × ℕ)). place_fault rows (ranges_of o ps)) (sym places) ∙ placed.fits) ∙ fault))
walk_excluded bytes text image o rows s placed no_memory = refl

bytes_left : (bytes text : List ℕ) (image : StackImage) (o : Elf) (rows : List PlacedRow) (before after : Output) (x : Status) → IsPlaced bytes text image o rows → Unwinds bytes text before after x → IsAnswered x
bytes_left bytes text image o rows before after x placed (walked stack p others frames s is walks t) = text_left _ before after x t
bytes_left bytes text image o rows before after x placed (stopped s h t) = no_memory_left s before after x (walk_excluded bytes text image o rows s placed h) t

pub unwind_left : (file image bytes text : List ℕ) (stack : StackImage) (o : Elf) (rows : List PlacedRow) (content : Content) (before after : Outside) (out out' : Output) (x : Status) → before.content ≡ Some content → reading content file MAX_FILE_BYTES ≡ Ok bytes → reading content image MAX_IMAGE_BYTES ≡ Ok text → IsPlaced bytes text stack o rows → EndsUnwind file image before after out out' x → IsAnswered x
unwind_left file image bytes text stack o rows content before after out out' x c is said placed (no_file s h t) = unread_left MAX_FILE_BYTES s file bytes content before after out out' x c is h t
unwind_left file image bytes text stack o rows content before after out out' x c is said placed (no_text other s may h t) = unread_left MAX_IMAGE_BYTES s image text content before after out out' x c said h t
unwind_left file image bytes text stack o rows content before after out out' x c is said placed (read other texts may may_text h) =
    let same = same_read other bytes (told_read MAX_FILE_BYTES before.content content file _ c may ∙ is) in
    let same_text = same_read texts text (told_read MAX_IMAGE_BYTES before.content content image _ c may_text ∙ said) in
    bytes_left bytes text stack o rows out out' x placed (subst (λ (b : List ℕ). Unwinds b text out out' x) same (subst (λ (t : List ℕ). Unwinds other t out out' x) same_text h))
