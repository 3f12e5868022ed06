-- The text of a walk, and the places of an image.
use Rattle.std.proofs.Common.{◌≡◌, ℕ, suc, zero, ◌+◌, ◌<◌, ◌≤◌, Bool, true, false, cond, List, [], ◌∷◌, ◌++◌, length, take, drop, get_or, refl, sym, ap, ◌∙◌, subst, arith, inl, inr, append-nil, append_assoc, Option, Some, None}
use Rattle.std.specs.Prelude.{find, map, option_map, not, All, IfSome, Result, Ok, Err, is_err, is_ok, ◌==◌, ◌⊎◌, if◌then◌else◌}
use Rattle.std.proofs.lemmas.Bool.{eqb-true, false≢true}
use Rattle.std.proofs.lemmas.List.{map-append, take_all, take_more}
use Rattle.ot_files.specs.Output.{appending}
use Rattle.table_defs.specs.declared.frame.Frame.{Frame}
use Rattle.table_defs.specs.declared.frame.Stop as walk
use Rattle.elf_objects.specs.Elf.{Elf}
use Rattle.command_base.specs.declared.status.Status.{Status}
use Rattle.command_base.specs.declared.status.Status.TheVariants as status
use Rattle.command_base.specs.Outside.{Output}
use Rattle.command_base.specs.Printing.{FailsToPrint, Prints, whole}
use Rattle.command_base.proofs.PrintLemmas.{appended_twice, part_fails, rose_before}
use Rattle.std.proofs.lemmas.Option.{get_or_from_slice_get}
use Rattle.ot_base.specs.declared.row.PlacedRow.{PlacedRow}
use Rattle.ot_files.specs.Content.{Content}
use Rattle.table_defs.specs.declared.frame.Regs.{Regs}
use Rattle.table_defs.specs.declared.frame.Stop.TheVariants as walk_stop
use Rattle.table_defs.specs.declared.range.Range.{Range}
use Rattle.table_defs.specs.Walk.{Walks}
use Rattle.elf_objects.specs.Elf.{SectionEntry}
use Rattle.elf_objects.specs.Contents.{no_section, section_at}
use Rattle.orc_bytes.specs.Sections.{HoldsOrc, IsRowOf}
use Rattle.orc_walk.specs.Table.{IsWithin}
use Rattle.orc_walk.specs.Faults.{place_fault}
use Rattle.orc_walk.specs.declared.faults.PlaceFault.{PlaceFault}
use Rattle.orc_walk.specs.declared.faults.PlaceFault.TheVariants as place_fault_at
use Rattle.orc_walk.specs.Memory.{Piece, word_at}
use Rattle.orc_walk.specs.Walked.{Walked, whole as walked_whole, front}
use Rattle.orc_walk.specs.ImageFile.{IsImage, IsImageFault, StackImage}
use Rattle.orc_walk.specs.declared.image_fault.ImageFault.{ImageFault}
use Rattle.orc_walk.specs.declared.image_fault.ImageFault.TheVariants as image_fault
use Rattle.command_base.specs.declared.refusal.Refusal.TheVariants as refusal
use Rattle.command_base.specs.declared.stop.CommandStop.{CommandStop}
use Rattle.command_base.specs.declared.stop.CommandStop.TheVariants as stop
use Rattle.command_base.specs.Outside.{Outside}
use Rattle.command_base.specs.Reading.{MayRead, StopsAtRead, image_stop, place_stop}
use Rattle.command_base.specs.Dump.{HoldsRows}
use Rattle.command_base.specs.Unwind.{HasNoWalk, IsForeign, IsPlaced, Unwinds, WalksBy, first_foreign, foreign, is_text_section, no_image, no_memory, range_of, ranges_of, unplaced}
use Rattle.command_base.specs.WalkText.{frame_line, frames_text, stop_line, walk_text}

-- the text of frames: those before an index, the frame's line, and those behind it
frames_around : (n : ℕ) (frames : List Frame) (i : ℕ) (d : Frame) → i < length frames → frames_text n frames ≡ frames_text n (take i frames) ++ frame_line (n + i) (get_or frames i d) ++ frames_text (n + i + 1) (drop (suc i) frames)
frames_around n [] i d inside = absurd (omega arith)
frames_around n (frame ∷ frames) zero d inside =
    ap (λ (m : ℕ). frame_line m frame ++ frames_text (m + 1) frames) (omega arith)
frames_around n (frame ∷ frames) (suc i) d inside =
    ap (λ (rest : List ℕ). frame_line n frame ++ rest) (frames_around (n + 1) frames i d (omega arith))
    ∙ ap (λ (m : ℕ). frame_line n frame ++ (frames_text (n + 1) (take i frames) ++ frame_line m (get_or frames i d) ++ frames_text (m + 1) (drop (suc i) frames))) (omega arith)
    ∙ regroup (frame_line n frame) (frames_text (n + 1) (take i frames)) (frame_line (n + suc i) (get_or frames i d)) (frames_text (n + suc i + 1) (drop (suc i) frames))
  where
    regroup : (a b c e : List ℕ) → a ++ (b ++ c ++ e) ≡ (a ++ b) ++ c ++ e
    regroup a b c e = sym (append_assoc a (b ++ c) e) ∙ ap (λ (x : List ℕ). x ++ e) (sym (append_assoc a b c))

-- with one more frame
frames_more : (n : ℕ) (frames : List Frame) (i : ℕ) (d : Frame) → i < length frames → frames_text n (take (suc i) frames) ≡ frames_text n (take i frames) ++ frame_line (n + i) (get_or frames i d)
frames_more n [] i d inside = absurd (omega arith)
frames_more n (frame ∷ frames) zero d inside = append-nil (frame_line n frame) ∙ ap (λ (m : ℕ). frame_line m frame) (omega arith)
frames_more n (frame ∷ frames) (suc i) d inside =
    ap (λ (rest : List ℕ). frame_line n frame ++ rest) (frames_more (n + 1) frames i d (omega arith) ∙ ap (λ (m : ℕ). frames_text (n + 1) (take i frames) ++ frame_line m (get_or frames i d)) (omega arith))
    ∙ sym (append_assoc (frame_line n frame) (frames_text (n + 1) (take i frames)) (frame_line (n + suc i) (get_or frames i d)))

pub frame_fails : (frames : List Frame) (stop : walk.Stop) (i : ℕ) (d : Frame) (before middle after : Output) (s : Status) → i < length frames → middle.written ≡ appending before.written (frames_text 0 (take i frames)) → before.faults ≤ middle.faults → FailsToPrint (frame_line i (get_or frames i d)) middle after s → Prints status.Done (walk_text frames stop) before after s
frame_fails frames stop i d before middle after s inside so later h =
    let text : walk_text frames stop ≡ frames_text 0 (take i frames) ++ frame_line i (get_or frames i d) ++ (frames_text (i + 1) (drop (suc i) frames) ++ stop_line stop) =
    ap (λ (all : List ℕ). all ++ stop_line stop) (frames_around 0 frames i d inside ∙ ap (λ (m : ℕ). frames_text 0 (take i frames) ++ frame_line m (get_or frames i d) ++ frames_text (m + 1) (drop (suc i) frames)) (omega arith))
    ∙ append_assoc (frames_text 0 (take i frames) ++ frame_line i (get_or frames i d)) (frames_text (i + 1) (drop (suc i) frames)) (stop_line stop) in
    subst (λ (all : List ℕ). Prints status.Done all before after s) (sym text) (part_fails (frames_text 0 (take i frames)) (frame_line i (get_or frames i d)) (frames_text (i + 1) (drop (suc i) frames) ++ stop_line stop) before middle after s so later h)

pub frame_printed : (frames : List Frame) (i : ℕ) (d : Frame) (before middle after : Option (List ℕ)) → i < length frames → middle ≡ appending before (frames_text 0 (take i frames)) → after ≡ appending middle (frame_line i (get_or frames i d)) → after ≡ appending before (frames_text 0 (take (i + 1) frames))
frame_printed frames i d before middle after inside so more =
    let from_zero : i ≡ 0 + i = omega arith in
    let next : suc i ≡ i + 1 = omega arith in
    more
    ∙ ap (λ (told : Option (List ℕ)). appending told (frame_line i (get_or frames i d))) so
    ∙ appended_twice before (frames_text 0 (take i frames)) (frame_line i (get_or frames i d))
    ∙ ap (λ (m : ℕ). appending before (frames_text 0 (take i frames) ++ frame_line m (get_or frames i d))) from_zero
    ∙ ap (λ (text : List ℕ). appending before text) (sym (frames_more 0 frames i d inside))
    ∙ ap (λ (m : ℕ). appending before (frames_text 0 (take m frames))) next

-- the line of the stop, behind all frames
pub stop_fails : (frames : List Frame) (stop : walk.Stop) (i : ℕ) (before middle after : Output) (s : Status) → length frames ≤ i → middle.written ≡ appending before.written (frames_text 0 (take i frames)) → before.faults ≤ middle.faults → FailsToPrint (stop_line stop) middle after s → Prints status.Done (walk_text frames stop) before after s
stop_fails frames stop i before middle after s all so later h =
    subst (λ (text : List ℕ). Prints status.Done text before after s) (append-nil (frames_text 0 frames ++ stop_line stop))
    (part_fails (frames_text 0 frames) (stop_line stop) [] before middle after s (so ∙ ap (λ (some : List Frame). appending before.written (frames_text 0 some)) (take_all i frames all)) later h)

pub stop_printed : (frames : List Frame) (stop : walk.Stop) (i : ℕ) (before middle after : Output) → length frames ≤ i → middle.written ≡ appending before.written (frames_text 0 (take i frames)) → after.written ≡ appending middle.written (stop_line stop) → Prints status.Done (walk_text frames stop) before after status.Done
stop_printed frames stop i before middle after all so more =
    whole refl
    (more
    ∙ ap (λ (told : Option (List ℕ)). appending told (stop_line stop)) (so ∙ ap (λ (some : List Frame). appending before.written (frames_text 0 some)) (take_all i frames all))
    ∙ appended_twice before.written (frames_text 0 frames) (stop_line stop))

-- ---- places

-- what is found first, where nothing before it is
pub find_first : {X : Type 0} (p : X → Bool) (xs : List X) (i : ℕ) (d : X) → i < length xs → find p (take i xs) ≡ None → p (get_or xs i d) ≡ true → find p xs ≡ Some (get_or xs i d)
find_first p [] i d inside none fits = absurd (omega arith)
find_first p (x ∷ xs) zero d inside none fits = ap (λ b. cond b (Some x) (find p xs)) fits
find_first p (x ∷ xs) (suc i) d inside none fits = go (p x) refl none (λ before. find_first p xs i d (omega arith) before fits)
  where
    go : (b : Bool) → p x ≡ b → cond (p x) (Some x) (find p (take i xs)) ≡ None → (find p (take i xs) ≡ None → find p xs ≡ Some (get_or xs i d)) → cond (p x) (Some x) (find p xs) ≡ Some (get_or xs i d)
    go true e h later = let u : Some x ≡ None = ap (λ b. cond b (Some x) (find p (take i xs))) (sym e) ∙ h in cc
    go false e h later = ap (λ b. cond b (Some x) (find p xs)) e ∙ later (ap (λ b. cond b (Some x) (find p (take i xs))) (sym e) ∙ h)

find_none_behind : {X : Type 0} (p : X → Bool) (xs : List X) (y : X) → find p xs ≡ None → p y ≡ false → find p (xs ++ y ∷ []) ≡ None
find_none_behind p [] y none other = ap (λ b. cond b (Some y) None) other
find_none_behind p (x ∷ xs) y none other = go (p x) refl none (λ before. find_none_behind p xs y before other)
  where
    go : (b : Bool) → p x ≡ b → cond (p x) (Some x) (find p xs) ≡ None → (find p xs ≡ None → find p (xs ++ y ∷ []) ≡ None) → cond (p x) (Some x) (find p (xs ++ y ∷ [])) ≡ None
    go true e h later = let u : Some x ≡ None = ap (λ b. cond b (Some x) (find p xs)) (sym e) ∙ h in cc
    go false e h later = ap (λ b. cond b (Some x) (find p (xs ++ y ∷ []))) e ∙ later (ap (λ b. cond b (Some x) (find p xs)) (sym e) ∙ h)

pub find_none_more : {X : Type 0} (p : X → Bool) (xs : List X) (i : ℕ) (d : X) → i < length xs → find p (take i xs) ≡ None → p (get_or xs i d) ≡ false → find p (take (i + 1) xs) ≡ None
find_none_more p xs i d inside none other = ap (λ some. find p some) (take_more xs i d inside) ∙ find_none_behind p (take i xs) (get_or xs i d) none other

pub foreign_first : (o : Elf) (places : List (ℕ × ℕ)) (i : ℕ) (d : ℕ × ℕ) → i < length places → find (λ place. not (is_text_section o place.0)) (take i places) ≡ None → is_text_section o (get_or places i d).0 ≡ false → first_foreign o places ≡ Some (get_or places i d).0
foreign_first o places i d inside none other = ap (λ found. option_map (λ (place : ℕ × ℕ). place.0) found) (find_first (λ place. not (is_text_section o place.0)) places i d inside none (ap not other))

pub ranges_more : (o : Elf) (places : List (ℕ × ℕ)) (i : ℕ) (d : ℕ × ℕ) (before after : List Range) → i < length places → before ≡ ranges_of o (take i places) → after ≡ before ++ range_of o (get_or places i d) ∷ [] → after ≡ ranges_of o (take (i + 1) places)
ranges_more o places i d before after inside so more =
    more
    ∙ ap (λ rs. rs ++ range_of o (get_or places i d) ∷ []) so
    ∙ sym (map-append (range_of o) (take i places) (get_or places i d ∷ []))
    ∙ ap (λ some. map (range_of o) some) (sym (take_more places i d inside))

-- the range that is added is the place's
pub range_is : (o : Elf) (place : ℕ × ℕ) (size : ℕ) (before after : List Range) → size ≡ (section_at o place.0).size → after ≡ before ++ record { sec = place.0; base = place.1; size = size } ∷ [] → after ≡ before ++ range_of o place ∷ []
range_is o place size before after same more = more ∙ ap (λ (n : ℕ). before ++ record { sec = place.0; base = place.1; size = n } ∷ []) same

pub pushed : {T E : Type 0} (r : Result T E) (after more before : List Range) → is_err r ≡ false → after ≡ (if is_ok r then more else before) → after ≡ more
pushed (Ok x) after more before e h = h
pushed (Err x) after more before e h = absurd (false≢true (sym e))

-- ---- rows in the ranges

-- the range of a section has the section's size
found_size : (o : Elf) (places : List (ℕ × ℕ)) (sec : ℕ) → IfSome (find (λ (range : Range). range.sec == sec) (ranges_of o places)) (λ range. range.size ≡ (section_at o sec).size)
found_size o [] sec = tt
found_size o (place ∷ places) sec = go (place.0 == sec) refl (found_size o places sec)
  where
    go : (b : Bool) → (place.0 == sec) ≡ b → IfSome (find (λ (range : Range). range.sec == sec) (ranges_of o places)) (λ range. range.size ≡ (section_at o sec).size) → IfSome (cond (place.0 == sec) (Some (range_of o place)) (find (λ (range : Range). range.sec == sec) (ranges_of o places))) (λ range. range.size ≡ (section_at o sec).size)
    go true e later = subst (λ b. IfSome (cond b (Some (range_of o place)) (find (λ (range : Range). range.sec == sec) (ranges_of o places))) (λ range. range.size ≡ (section_at o sec).size)) (sym e) (ap (λ (n : ℕ). (section_at o n).size) (eqb-true place.0 sec e))
    go false e later = subst (λ b. IfSome (cond b (Some (range_of o place)) (find (λ (range : Range). range.sec == sec) (ranges_of o places))) (λ range. range.size ≡ (section_at o sec).size)) (sym e) later

within_found : (o : Elf) (placed : PlacedRow) (found : Option Range) → placed.place.off ≤ (section_at o placed.place.sec).size → IfSome found (λ range. range.size ≡ (section_at o placed.place.sec).size) → IfSome found (λ range. placed.place.off ≤ range.size)
within_found o placed None fits is = tt
within_found o placed (Some range) fits is = omega (arith, fits, is)

off_fits : (o : Elf) (placed : PlacedRow) → IsRowOf o placed → placed.place.off ≤ (section_at o placed.place.sec).size
off_fits o placed row =
    let here : section_at o placed.place.sec ≡ row.section = get_or_from_slice_get o.sections placed.place.sec row.section no_section row.at in
    omega (arith, row.inside, ap (λ (s : SectionEntry). s.size) here)

pub rows_within : (o : Elf) (places : List (ℕ × ℕ)) (rows : List PlacedRow) (ranges : List Range) (held : List PlacedRow) → ranges ≡ ranges_of o places → held ≡ rows → HoldsOrc o rows → All (IsWithin ranges) held
rows_within o places rows ranges held are same holds =
    subst (λ (rs : List Range). All (IsWithin rs) held) (sym are) (subst (λ (r : List PlacedRow). All (IsWithin (ranges_of o places)) r) (sym same)
    (λ k d h. within_found o (get_or rows k d) (find (λ (range : Range). range.sec == (get_or rows k d).place.sec) (ranges_of o places)) (off_fits o (get_or rows k d) (holds.each k d h)) (found_size o places (get_or rows k d).place.sec)))

-- ---- why there is no walk

pub foreign_walk : (bytes text : List ℕ) (image : StackImage) (o : Elf) (rows : List PlacedRow) (s : CommandStop) → IsImage text image → HoldsRows bytes o rows → IsForeign o image.places s → HasNoWalk bytes text s
foreign_walk bytes text image o rows (stop.Refused (refusal.NoText sec)) is held h = foreign image o rows is held h
foreign_walk bytes text image o rows stop.NoMemory is held h = no_memory
foreign_walk bytes text image o rows (stop.Refused (refusal.Malformed fault)) is held h = absurd h
foreign_walk bytes text image o rows (stop.Refused (refusal.Orc fault)) is held h = absurd h
foreign_walk bytes text image o rows (stop.Refused (refusal.Lists fault)) is held h = absurd h
foreign_walk bytes text image o rows (stop.Refused (refusal.Image fault)) is held h = absurd h
foreign_walk bytes text image o rows (stop.Refused (refusal.Unplaced fault)) is held h = absurd h
foreign_walk bytes text image o rows (stop.Refused (refusal.Unlinked told)) is held h = absurd h
foreign_walk bytes text image o rows (stop.Refused (refusal.Unflowed told)) is held h = absurd h
foreign_walk bytes text image o rows (stop.Refused (refusal.HasOrc sec)) is held h = absurd h
foreign_walk bytes text image o rows (stop.Refused (refusal.HasSites sec)) is held h = absurd h
foreign_walk bytes text image o rows (stop.Refused (refusal.Sites why)) is held h = absurd h
foreign_walk bytes text image o rows (stop.Refused (refusal.HasFrames sec)) is held h = absurd h
foreign_walk bytes text image o rows (stop.Refused (refusal.Frames why)) is held h = absurd h
foreign_walk bytes text image o rows (stop.Refused (refusal.Layout why)) is held h = absurd h
foreign_walk bytes text image o rows (stop.Refused (refusal.TooManyFiles count)) is held h = absurd h
foreign_walk bytes text image o rows (stop.Refused (refusal.Merge why)) is held h = absurd h
foreign_walk bytes text image o rows (stop.Refused (refusal.Table why)) is held h = absurd h
foreign_walk bytes text image o rows (stop.Refused (refusal.NoFunction function)) is held h = absurd h
foreign_walk bytes text image o rows (stop.Refused (refusal.TooMany what count)) is held h = absurd h
foreign_walk bytes text image o rows (stop.Usage usage) is held h = absurd h
foreign_walk bytes text image o rows (stop.PartMissing part file) is held h = absurd h
foreign_walk bytes text image o rows (stop.PartTooLong part file limit) is held h = absurd h
foreign_walk bytes text image o rows (stop.PartRefused part refusal) is held h = absurd h
foreign_walk bytes text image o rows (stop.Missing file) is held h = absurd h
foreign_walk bytes text image o rows (stop.TooLong file limit) is held h = absurd h
foreign_walk bytes text image o rows (stop.FileFault file) is held h = absurd h

pub image_refused : (bytes text : List ℕ) (fault : ImageFault) → IsImageFault text fault → HasNoWalk bytes text (image_stop fault)
image_refused bytes text (image_fault.Line line why) h = no_image h
image_refused bytes text image_fault.NoMemory h = no_memory

-- the rows and the ranges are those that were placed
same_fault : (o : Elf) (image : StackImage) (rows one : List PlacedRow) (ranges : List Range) (found : Option PlaceFault) → one ≡ rows → ranges ≡ ranges_of o image.places → place_fault one ranges ≡ found → place_fault rows (ranges_of o image.places) ≡ found
same_fault o image rows one ranges found same are is = ap (λ (r : List PlacedRow). place_fault r (ranges_of o image.places)) (sym same) ∙ ap (λ (rs : List Range). place_fault one rs) (sym are) ∙ is

pub unplaced_walk : (bytes text : List ℕ) (image : StackImage) (o : Elf) (rows one : List PlacedRow) (ranges : List Range) (fault : PlaceFault) → IsImage text image → HoldsRows bytes o rows → first_foreign o image.places ≡ None → one ≡ rows → ranges ≡ ranges_of o image.places → (fault ≡ place_fault_at.NoMemory) ⊎ (place_fault one ranges ≡ Some fault) → HasNoWalk bytes text (place_stop fault)
unplaced_walk bytes text image o rows one ranges place_fault_at.NoMemory is held texts same are h = no_memory
unplaced_walk bytes text image o rows one ranges (place_fault_at.At sec why) is held texts same are (inl none) = let u : ◌≡◌ {A = PlaceFault} (place_fault_at.At sec why) place_fault_at.NoMemory = none in absurd (let never : ⊥ = cc in never)
unplaced_walk bytes text image o rows one ranges (place_fault_at.At sec why) is held texts same are (inr found) =
    unplaced image o rows is held texts (same_fault o image rows one ranges (Some (place_fault_at.At sec why)) same are found)

pub placed_is : (bytes text : List ℕ) (image : StackImage) (o : Elf) (rows one : List PlacedRow) (ranges : List Range) → IsImage text image → HoldsRows bytes o rows → first_foreign o image.places ≡ None → one ≡ rows → ranges ≡ ranges_of o image.places → place_fault one ranges ≡ None → IsPlaced bytes text image o rows
placed_is bytes text image o rows one ranges is held texts same are fits = record { is_image = is; held = held; texts = texts; fits = same_fault o image rows one ranges None same are fits }

-- the walk is whole where memory didn't run out
pub whole_walk : (rows : List PlacedRow) (ranges : List Range) (memory : ℕ → Option ℕ) (regs : Regs) (frames : List Frame) (s : walk.Stop) → (s ≡ walk_stop.NoMemory → ⊥) → Walked rows ranges memory regs frames s → Walks rows ranges memory regs frames s
whole_walk rows ranges memory regs frames s other (walked_whole walks) = walks
whole_walk rows ranges memory regs frames walk_stop.NoMemory other (front is) = absurd (other refl)

-- the walk that was made is the image's
pub walk_is : (image : StackImage) (o : Elf) (rows one : List PlacedRow) (ranges : List Range) (memory : List Piece) (regs : Regs) (frames found : List Frame) (s : walk.Stop) → one ≡ rows → ranges ≡ ranges_of o image.places → memory ≡ image.memory → regs ≡ image.regs → found ≡ frames → (s ≡ walk_stop.NoMemory → ⊥) → Walked one ranges (word_at memory) regs frames s → WalksBy image o rows found s
walk_is image o rows one ranges memory regs frames found s same are kept at all other walks =
    subst (λ (fs : List Frame). WalksBy image o rows fs s) (sym all)
    (subst (λ (r : Regs). Walks rows (ranges_of o image.places) (word_at image.memory) r frames s) at
    (subst (λ (m : List Piece). Walks rows (ranges_of o image.places) (word_at m) regs frames s) kept
    (subst (λ (rs : List Range). Walks rows rs (word_at memory) regs frames s) are
    (subst (λ (r : List PlacedRow). Walks r ranges (word_at memory) regs frames s) same (whole_walk one ranges (word_at memory) regs frames s other walks)))))

-- ---- reading two files, one after the other

read_earlier : (limit : ℕ) (s : CommandStop) (name : List ℕ) (content : Option Content) (before middle : ℕ) (after : Outside) → before ≤ middle → StopsAtRead limit name (record { content = content; faults = middle }) after s → StopsAtRead limit name (record { content = content; faults = before }) after s
read_earlier limit (stop.Usage usage) name content before middle after later h = h
read_earlier limit (stop.PartMissing part file) name content before middle after later h = h
read_earlier limit (stop.PartTooLong part file told_limit) name content before middle after later h = h
read_earlier limit (stop.PartRefused part refusal) name content before middle after later h = h
read_earlier limit (stop.Missing file) name content before middle after later h = h
read_earlier limit (stop.TooLong file at) name content before middle after later h = h
read_earlier limit (stop.Refused refusal) name content before middle after later h = h
read_earlier limit (stop.FileFault file) name content before middle after later h = (h.0, rose_before before middle after.faults later h.1)
read_earlier limit stop.NoMemory name content before middle after later h = h

pub read_second : (limit : ℕ) (s : CommandStop) (name : List ℕ) (content middle : Option Content) (before faults : ℕ) (after : Outside) → middle ≡ content → before ≤ faults → StopsAtRead limit name (record { content = middle; faults = faults }) after s → StopsAtRead limit name (record { content = content; faults = before }) after s
read_second limit s name content middle before faults after same later h = read_earlier limit s name content before faults after later (subst (λ (c : Option Content). StopsAtRead limit name (record { content = c; faults = faults }) after s) same h)

pub may_second : (limit : ℕ) (name text : List ℕ) (content middle : Option Content) → middle ≡ content → MayRead limit middle name (Ok text) → MayRead limit content name (Ok text)
may_second limit name text content middle same may = subst (λ (c : Option Content). MayRead limit c name (Ok text)) same may

pub unwound_as : (bytes others text texts : List ℕ) (before after : Output) (s : Status) → bytes ≡ others → text ≡ texts → Unwinds bytes text before after s → Unwinds others texts before after s
unwound_as bytes others text texts before after s same is h = subst (λ (b : List ℕ). Unwinds b texts before after s) same (subst (λ (t : List ℕ). Unwinds bytes t before after s) is h)
