-- The objects that a layout names, from what reading them ensures.
use Rattle.std.proofs.Common.{◌≡◌, ℕ, suc, ◌+◌, ◌^◌, ◌<◌, ◌≤◌, false, List, [], ◌∷◌, ◌++◌, length, take, drop, get_or, refl, sym, ap, ◌∙◌, subst, arith, drop-cons, length-append}
use Rattle.std.specs.Prelude.{All, Option, Result, Ok, Err, is_err, is_ok, sum_by, if◌then◌else◌}
use Rattle.std.proofs.lemmas.List.Elements.{All-push}
use Rattle.std.proofs.lemmas.List.{length-map, length-take-le, map-append, take-append-drop, take_all, take_more}
use Rattle.std.proofs.lemmas.List.Sums.{sum_by-cons, sum_by_push}
use Rattle.ot_base.specs.declared.row.PlacedRow.{PlacedRow}
use Rattle.ot_files.specs.Content.{Content}
use Rattle.table_defs.specs.declared.range.Range.{Range}
use Rattle.elf_objects.specs.Elf.{Elf}
use Rattle.orc_merge.specs.LayoutFile.{FileSaid}
use Rattle.orc_merge.specs.LayoutReading.{file_of, files_of}
use Rattle.orc_merge.specs.Parts.{OwnedRange, AreRows, AreWithin, all_ranges, owned_ranges, ranges_from}
use Rattle.orc_merge.specs.declared.layout.LayoutFile.{LayoutFile}
use Rattle.orc_merge.specs.declared.part.Part.{Part}
use Rattle.command_base.specs.Dump.{HoldsRows, no_memory as rows_no_memory}
use Rattle.command_base.specs.Outside.{Outside}
use Rattle.command_base.specs.Stop.{of_part}
use Rattle.command_base.specs.Unwind.{IsForeign, range_of, ranges_of}
use Rattle.command_base.specs.declared.refusal.Refusal.TheVariants as refusal
use Rattle.command_base.specs.declared.stop.CommandStop.{CommandStop}
use Rattle.command_base.specs.declared.stop.CommandStop.TheVariants as stop
use Rattle.command_base.proofs.UnwindLemmas.{rows_within}
use Rattle.command_base.specs.Reading.{MayRead, StopsAtRead}
use Rattle.elf_objects.specs.declared.TheConstants.{MAX_FILE_BYTES}
use Rattle.std.proofs.lemmas.Bool.{false≢true}
use Rattle.command_base.proofs.Stops.{outside, read_earlier}
use Rattle.command_base.specs.Layouts.{number_of_places}
use Rattle.command_base.specs.MergedObjects.{ArePartsOf, CanBeMerged, HasNoPart, IsMergeable, IsNoPart, IsPartOf, StopsAtParts, at_file, foreign, no_memory, no_part, no_rows, unread}

-- ---- one object

pub foreign_part : (bytes : List ℕ) (o : Elf) (rows : List PlacedRow) (places : List (ℕ × ℕ)) (s : CommandStop) → HoldsRows bytes o rows → IsForeign o places s → IsNoPart bytes places s
foreign_part bytes o rows places (stop.Refused (refusal.NoText sec)) held h = foreign o rows held h
foreign_part bytes o rows places stop.NoMemory held h = no_rows rows_no_memory
foreign_part bytes o rows places (stop.Refused (refusal.Malformed fault)) held h = absurd h
foreign_part bytes o rows places (stop.Refused (refusal.Orc fault)) held h = absurd h
foreign_part bytes o rows places (stop.Refused (refusal.Lists fault)) held h = absurd h
foreign_part bytes o rows places (stop.Refused (refusal.Image fault)) held h = absurd h
foreign_part bytes o rows places (stop.Refused (refusal.Unplaced fault)) held h = absurd h
foreign_part bytes o rows places (stop.Refused (refusal.Unlinked told)) held h = absurd h
foreign_part bytes o rows places (stop.Refused (refusal.Unflowed told)) held h = absurd h
foreign_part bytes o rows places (stop.Refused (refusal.HasOrc sec)) held h = absurd h
foreign_part bytes o rows places (stop.Refused (refusal.HasSites sec)) held h = absurd h
foreign_part bytes o rows places (stop.Refused (refusal.Sites fault)) held h = absurd h
foreign_part bytes o rows places (stop.Refused (refusal.HasFrames sec)) held h = absurd h
foreign_part bytes o rows places (stop.Refused (refusal.Frames fault)) held h = absurd h
foreign_part bytes o rows places (stop.Refused (refusal.TooMany what count)) held h = absurd h
foreign_part bytes o rows places (stop.Refused (refusal.Layout fault)) held h = absurd h
foreign_part bytes o rows places (stop.Refused (refusal.TooManyFiles count)) held h = absurd h
foreign_part bytes o rows places (stop.Refused (refusal.Merge fault)) held h = absurd h
foreign_part bytes o rows places (stop.Refused (refusal.Table fault)) held h = absurd h
foreign_part bytes o rows places (stop.Refused (refusal.NoFunction function)) held h = absurd h
foreign_part bytes o rows places (stop.Usage usage) held h = absurd h
foreign_part bytes o rows places (stop.Missing file) held h = absurd h
foreign_part bytes o rows places (stop.TooLong file limit) held h = absurd h
foreign_part bytes o rows places (stop.PartMissing part file) held h = absurd h
foreign_part bytes o rows places (stop.PartTooLong part file limit) held h = absurd h
foreign_part bytes o rows places (stop.PartRefused part why) held h = absurd h
foreign_part bytes o rows places (stop.FileFault file) held h = absurd h

pub mergeable : (bytes : List ℕ) (o : Elf) (places : List (ℕ × ℕ)) (part : Part) → HoldsRows bytes o part.rows.items → length part.rows.items < 2 ^ 32 → part.ranges.items ≡ ranges_of o places → IsMergeable part (length places)
mergeable bytes o places part held few are = record {
  few = few;
  within = rows_within o places part.rows.items part.ranges.items part.rows.items are refl held.held;
  rows = λ k d h. (held.held.each k d h).row;
  ranges = ap length are ∙ length-map places (range_of o);
}

-- ---- all objects

pub parts_more : (content : Option Content) (files : List FileSaid) (parts : List Part) (file : FileSaid) (part : Part) → ArePartsOf content files parts → IsPartOf content file part → ArePartsOf content (files ++ file ∷ []) (parts ++ part ∷ [])
parts_more content [] [] file part are is = (is, tt)
parts_more content [] (one ∷ parts) file part are is = absurd are
parts_more content (other ∷ files) [] file part are is = absurd are
parts_more content (other ∷ files) (one ∷ parts) file part are is = (are.0, parts_more content files parts file part are.1 is)

pub same_number : (content : Option Content) (files : List FileSaid) (parts : List Part) → ArePartsOf content files parts → length files ≡ length parts
same_number content [] [] are = refl
same_number content [] (one ∷ parts) are = absurd are
same_number content (other ∷ files) [] are = absurd are
same_number content (other ∷ files) (one ∷ parts) are = ap suc (same_number content files parts are.1)

-- how many ranges objects have
abbrev pub range_count : List Part → ℕ
range_count parts = sum_by (λ part. length part.ranges.items) parts

ranges_length : (k : ℕ) (parts : List Part) → length (ranges_from k parts) ≡ range_count parts
ranges_length k [] = refl
ranges_length k (part ∷ parts) =
    let e : length (ranges_from k (part ∷ parts)) ≡ length (owned_ranges k part.ranges.items) + length (ranges_from (k + 1) parts) = length-append (owned_ranges k part.ranges.items) (ranges_from (k + 1) parts) in
    let f : range_count (part ∷ parts) ≡ length part.ranges.items + range_count parts = sum_by-cons (λ (one : Part). length one.ranges.items) part parts in
    let g : length (owned_ranges k part.ranges.items) ≡ length part.ranges.items = length-map {B = OwnedRange} part.ranges.items (λ (range : Range). (k, range)) in
    let h = ranges_length (k + 1) parts in
    omega (arith, e, f, g, h)

-- the files that were read so far, of those that a layout has, and what is known of their rows and ranges
pub record ReadSoFar (content : Option Content) (files : List LayoutFile) (parts : List Part) : Type 0 where
  pub are : ArePartsOf content (files_of files) parts
  pub few : All (λ part. length part.rows.items < 2 ^ 32) parts
  pub within : All AreWithin parts
  pub rows : All AreRows parts
  pub ranges : range_count parts ≡ number_of_places (files_of files)

pub none_read : (content : Option Content) (files : List LayoutFile) → ReadSoFar content (take 0 files) []
none_read content files = record {
  are = tt;
  few = λ k d h. absurd (omega arith);
  within = λ k d h. absurd (omega arith);
  rows = λ k d h. absurd (omega arith);
  ranges = refl;
}

files_taken : (files : List LayoutFile) (i : ℕ) (d : LayoutFile) → i < length files → files_of (take (i + 1) files) ≡ files_of (take i files) ++ file_of (get_or files i d) ∷ []
files_taken files i d inside = ap files_of (take_more files i d inside) ∙ map-append file_of (take i files) (get_or files i d ∷ [])

-- one file more
pub one_more : (content : Option Content) (files : List LayoutFile) (i : ℕ) (d : LayoutFile) (parts : List Part) (part : Part) → i < length files → ReadSoFar content (take i files) parts → IsPartOf content (file_of (get_or files i d)) part → IsMergeable part (length (get_or files i d).places.items) → ReadSoFar content (take (i + 1) files) (parts ++ part ∷ [])
one_more content files i d parts part inside so is can = record {
  are = subst (λ (fs : List FileSaid). ArePartsOf content fs (parts ++ part ∷ [])) (sym (files_taken files i d inside)) (parts_more content (files_of (take i files)) parts (file_of (get_or files i d)) part so.are is);
  few = All-push (λ (p : Part). length p.rows.items < 2 ^ 32) parts part so.few can.few;
  within = All-push AreWithin parts part so.within can.within;
  rows = All-push AreRows parts part so.rows can.rows;
  ranges = counted;
}
  where
    counted : range_count (parts ++ part ∷ []) ≡ number_of_places (files_of (take (i + 1) files))
    counted =
        let e = sum_by_push (λ (p : Part). length p.ranges.items) parts part in
        let f = ap number_of_places (files_taken files i d inside) in
        let g = sum_by_push (λ (one : FileSaid). length one.places) (files_of (take i files)) (file_of (get_or files i d)) in
        omega (arith, e, f, g, so.ranges, can.ranges)

-- all files are read
pub all_read : (content : Option Content) (said : List FileSaid) (files : List LayoutFile) (i : ℕ) (parts : List Part) → files_of files ≡ said → length files ≤ i → ReadSoFar content (take i files) parts → ArePartsOf content said parts
all_read content said files i parts same all so =
    subst (λ (fs : List FileSaid). ArePartsOf content fs parts) (ap files_of (take_all i files all) ∙ same) so.are

pub all_mergeable : (content : Option Content) (said : List FileSaid) (files : List LayoutFile) (i : ℕ) (parts : List Part) → files_of files ≡ said → length files ≤ i → ReadSoFar content (take i files) parts → length said < 2 ^ 32 → number_of_places said < 2 ^ 32 → CanBeMerged parts
all_mergeable content said files i parts same all so few places = record {
  number = omega (arith, same_number content said parts (all_read content said files i parts same all so), few);
  few = so.few;
  ranges = short;
  within = so.within;
  rows = so.rows;
}
  where
    short : length (all_ranges parts) < 2 ^ 32
    short =
        let e = ranges_length 0 parts in
        let f = ap number_of_places (ap files_of (take_all i files all) ∙ same) in
        omega (arith, e, f, so.ranges, places)

-- ---- where a file isn't one

around : (files : List LayoutFile) (i : ℕ) (d : LayoutFile) → i < length files → files_of files ≡ files_of (take i files) ++ file_of (get_or files i d) ∷ files_of (drop (suc i) files)
around files i d inside =
    ap files_of (sym (take-append-drop i files))
    ∙ map-append file_of (take i files) (drop i files)
    ∙ ap (λ (rest : List LayoutFile). files_of (take i files) ++ files_of rest) (drop-cons files i d inside)

pub stops_at : (content : Option Content) (said : List FileSaid) (files : List LayoutFile) (i : ℕ) (d : LayoutFile) (parts : List Part) (faults : ℕ) (after : Outside) (s told : CommandStop) → files_of files ≡ said → i < length files → ReadSoFar content (take i files) parts → HasNoPart (file_of (get_or files i d)) (record { content = content; faults = faults }) after s → told ≡ of_part i s → StopsAtParts said (record { content = content; faults = faults }) after told
stops_at content said files i d parts faults after s told same inside so none is =
    at_file (files_of (take i files)) (files_of (drop (suc i) files)) (file_of (get_or files i d)) parts s
    (sym same ∙ around files i d inside) so.are none
    (is ∙ ap (λ (n : ℕ). of_part n s) (sym (length-map (take i files) file_of ∙ length-take-le i files (omega arith))))

-- ---- what was met at a file, in the whole time before

none_earlier : (file : FileSaid) (content middle : Option Content) (before faults : ℕ) (after : Outside) (s : CommandStop) → middle ≡ content → before ≤ faults → HasNoPart file (outside middle faults) after s → HasNoPart file (outside content before) after s
none_earlier file content middle before faults after s same later (unread h) =
    unread (read_earlier MAX_FILE_BYTES s file.name content before faults after later (subst (λ (c : Option Content). StopsAtRead MAX_FILE_BYTES file.name (outside c faults) after s) same h))
none_earlier file content middle before faults after s same later (no_part bytes may h) =
    no_part bytes (subst (λ (c : Option Content). MayRead MAX_FILE_BYTES c file.name (Ok bytes)) same may) h

pub none_at : (files : List LayoutFile) (i : ℕ) (d : LayoutFile) (content middle : Option Content) (before faults : ℕ) (after : Outside) (s : CommandStop) → d ≡ get_or files i d → middle ≡ content → before ≤ faults → HasNoPart (file_of d) (outside middle faults) after s → HasNoPart (file_of (get_or files i d)) (outside content before) after s
none_at files i d content middle before faults after s is same later h =
    subst (λ (one : LayoutFile). HasNoPart (file_of one) (outside content before) after s) is (none_earlier (file_of d) content middle before faults after s same later h)

pub part_at : (files : List LayoutFile) (i : ℕ) (d : LayoutFile) (content middle : Option Content) (part : Part) → d ≡ get_or files i d → middle ≡ content → IsPartOf middle (file_of d) part → IsPartOf content (file_of (get_or files i d)) part
part_at files i d content middle part is same h =
    subst (λ (one : LayoutFile). IsPartOf content (file_of one) part) is (subst (λ (c : Option Content). IsPartOf c (file_of d) part) same h)

pub mergeable_at : (files : List LayoutFile) (i : ℕ) (d : LayoutFile) (part : Part) → d ≡ get_or files i d → IsMergeable part (length d.places.items) → IsMergeable part (length (get_or files i d).places.items)
mergeable_at files i d part is h = subst (λ (one : LayoutFile). IsMergeable part (length one.places.items)) is h

pub parts_earlier : (said : List FileSaid) (content middle : Option Content) (before faults : ℕ) (after : Outside) (s : CommandStop) → middle ≡ content → before ≤ faults → StopsAtParts said (outside middle faults) after s → StopsAtParts said (outside content before) after s
parts_earlier said content middle before faults after s same later (at_file ahead behind file parts told split are none at) =
    at_file ahead behind file parts told split (subst (λ (c : Option Content). ArePartsOf c ahead parts) same are) (none_earlier file content middle before faults after told same later none) at
parts_earlier said content middle before faults after stop.NoMemory same later no_memory = no_memory

-- a file that is read as no part
pub part_missing : (content : Option Content) (faults : ℕ) (after : Outside) (file : FileSaid) (name bytes slice : List ℕ) (places : List (ℕ × ℕ)) (s : CommandStop) → name ≡ file.name → slice ≡ bytes → places ≡ file.places → MayRead MAX_FILE_BYTES content name (Ok bytes) → IsNoPart slice places s → HasNoPart file (outside content faults) after s
part_missing content faults after file name bytes slice places s named same placed may h =
    no_part bytes (subst (λ (n : List ℕ). MayRead MAX_FILE_BYTES content n (Ok bytes)) named may)
    (subst (λ (b : List ℕ). IsNoPart b file.places s) same (subst (λ (ps : List (ℕ × ℕ)). IsNoPart slice ps s) placed h))

pub part_unread : (content : Option Content) (faults : ℕ) (after : Outside) (file : FileSaid) (name : List ℕ) (s : CommandStop) → name ≡ file.name → StopsAtRead MAX_FILE_BYTES name (outside content faults) after s → HasNoPart file (outside content faults) after s
part_unread content faults after file name s named h = unread (subst (λ (n : List ℕ). StopsAtRead MAX_FILE_BYTES n (outside content faults) after s) named h)

pub pushed : {T E : Type 0} (r : Result T E) (after more before : List Part) → is_err r ≡ false → after ≡ (if is_ok r then more else before) → after ≡ more
pushed (Ok x) after more before e h = h
pushed (Err x) after more before e h = absurd (false≢true (sym e))
