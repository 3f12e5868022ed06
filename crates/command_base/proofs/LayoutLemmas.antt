-- What a layout names: why it names no files, and how many places it has.
use Rattle.std.proofs.Common.{◌≡◌, ℕ, ◌+◌, ◌-◌, ◌<◌, ◌≤◌, List, [], ◌∷◌, Option, Some, None, sym, ap, ◌∙◌, subst, suc, ◌^◌, length, length-append, arith}
use Rattle.std.specs.Prelude.{◌==◌, filter_map, fold}
use Rattle.std.specs.List.{cons_option}
use Rattle.std.specs.Result.{result_ok}
use Rattle.std.proofs.lemmas.List.Sums.{count_by-le-length, sum_by-append, sum_by-cons}
use Rattle.std.proofs.lemmas.List.Splits.{length-slice_split}
use Rattle.ot_base.specs.NamesFile.{lines}
use Rattle.orc_merge.specs.declared.faults.LayoutFault.{LayoutFault}
use Rattle.orc_merge.specs.declared.faults.LayoutFault.TheVariants as layout_fault
use Rattle.orc_merge.specs.declared.faults.LayoutWhy.{LayoutWhy}
use Rattle.orc_merge.specs.LayoutLines.{Said, nothing, file, place, said}
use Rattle.orc_merge.specs.LayoutFile.{FileSaid, IsFirstFault, IsLayout, IsLayoutFault, layout_files, with_place, with_saying}
use Rattle.orc_merge.specs.LayoutReading.{file_of, files_of}
use Rattle.orc_merge.specs.declared.layout.LayoutFile.{LayoutFile}
use Rattle.command_base.specs.Reading.{layout_stop}
use Rattle.command_base.specs.declared.refusal.Refusal.TheVariants.{TooManyFiles}
use Rattle.command_base.specs.declared.stop.CommandStop.TheVariants.{Refused}
use Rattle.std.proofs.lemmas.List.{length-map}
use Rattle.command_base.specs.Layouts.{NamesNoFiles, faulty, no_memory, number_of_places, too_many}
use Rattle.command_base.specs.declared.layouts.TheConstants.{MOST_FILES}

pub no_layout : (text : List ℕ) (fault : LayoutFault) → IsLayoutFault text fault → NamesNoFiles text (layout_stop fault)
no_layout text (layout_fault.Line line why) h = faulty h
no_layout text layout_fault.NoMemory h = no_memory

-- a layout has no faulty line
pub no_faulty_line : (text : List ℕ) (line : ℕ) (why : LayoutWhy) → IsLayout text → IsFirstFault text line why → ⊥
no_faulty_line text line why is h =
    let inside : line - 1 < length (lines text) = omega (arith, h.counted, h.there) in
    let same : ◌≡◌ {A = Option LayoutWhy} None (Some why) = sym (is (line - 1) inside) ∙ h.fault in
    cc

-- ---- how many places

-- a place more in the last file is one more
one_more : (files : List FileSaid) (at : ℕ × ℕ) → number_of_places (with_place files at) ≤ number_of_places files + 1
one_more [] at = omega arith
one_more (one ∷ []) at = omega (arith, length-append one.places (at ∷ []))
one_more (one ∷ other ∷ files) at =
    let e : number_of_places (with_place (one ∷ other ∷ files) at) ≡ length one.places + number_of_places (with_place (other ∷ files) at) = sum_by-cons (λ (file : FileSaid). length file.places) one (with_place (other ∷ files) at) in
    let f : number_of_places (one ∷ other ∷ files) ≡ length one.places + number_of_places (other ∷ files) = sum_by-cons (λ (file : FileSaid). length file.places) one (other ∷ files) in
    let g = one_more (other ∷ files) at in
    omega (arith, e, f, g)

-- what a line says adds at most one
saying_more : (files : List FileSaid) (saying : Said) → number_of_places (with_saying files saying) ≤ number_of_places files + 1
saying_more files nothing = omega arith
saying_more files (file name) = omega (arith, sum_by-append (λ (one : FileSaid). length one.places) files (record { name = name; places = [] } ∷ []))
saying_more files (place section base) = one_more files (section, base)

sayings_more : (sayings : List Said) (files : List FileSaid) → number_of_places (fold with_saying files sayings) ≤ number_of_places files + length sayings
sayings_more [] files = omega arith
sayings_more (saying ∷ sayings) files = omega (arith, sayings_more sayings (with_saying files saying), saying_more files saying)

-- not more sayings than lines
fewer : {A B : Type 0} (f : A → Option B) (xs : List A) → length (filter_map f xs) ≤ length xs
fewer f [] = omega arith
fewer {A} {B} f (x ∷ xs) = go (f x) (fewer f xs)
  where
    go : (o : Option B) → length (filter_map f xs) ≤ length xs → length (cons_option o (filter_map f xs)) ≤ suc (length xs)
    go None h = omega arith
    go (Some y) h = omega arith

lines_below : (text : List ℕ) → length (lines text) ≤ length text + 1
lines_below text = omega (arith, length-slice_split (λ b. b == 10) text, count_by-le-length (λ b. b == 10) text)

-- a layout has no more places than it has bytes, and one
pub places_below : (text : List ℕ) → number_of_places (layout_files text) ≤ length text + 1
places_below text =
    omega (arith, sayings_more (filter_map (λ line. result_ok (said line)) (lines text)) [], fewer (λ line. result_ok (said line)) (lines text), lines_below text)

pub few_places : (text : List ℕ) (files : List FileSaid) → files ≡ layout_files text → length text ≤ 16777216 → number_of_places files < 2 ^ 32
few_places text files is short = let e = ap number_of_places is in omega (arith, e, places_below text)

pub names_too_many : (text : List ℕ) (layout : List FileSaid) (files : List LayoutFile) → IsLayout text → layout ≡ layout_files text → files_of files ≡ layout → MOST_FILES < length files → NamesNoFiles text (Refused (TooManyFiles (length files)))
names_too_many text layout files is said same many =
    let e : length files ≡ length (layout_files text) = sym (length-map files file_of) ∙ ap length (same ∙ said) in
    too_many is e (subst (λ (n : ℕ). MOST_FILES < n) e many)
