-- The rows of an object, and the places of an image of a state, in the object with its tables.
use Rattle.std.proofs.Common.{◌≡◌, ℕ, zero, suc, ◌+◌, ◌-◌, ◌^◌, ◌<◌, Bool, true, false, cond, not, ◌&&◌, ◌||◌, List, [], ◌∷◌, ◌++◌, map, length, get_or, Some, None, refl, sym, ap, ◌∙◌, subst, arith, inl, inr, length-append, append_assoc, max}
use Rattle.std.specs.Prelude.{All, AllPairs, IsTrue, filter, find, option_map, ◌==◌, nat_lt}
use Rattle.std.specs.List.{enumerate_from}
use Rattle.std.specs.Option.{option_or}
use Rattle.std.proofs.lemmas.Bool.{cases_lt, eq-eqb, false≢true, lt-leb, lt-ltb}
use Rattle.std.proofs.lemmas.List.{get_or_append_left, get_or-append_right}
use Rattle.std.proofs.lemmas.List.Elements.{All-cons, All-from_recursion, All-get_or, All-head, All-map, All-nil, All-tail, All-weaker}
use Rattle.std.proofs.lemmas.List.Sorted.{All-permutation, IsPermutation-sym}
use Rattle.std.proofs.lemmas.Option.{get_or_from_slice_get, slice_get_within}
use Rattle.ot_base.specs.Section.{TextSection}
use Rattle.ot_base.specs.declared.row.PlacedRow.{PlacedRow}
use Rattle.table_defs.specs.declared.range.Range.{Range}
use Rattle.table_defs.specs.Placement.{IsPlacement, covers, section_in}
use Rattle.elf_objects.specs.Contents.{is_text, no_section, section_at}
use Rattle.elf_objects.specs.Elf.{Elf, SectionEntry}
use Rattle.elf_write.specs.Added.{new_sections, old_section}
use Rattle.elf_write.specs.Layout.{NewEntry, Input, all_names, end_of, long_count, names_place}
use Rattle.elf_write.specs.Object.{input_of_object}
use Rattle.orc_bytes.specs.Sections.{HoldsOrc, IsRowOf}
use Rattle.orc_output.specs.OrcOutput.{orc_sections, with_orc_object}
use Rattle.orc_output.proofs.Behind.{length-each}
use Rattle.orc_walk.specs.declared.faults.PlaceFault.TheVariants.{At}
use Rattle.orc_walk.specs.declared.faults.PlaceWhy.TheVariants.{Missing, Wraps, Overlaps}
use Rattle.orc_walk.specs.Faults.{first_faulty, first_missing, is_placed, overlap, place_fault, range_fault}
use Rattle.command_base.specs.TextSections.{texts_of}
use Rattle.command_base.specs.Unwind.{first_foreign, is_text_section, range_of, ranges_of}

-- ---- lists

All-back : {X Y : Type 0} (P : Y → Type 0) (f : X → Y) (xs : List X) → All P (map f xs) → All (λ x. P (f x)) xs
All-back P f [] all = All-nil _
All-back P f (x ∷ xs) all = All-cons (λ x. P (f x)) x xs (All-head P (f x) (map f xs) all) (All-back P f xs (All-tail P (f x) (map f xs) all))

find_none : {X : Type 0} (p : X → Bool) (xs : List X) → All (λ x. p x ≡ false) xs → find p xs ≡ None
find_none p [] none = refl
find_none p (x ∷ xs) none = ap (λ b. cond b (Some x) (find p xs)) (All-head (λ x. p x ≡ false) x xs none) ∙ find_none p xs (All-tail (λ x. p x ≡ false) x xs none)

-- ---- the text sections of an object

left_out : (n : ℕ) (x : SectionEntry) (rest : List (ℕ × SectionEntry)) → is_text x ≡ false → filter (λ (e : ℕ × SectionEntry). is_text e.1) ((n, x) ∷ rest) ≡ filter (λ e. is_text e.1) rest
left_out n x rest h = ap (λ b. cond b ((n, x) ∷ filter (λ (e : ℕ × SectionEntry). is_text e.1) rest) (filter (λ e. is_text e.1) rest)) h

kept_in : (n : ℕ) (x : SectionEntry) (rest : List (ℕ × SectionEntry)) → is_text x ≡ true → filter (λ (e : ℕ × SectionEntry). is_text e.1) ((n, x) ∷ rest) ≡ (n, x) ∷ filter (λ e. is_text e.1) rest
kept_in n x rest h = ap (λ b. cond b ((n, x) ∷ filter (λ (e : ℕ × SectionEntry). is_text e.1) rest) (filter (λ e. is_text e.1) rest)) h

-- what holds of each number of a text section holds of each that is listed
each_listed : (P : ℕ → Type 0) (n : ℕ) (xs : List SectionEntry) → ((k : ℕ) → k < length xs → is_text (get_or xs k no_section) ≡ true → P (n + k)) → All (λ (e : ℕ × SectionEntry). P e.0) (filter (λ (e : ℕ × SectionEntry). is_text e.1) (enumerate_from n xs))
each_listed P n [] h = All-nil _
each_listed P n (x ∷ xs) h =
    go (is_text x) refl (each_listed P (n + 1) xs (λ k inside text. subst P (omega arith) (h (suc k) (omega arith) text)))
  where
    go : (b : Bool) → is_text x ≡ b → All (λ (e : ℕ × SectionEntry). P e.0) (filter (λ (e : ℕ × SectionEntry). is_text e.1) (enumerate_from (n + 1) xs)) → All (λ (e : ℕ × SectionEntry). P e.0) (filter (λ (e : ℕ × SectionEntry). is_text e.1) ((n, x) ∷ enumerate_from (n + 1) xs))
    go true e later = subst (All (λ (e : ℕ × SectionEntry). P e.0)) (sym (kept_in n x (enumerate_from (n + 1) xs) e)) (All-cons (λ (e : ℕ × SectionEntry). P e.0) (n, x) _ (subst P (omega arith) (h 0 (omega arith) e)) later)
    go false e later = subst (All (λ (e : ℕ × SectionEntry). P e.0)) (sym (left_out n x (enumerate_from (n + 1) xs) e)) later

-- and the other way round
listed_each : (P : ℕ → Type 0) (n : ℕ) (xs : List SectionEntry) → All (λ (e : ℕ × SectionEntry). P e.0) (filter (λ (e : ℕ × SectionEntry). is_text e.1) (enumerate_from n xs)) → (k : ℕ) → k < length xs → is_text (get_or xs k no_section) ≡ true → P (n + k)
listed_each P n [] all k inside text = absurd (omega arith)
listed_each P n (x ∷ xs) all zero inside text =
    subst P (omega arith) (All-head (λ (e : ℕ × SectionEntry). P e.0) (n, x) _ (subst (All (λ (e : ℕ × SectionEntry). P e.0)) (kept_in n x (enumerate_from (n + 1) xs) text) all))
listed_each P n (x ∷ xs) all (suc k) inside text = subst P (omega arith) (listed_each P (n + 1) xs (go (is_text x) refl) k (omega arith) text)
  where
    go : (b : Bool) → is_text x ≡ b → All (λ (e : ℕ × SectionEntry). P e.0) (filter (λ (e : ℕ × SectionEntry). is_text e.1) (enumerate_from (n + 1) xs))
    go true e = All-tail (λ (e : ℕ × SectionEntry). P e.0) (n, x) _ (subst (All (λ (e : ℕ × SectionEntry). P e.0)) (kept_in n x (enumerate_from (n + 1) xs) e) all)
    go false e = subst (All (λ (e : ℕ × SectionEntry). P e.0)) (left_out n x (enumerate_from (n + 1) xs) e) all

texts_each : (P : ℕ → Type 0) (o : Elf) → ((k : ℕ) → k < length o.sections → is_text (section_at o k) ≡ true → P k) → All (λ (t : TextSection). P t.sec) (texts_of o)
texts_each P o h = All-map (λ (t : TextSection). P t.sec) (λ (e : ℕ × SectionEntry). record { sec = e.0; size = e.1.size }) _ (each_listed P 0 o.sections (λ k inside text. subst P (omega arith) (h k inside text)))

each_text : (P : ℕ → Type 0) (o : Elf) → All (λ (t : TextSection). P t.sec) (texts_of o) → (k : ℕ) → k < length o.sections → is_text (section_at o k) ≡ true → P k
each_text P o all k inside text = subst P (omega arith) (listed_each P 0 o.sections (All-back (λ (t : TextSection). P t.sec) (λ (e : ℕ × SectionEntry). record { sec = e.0; size = e.1.size }) _ all) k inside text)

-- ---- those of the object with its tables

abbrev olds : Elf → List PlacedRow → List SectionEntry
olds o rows = map (old_section (input_of_object o) (length o.sections + 3) (orc_sections o rows)) (enumerate_from 0 o.sections)

abbrev news : Elf → List PlacedRow → List SectionEntry
news o rows = new_sections (end_of (length o.bytes) (all_names (input_of_object o) (orc_sections o rows) ∷ [])) (orc_sections o rows)

length-olds : (o : Elf) (rows : List PlacedRow) → length (olds o rows) ≡ length o.sections
length-olds o rows = length-each (old_section (input_of_object o) (length o.sections + 3) (orc_sections o rows)) 0 o.sections

-- an old section is code where it was
old-text : (i : Input) (count : ℕ) (new : List NewEntry) (k : ℕ) (s : SectionEntry) → is_text (old_section i count new (k, s)) ≡ is_text s
old-text i count new k s = go (k == 0) (k == i.name_table)
  where
    go : (x y : Bool) → is_text (cond x (record s { size = long_count count }) (cond y (record s { offset = names_place i; size = length (all_names i new); body = all_names i new }) s)) ≡ is_text s
    go true y = refl
    go false true = refl
    go false false = refl

each-text : (i : Input) (count : ℕ) (new : List NewEntry) (n : ℕ) (xs : List SectionEntry) (k : ℕ) → k < length xs → is_text (get_or (map (old_section i count new) (enumerate_from n xs)) k no_section) ≡ is_text (get_or xs k no_section)
each-text i count new n [] k inside = absurd (omega arith)
each-text i count new n (x ∷ xs) zero inside = old-text i count new n x
each-text i count new n (x ∷ xs) (suc k) inside = each-text i count new (n + 1) xs k (omega arith)

text_stays : (o : Elf) (rows : List PlacedRow) (k : ℕ) → k < length o.sections → is_text (section_at (with_orc_object o rows) k) ≡ is_text (section_at o k)
text_stays o rows k inside =
    let l = length-olds o rows in
    ap is_text (get_or_append_left (olds o rows) (news o rows) no_section k (omega arith))
    ∙ each-text (input_of_object o) (length o.sections + 3) (orc_sections o rows) 0 o.sections k inside

-- a new one is no code
new_no_text : (o : Elf) (rows : List PlacedRow) → All (λ s. is_text s ≡ false) (news o rows)
new_no_text o rows = All-from_recursion (λ (s : SectionEntry). is_text s ≡ false) (news o rows) (refl, (refl, (refl, tt)))

length-out : (o : Elf) (rows : List PlacedRow) → length (with_orc_object o rows).sections ≡ length o.sections + 3
length-out o rows = let l = length-olds o rows in let sum = length-append (olds o rows) (news o rows) in let three : length (news o rows) ≡ 3 = refl in omega (arith, l, sum, three)

text_was : (o : Elf) (rows : List PlacedRow) (k : ℕ) → k < length (with_orc_object o rows).sections → is_text (section_at (with_orc_object o rows) k) ≡ true → (k < length o.sections) × (is_text (section_at o k) ≡ true)
text_was o rows k inside text = elim (cases_lt k (length o.sections)) [
  | inl old ↦ (old, sym (text_stays o rows k old) ∙ text)
  | inr new ↦
      let l = length-olds o rows in
      let out = length-out o rows in
      let three : length (news o rows) ≡ 3 = refl in
      let none : is_text (get_or (news o rows) (k - length o.sections) no_section) ≡ false = All-get_or (λ s. is_text s ≡ false) (news o rows) (k - length o.sections) no_section (omega (arith, out, three, inside, new)) (new_no_text o rows) in
      absurd (false≢true (sym none ∙ ap is_text (sym (get_or-append_right (olds o rows) (news o rows) (length o.sections) k no_section l new)) ∙ text))
]

-- ---- the places of an image

placed_texts : (o : Elf) (ranges : List Range) → IsPlacement (texts_of o) ranges → (P : ℕ → Type 0) → ((k : ℕ) → k < length o.sections → is_text (section_at o k) ≡ true → P k) → All (λ (r : Range). P r.sec) ranges
placed_texts o ranges placed P h = All-back (λ (t : TextSection). P t.sec) section_in ranges (All-permutation (λ (t : TextSection). P t.sec) (texts_of o) (map section_in ranges) placed.sections (texts_each P o h))

-- each of them names a text section of the object with its tables
pub none_foreign : (o : Elf) (rows : List PlacedRow) (places : List (ℕ × ℕ)) → IsPlacement (texts_of o) (ranges_of (with_orc_object o rows) places) → first_foreign (with_orc_object o rows) places ≡ None
none_foreign o rows places placed =
    let out : Elf = with_orc_object o rows in
    let each : All (λ (place : ℕ × ℕ). not (is_text_section out place.0) ≡ false) places =
    All-back (λ (r : Range). not (is_text_section out r.sec) ≡ false) (range_of out) places (placed_texts o (ranges_of out places) placed (λ k. not (is_text_section out k) ≡ false) (λ k inside text.
    let few : nat_lt k (length out.sections) ≡ true = (let l = length-out o rows in lt-ltb k (length out.sections) (omega (arith, l, inside))) in
    let code : is_text (section_at out k) ≡ true = text_stays o rows k inside ∙ text in
    ap not (ap (λ b. b && is_text (section_at out k)) few ∙ code))) in
    ap (option_map (λ (place : ℕ × ℕ). place.0)) (find_none (λ (place : ℕ × ℕ). not (is_text_section out place.0)) places each)

-- ---- the rows

any_self : (ranges : List Range) → All (λ (r : Range). is_placed ranges r.sec ≡ true) ranges
any_self [] = All-nil _
any_self (r ∷ ranges) = All-cons (λ (x : Range). is_placed (r ∷ ranges) x.sec ≡ true) r ranges (ap (λ b. b || is_placed ranges r.sec) (eq-eqb r.sec r.sec refl)) (All-weaker (λ (x : Range). is_placed ranges x.sec ≡ true) (λ (x : Range). is_placed (r ∷ ranges) x.sec ≡ true) (λ x h. more (r.sec == x.sec) (is_placed ranges x.sec) h) ranges (any_self ranges))
  where
    more : (a b : Bool) → b ≡ true → (a || b) ≡ true
    more true b h = refl
    more false b h = h

-- each of them lies in a section that is placed
pub none_missing : (o : Elf) (rows : List PlacedRow) (ranges : List Range) → IsPlacement (texts_of o) ranges → HoldsOrc (with_orc_object o rows) rows → first_missing ranges rows ≡ None
none_missing o rows ranges placed holds =
    let out : Elf = with_orc_object o rows in
    let texts : All (λ (t : TextSection). is_placed ranges t.sec ≡ true) (texts_of o) =
    All-permutation (λ (t : TextSection). is_placed ranges t.sec ≡ true) (map section_in ranges) (texts_of o) (IsPermutation-sym (texts_of o) (map section_in ranges) placed.sections)
    (All-map (λ (t : TextSection). is_placed ranges t.sec ≡ true) section_in ranges (any_self ranges)) in
    let each : All (λ (p : PlacedRow). not (is_placed ranges p.place.sec) ≡ false) rows =
    All-weaker (IsRowOf out) (λ (p : PlacedRow). not (is_placed ranges p.place.sec) ≡ false) (λ p row.
    let was = text_was o rows p.place.sec (slice_get_within out.sections p.place.sec row.section row.at) (ap is_text (get_or_from_slice_get out.sections p.place.sec row.section no_section row.at) ∙ row.text) in
    ap not (each_text (λ k. is_placed ranges k ≡ true) o texts p.place.sec was.0 was.1)) rows holds.each in
    ap (option_map (λ (p : PlacedRow). At p.place.sec Missing)) (find_none (λ (p : PlacedRow). not (is_placed ranges p.place.sec)) rows each)

-- ---- the ranges

abbrev AreApart : Range → Range → Type 0
AreApart one other = (address : ℕ) → IsTrue (covers one address) → IsTrue (covers other address) → ⊥

no_overlap : (one other : Range) → AreApart one other → overlap one other ≡ false
no_overlap one other apart = go (covers one (max one.base other.base)) (covers other (max one.base other.base)) refl refl
  where
    go : (a b : Bool) → covers one (max one.base other.base) ≡ a → covers other (max one.base other.base) ≡ b → overlap one other ≡ false
    go true true e f = absurd (apart (max one.base other.base) e f)
    go true false e f = ap (λ (x : Bool). x && covers other (max one.base other.base)) e ∙ f
    go false b e f = ap (λ (x : Bool). x && covers other (max one.base other.base)) e

seam : (xs : List Range) (y : Range) (ys : List Range) (d : Range) → get_or (xs ++ y ∷ ys) (length xs) d ≡ y
seam [] y ys d = refl
seam (x ∷ xs) y ys d = seam xs y ys d

-- an earlier range shares no address with one behind it
earlier_apart : (earlier ranges : List Range) (range : Range) → AllPairs AreApart (earlier ++ range ∷ ranges) → (k : ℕ) (d : Range) → k < length earlier → AreApart (get_or earlier k d) range
earlier_apart earlier ranges range apart k d inside =
    let there : length earlier < length (earlier ++ range ∷ ranges) = omega (arith, length-append earlier (range ∷ ranges)) in
    subst (λ (x : Range). AreApart (get_or earlier k d) x) (seam earlier range ranges d)
    (subst (λ (x : Range). AreApart x (get_or (earlier ++ range ∷ ranges) (length earlier) d)) (get_or_append_left earlier (range ∷ ranges) d k inside) (apart k (length earlier) d inside there))

none_faulty : (earlier ranges : List Range) → All (λ (r : Range). r.base + r.size < 2 ^ 64) ranges → AllPairs AreApart (earlier ++ ranges) → first_faulty earlier ranges ≡ None
none_faulty earlier [] fits apart = refl
none_faulty earlier (range ∷ ranges) fits apart =
    let lt : range.base + range.size < 2 ^ 64 = All-head (λ (r : Range). r.base + r.size < 2 ^ 64) range ranges fits in
    let each : All (λ (other : Range). overlap other range ≡ false) earlier = (λ k d inside. no_overlap (get_or earlier k d) range (earlier_apart earlier ranges range apart k d inside)) in
    let none : range_fault earlier range ≡ None =
    ap (λ b. cond b (Some Wraps) (option_map (λ (other : Range). Overlaps other.sec) (find (λ (other : Range). overlap other range) earlier))) (lt-leb (2 ^ 64) (range.base + range.size) lt)
    ∙ ap (option_map (λ (other : Range). Overlaps other.sec)) (find_none (λ (other : Range). overlap other range) earlier each) in
    ap (λ found. option_or (option_map (λ why. At range.sec why) found) (first_faulty (earlier ++ range ∷ []) ranges)) none
    ∙ none_faulty (earlier ++ range ∷ []) ranges (All-tail (λ (r : Range). r.base + r.size < 2 ^ 64) range ranges fits) (subst (AllPairs AreApart) (sym (append_assoc earlier (range ∷ []) ranges)) apart)

-- the rows can be placed where an image of a state has its sections
pub none_refused : (o : Elf) (rows : List PlacedRow) (ranges : List Range) → IsPlacement (texts_of o) ranges → HoldsOrc (with_orc_object o rows) rows → place_fault rows ranges ≡ None
none_refused o rows ranges placed holds =
    ap (λ found. option_or found (first_faulty [] ranges)) (none_missing o rows ranges placed holds)
    ∙ none_faulty [] ranges placed.in_memory placed.apart
