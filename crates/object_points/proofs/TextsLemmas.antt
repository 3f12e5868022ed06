-- The texts of an object, section by section.
use Rattle.std.proofs.Common.{◌≡◌, ℕ, zero, suc, ◌+◌, ◌<◌, ◌≤◌, Bool, true, false, cond, List, [], ◌∷◌, ◌++◌, length, get_or, refl, sym, ap, ◌∙◌, arith, subst, inl, inr, append-nil, length-take, length-drop}
use Rattle.std.specs.Prelude.{◌≢◌, filter, map, if◌then◌else◌}
use Rattle.std.specs.List.{AllByRecursion, range_with_len, sum_by}
use Rattle.std.proofs.lemmas.Bool.{cases_lt}
use Rattle.std.proofs.lemmas.Bool.Decides.{nat_tests}
use Rattle.std.proofs.lemmas.Grind.{flat_map-append}
use Rattle.std.proofs.lemmas.List.{map-append}
use Rattle.std.proofs.lemmas.List.Elements.{All-from_recursion, filter-append}
use Rattle.std.proofs.lemmas.List.FromFn.{get_or-map-range_with_len, length-map-range_with_len}
use Rattle.std.proofs.lemmas.List.Sums.{get_or-le-sum_by, sum_by-cons}
use Rattle.elf_objects.specs.Contents.{is_text, section_at, section_entry}
use Rattle.elf_objects.specs.declared.TheConstants.{SHT_NULL, SHT_NOBITS}
use Rattle.elf_objects.specs.Elf.{SectionEntry}
use Rattle.ot_base.specs.NameLists.{NameLists}
use Rattle.flow_defs.specs.Coded.{Coded}
use Rattle.elf_objects.specs.File.{section_count, section_header}
use Rattle.elf_objects.specs.Header.{is_text_header}
use Rattle.elf_objects.specs.Lent.{IsSlice}
use Rattle.elf_objects.specs.Object.{IsObject}
use Rattle.elf_objects.specs.Sections.{file_text_bytes, text_size}
use Rattle.elf_objects.proofs.Read.{length-sections, section_at-entry, IsSlice-entry}
use Rattle.special_sections.specs.Kinds.{faults}
use Rattle.special_sections.specs.Special.{special_of, special_faults}
use Rattle.special_sections.specs.Tables.{alternatives}
use Rattle.special_sections.specs.Laws.{AlternativesAreFew}
use Rattle.alternatives.specs.declared.texts.SectionText.{SectionText}
use Rattle.alternatives.specs.Texts.{AscendBySection}
use Rattle.alternatives.proofs.Ascending.{Rising, every-map, every-range, every-weaker, rising-filter, rising-range}
use Rattle.x86_text.specs.Code.{IsCode, insns_of}
use Rattle.alternatives.specs.Gathered.{plain_insns}
use Rattle.flow_defs.specs.Code.{body_of, text_numbers, texts_of}
use Rattle.object_points.specs.Linked.{AreCode}

range_more : (a n : ℕ) → range_with_len a (suc n) ≡ range_with_len a n ++ (a + n) ∷ []
range_more a zero = ap (λ k. k ∷ []) {x = a} {y = a + zero} (omega arith)
range_more a (suc n) =
    ap (λ xs. a ∷ xs) (range_more (a + 1) n)
    ∙ ap (λ k. a ∷ (range_with_len (a + 1) n ++ k ∷ [])) {x = a + 1 + n} {y = a + suc n} (omega arith)

-- those that pass a test, with one more number
passing : (p : ℕ → Bool) (n : ℕ) (b : Bool) → p n ≡ b → filter p (range_with_len 0 (n + 1)) ≡ filter p (range_with_len 0 n) ++ cond b (n ∷ []) []
passing p n b is =
    ap (λ m. filter p (range_with_len 0 m)) {x = n + 1} {y = suc n} (omega arith)
    ∙ ap (filter p) (range_more 0 n ∙ ap (λ k. range_with_len 0 n ++ k ∷ []) {x = 0 + n} {y = n} (omega arith))
    ∙ filter-append p (range_with_len 0 n) (n ∷ [])
    ∙ ap (λ x. filter p (range_with_len 0 n) ++ cond x (n ∷ []) []) is

passing_more : (p : ℕ → Bool) (n : ℕ) → p n ≡ true → filter p (range_with_len 0 (n + 1)) ≡ filter p (range_with_len 0 n) ++ n ∷ []
passing_more p n passes = passing p n true passes

passing_same : (p : ℕ → Bool) (n : ℕ) → p n ≡ false → filter p (range_with_len 0 (n + 1)) ≡ filter p (range_with_len 0 n)
passing_same p n fails = passing p n false fails ∙ append-nil (filter p (range_with_len 0 n))

-- the texts of the sections below a number
abbrev pub text_in : Coded → ℕ → SectionText
text_in o i = record { sec = i; text = body_of o i }

abbrev pub texts_below : Coded → ℕ → List SectionText
texts_below o n = map (text_in o) (filter (λ i. is_text (section_at o.elf i)) (range_with_len 0 n))

pub text_below : (o : Coded) (n : ℕ) → is_text (section_at o.elf n) ≡ true → texts_below o (n + 1) ≡ texts_below o n ++ text_in o n ∷ []
text_below o n text =
    let p = λ (i : ℕ). is_text (section_at o.elf i) in
    ap (map (text_in o)) (passing_more p n text)
    ∙ map-append (text_in o) (filter p (range_with_len 0 n)) (n ∷ [])

-- and their instructions
pub insns_below : (o : Coded) (n : ℕ) → is_text (section_at o.elf n) ≡ true → plain_insns (texts_below o (n + 1)) ≡ plain_insns (texts_below o n) ++ insns_of (body_of o n)
insns_below o n text =
    ap plain_insns (text_below o n text)
    ∙ flat_map-append (λ (t : SectionText). insns_of t.text) (texts_below o n) (text_in o n ∷ [])
    ∙ ap (λ is. plain_insns (texts_below o n) ++ is) (append-nil (insns_of (body_of o n)))

pub other_below : (o : Coded) (n : ℕ) → is_text (section_at o.elf n) ≡ false → texts_below o (n + 1) ≡ texts_below o n
other_below o n other =
    ap (map (text_in o)) (passing_same (λ i. is_text (section_at o.elf i)) n other)

pub all_texts : (o : Coded) → texts_below o (length o.elf.sections) ≡ texts_of o
unfolding texts_of
all_texts o = refl

-- one more text section, which is code
pub code_more : (o : Coded) (n : ℕ) → AreCode o n → (is_text (section_at o.elf n) ≡ true → IsCode (body_of o n)) → AreCode o (n + 1)
code_more o n before here i below text = elim (cases_lt i n) [
  | inl lt ↦ before i lt text
  | inr ge ↦ let same : i ≡ n = omega arith in subst (λ (k : ℕ). IsCode (body_of o k)) (sym same) (here (subst (λ (k : ℕ). is_text (section_at o.elf k) ≡ true) same text))
]

-- a text section has its bytes in the file
is_progbits : (s : SectionEntry) → is_text s ≡ true → s.kind ≡ 1
is_progbits s h = grind (arith, nat_tests)

pub body_size : (bytes : List ℕ) (s : SectionEntry) → is_text s ≡ true → IsSlice bytes s → (length s.body ≡ s.size) × (s.size ≤ length bytes)
body_size bytes s text slice =
    let kind = is_progbits s text in
    let not_null : s.kind ≢ SHT_NULL = λ e. absurd (omega (arith, e)) in
    let not_nobits : s.kind ≢ SHT_NOBITS = λ e. absurd (omega (arith, e)) in
    let inside = slice.inside not_null not_nobits in
    (ap length (slice.body not_null not_nobits) ∙ simp (length-take, length-drop) (omega arith), omega (arith, inside))

-- it has at most 16 MiB
pub text_small : (bytes : List ℕ) (o : Coded) (i : ℕ) → IsObject bytes o.elf → i < length o.elf.sections → is_text (section_at o.elf i) ≡ true → (section_at o.elf i).size ≤ 16777216
unfolding file_text_bytes section_entry
text_small bytes o i is inside text =
    let known : i < section_count bytes = omega (arith, length-sections bytes o.elf (sym is.says), inside) in
    let entry = section_at-entry bytes o.elf i (sym is.says) known in
    let header : is_text_header (section_header bytes i) ≡ true = ap is_text (sym entry) ∙ text in
    let whole = get_or-le-sum_by text_size (map (section_header bytes) (range_with_len 0 (section_count bytes))) i (section_header bytes i) (simp length-map-range_with_len known) in
    let here = get_or-map-range_with_len (section_header bytes) 0 (section_count bytes) i i (section_header bytes i) known (omega arith) in
    let size : (section_at o.elf i).size ≡ text_size (section_header bytes i) = ap (λ (x : SectionEntry). x.size) entry ∙ ap (λ (b : Bool). if b then (section_header bytes i).size else 0) (sym header) in
    omega (arith, whole, ap text_size here, size, is.well_formed.little_text)

-- those of an ascending list ascend by index
rising_at : {X : Type 0} (R : X → X → Type 0) (xs : List X) → Rising R xs → (i j : ℕ) (d : X) → i < j → j < length xs → R (get_or xs i d) (get_or xs j d)
rising_at R [] rise i j d less inside = absurd (omega arith)
rising_at R (x ∷ xs) rise zero zero d less inside = absurd (omega arith)
rising_at R (x ∷ xs) rise zero (suc j) d less inside = All-from_recursion (R x) xs rise.0 j d (omega arith)
rising_at R (x ∷ xs) rise (suc i) zero d less inside = absurd (omega arith)
rising_at R (x ∷ xs) rise (suc i) (suc j) d less inside = rising_at R xs rise.1 i j d (omega arith) (omega arith)

rising_map : {X Y : Type 0} (R : Y → Y → Type 0) (f : X → Y) (xs : List X) → Rising (λ x y. R (f x) (f y)) xs → Rising R (map f xs)
rising_map R f [] rise = tt
rising_map R f (x ∷ xs) rise = (every-map (R (f x)) f xs rise.0, rising_map R f xs rise.1)

-- the texts of an object ascend
pub texts_ascend : (o : Coded) → AscendBySection (texts_of o)
unfolding texts_of
texts_ascend o =
    rising_at (λ (t u : SectionText). t.sec < u.sec) (map (text_in o) (text_numbers o.elf))
    (rising_map (λ (t u : SectionText). t.sec < u.sec) (text_in o) (text_numbers o.elf)
    (rising-filter (λ i j. i < j) (λ i. is_text (section_at o.elf i)) (range_with_len 0 (length o.elf.sections)) (rising-range 0 (length o.elf.sections))))

-- a text has as many bytes as its header says
own_size : (bytes : List ℕ) (o : Coded) (i : ℕ) → IsObject bytes o.elf → bytes ≡ o.elf.bytes → i < section_count bytes → is_text (section_at o.elf i) ≡ true → length (section_at o.elf i).body ≡ text_size (section_header bytes i)
unfolding section_entry
own_size bytes o i is own known text =
    let entry = section_at-entry bytes o.elf i (sym is.says) known in
    let header : is_text_header (section_header bytes i) ≡ true = ap is_text (sym entry) ∙ text in
    let size : (section_at o.elf i).size ≡ text_size (section_header bytes i) = ap (λ (x : SectionEntry). x.size) entry ∙ ap (λ (b : Bool). if b then (section_header bytes i).size else 0) (sym header) in
    (body_size o.elf.bytes (section_at o.elf i) text (IsSlice-entry bytes o.elf i (sym is.says) known is.well_formed)).0 ∙ size

abbrev length_of : SectionText → ℕ
length_of t = length t.text.bytes

-- the texts of some sections have no more bytes than their headers say
module _ (bytes : List ℕ) (o : Coded) (is : IsObject bytes o.elf) (own : bytes ≡ o.elf.bytes) where
  abbrev tests : ℕ → Bool
  tests i = is_text (section_at o.elf i)

  one_more : (k : ℕ) (ks : List ℕ) (b : Bool) → tests k ≡ b → k < section_count bytes → sum_by length_of (map (text_in o) (filter tests ks)) ≤ sum_by text_size (map (section_header bytes) ks)
      → sum_by length_of (map (text_in o) (cond b (k ∷ filter tests ks) (filter tests ks))) ≤ sum_by text_size (map (section_header bytes) (k ∷ ks))
  one_more k ks true text known rest =
      omega (arith, rest, own_size bytes o k is own known text, sum_by-cons length_of (text_in o k) (map (text_in o) (filter tests ks)), sum_by-cons text_size (section_header bytes k) (map (section_header bytes) ks))
  one_more k ks false text known rest =
      omega (arith, rest, sum_by-cons text_size (section_header bytes k) (map (section_header bytes) ks))

  all_sizes : (ks : List ℕ) → AllByRecursion (λ k. k < section_count bytes) ks → sum_by length_of (map (text_in o) (filter tests ks)) ≤ sum_by text_size (map (section_header bytes) ks)
  all_sizes [] all = omega arith
  all_sizes (k ∷ ks) all = one_more k ks (tests k) refl all.0 (all_sizes ks all.1)

-- all together have at most 16 MiB
pub little_text : (o : Coded) → IsObject o.elf.bytes o.elf → sum_by length_of (texts_of o) ≤ 16777216
unfolding file_text_bytes texts_of
little_text o is =
    let count : length o.elf.sections ≡ section_count o.elf.bytes = length-sections o.elf.bytes o.elf (sym is.says) in
    let all : AllByRecursion (λ k. k < section_count o.elf.bytes) (range_with_len 0 (length o.elf.sections)) =
    every-weaker (λ k. (0 ≤ k) × (k < 0 + length o.elf.sections)) (λ k. k < section_count o.elf.bytes) (λ k h. omega (arith, h.1, count)) (range_with_len 0 (length o.elf.sections)) (every-range 0 (length o.elf.sections)) in
    let most = all_sizes o.elf.bytes o is refl (range_with_len 0 (length o.elf.sections)) all in
    omega (arith, most, is.well_formed.little_text, ap (λ n. sum_by text_size (map (section_header o.elf.bytes) (range_with_len 0 n))) count)

-- where two lists together are empty, the first is
first_empty : {X : Type 0} (xs ys : List X) → xs ++ ys ≡ [] → xs ≡ []
first_empty [] ys none = refl
first_empty (x ∷ xs) ys none = absurd (omega (arith, ap length none))

-- there are few alternatives
pub few_alternatives : (o : Coded) (lists : NameLists) → AlternativesAreFew → IsObject o.elf.bytes o.elf → special_faults o.elf lists ≡ [] → length o.elf.bytes ≤ 67108864 → length (special_of o.elf).alternatives ≤ 8388608
few_alternatives o lists law is right small =
    let few = law o.elf.bytes o.elf is (first_empty (faults alternatives o.elf) _ right) in
    omega (arith, few, small)
