-- What callers need: how long the file can get, that new relocations are free, and what the object with the new sections
-- has at an index.
use Rattle.std.proofs.Common.{◌≡◌, ◌≢◌, inl, inr, ℕ, ◌+◌, ◌-◌, ◌*◌, ◌^◌, ◌<◌, ◌≤◌, List, [], ◌∷◌, ◌++◌, length, take, get_or, map, Some, None, true, false, not, eqb, refl, sym, ap, subst, ◌∙◌, arith, length-append}
use Rattle.std.specs.Prelude.{All, AllPairs, bit_and, slice_get}
use Rattle.std.specs.List.{enumerate_from, find, list_all, position_or_len, sum_by}
use Rattle.std.proofs.lemmas.Bool.{cases_lt}
use Rattle.std.proofs.lemmas.Bool.Decides.{nat_tests}
use Rattle.std.proofs.lemmas.List.{get_or-append_right, get_or-map, get_or_append_left, length-map}
use Rattle.std.proofs.lemmas.List.Folds.{find_at}
use Rattle.std.proofs.lemmas.List.FromFn.{get_or-enumerate_from, get_or-map-range_with_len, length-enumerate_from}
use Rattle.std.proofs.lemmas.List.Sums.{AllPass-from_list_all, passes_at_first, position_or_len_is, sum_by-cons}
use Rattle.std.proofs.lemmas.List.Elements.{All-cons, All-nil}
use Rattle.std.proofs.lemmas.Option.{slice_get-get_or, slice_get_past}
use Rattle.elf_objects.specs.Contents.{elf_of, no_section, relocs_at, section_at, section_entry}
use Rattle.elf_objects.specs.Elf.{Elf, SectionEntry}
use Rattle.elf_objects.specs.File.{name_table, section_header}
use Rattle.elf_objects.specs.Header.{has_body}
use Rattle.elf_objects.specs.declared.TheConstants.{SHT_PROGBITS, SHT_RELA, SHF_EXECINSTR}
use Rattle.elf_objects.specs.Object.{IsObject, IsWellFormed}
use Rattle.elf_objects.specs.Table.{body_of, name_header}
use Rattle.elf_write.specs.Added.{AreApart, CanAdd, HasFields, IsPlain, new_section, new_sections, object_with, old_section, relocs_in, relocs_with}
use Rattle.elf_write.specs.Layout.{NewEntry, Input, aligned, all_names, bodies, end_of, new_names}
use Rattle.elf_write.specs.Object.{appended_to, input_of_object}
use Rattle.elf_write.proofs.Build.{IsInput, length-extended}
use Rattle.elf_write.proofs.Cases.{table_kind}
use Rattle.elf_write.proofs.Facts.{no_entry}
use Rattle.elf_write.proofs.Links.{length-sections, section-at}
use Rattle.elf_write.proofs.Reading.{for_section, old_section-other}
use Rattle.elf_write.proofs.Result.{Holds, holds, length-headers_of}
use Rattle.elf_write.proofs.Says.{entry_is, get_or-new_sections, length-new_sections}
use Rattle.elf_write.proofs.Special.{strings-length}

-- what a section adds to the file at most: its name and a zero byte, its body and a gap, its header
abbrev pub size_with : NewEntry → ℕ
size_with e = length e.name + length e.body + 72

grown : (n : ℕ) (new : List NewEntry) → end_of n (bodies new) + length (new_names new) + 64 * length new ≤ n + sum_by size_with new
grown n [] = omega arith
grown n (e ∷ new) =
    let ih = grown (aligned n + length e.body) new in
    let s = sum_by-cons size_with e new in
    omega (arith, length-append (e.name ++ 0 ∷ []) (new_names new), length-append e.name (0 ∷ []))

names-le : (b : List ℕ) → IsWellFormed b → length (section_at (elf_of b) (name_table b)).body ≤ length b
names-le b w =
    let n = w.table.counts.names in
    let kind = table_kind b w in
    let t : has_body (name_header b) ≡ true = grind (arith, nat_tests) in
    let within = (w.bodies (name_table b) n).placed.inside t in
    let l = strings-length b w (name_table b) n kind in
    let e : (section_at (elf_of b) (name_table b)).body ≡ body_of b (name_header b) =
    ap (λ (s : SectionEntry). s.body) (section-at b (name_table b) no_section n ∙ entry_is b (name_table b)) in
    omega (arith, ap length e)

-- how long the file gets at most
pub length-appended_to : (b : List ℕ) (o : Elf) (new : List NewEntry) → IsObject b o
    → length (appended_to o new) ≤ 3 * length b + sum_by size_with new + 14
length-appended_to b o [] ok = (let h = holds b o ok in omega (arith, ap length h.bytes))
length-appended_to b o (e ∷ new) ok =
    let all : List NewEntry = e ∷ new in
    let h : Holds b o = holds b o ok in
    let i : Input = input_of_object o in
    let lb : length o.bytes ≡ length b = ap length h.bytes in
    let lh : length i.headers ≡ 64 * length o.sections = length-headers_of o (let x = h.headers in omega arith) in
    let good : IsInput i = record { file_header = (let x = h.file in omega arith); named = h.named; in_table = (let x = h.in_table in omega arith) } in
    let l = length-extended i all good in
    let g = grown (aligned (length o.bytes) + length (all_names i all)) all in
    let ln = length-append i.names (new_names all) in
    let nl : length i.names ≤ length b = subst (λ (x : Elf). length (section_at x x.name_table).body ≤ length b) (sym ok.says) (names-le b ok.well_formed) in
    let hd = h.headers in
    omega arith

-- no section of an object has relocations for a section that it does not have
pub free-added : (b : List ℕ) (o : Elf) (t : ℕ) → IsObject b o → length o.sections ≤ t
    → All (λ (s : SectionEntry). s.kind ≡ SHT_RELA → s.info ≢ t) o.sections
free-added b o t ok h =
    subst (λ (x : Elf). length x.sections ≤ t → All (λ (s : SectionEntry). s.kind ≡ SHT_RELA → s.info ≢ t) x.sections) (sym ok.says)
    (λ g k d lt kind info.
    (let l = length-sections b in
    let at : get_or (elf_of b).sections k d ≡ section_entry b k = section-at b k d (omega arith) in
    let ek : (section_header b k).kind ≡ SHT_RELA = sym (ap (λ (s : SectionEntry). s.kind) (at ∙ entry_is b k)) ∙ kind in
    let ei : (section_header b k).info ≡ t = sym (ap (λ (s : SectionEntry). s.info) (at ∙ entry_is b k)) ∙ info in
    let e = ((ok.well_formed.links k (omega arith)).relocs ek).exists in
    omega arith))
    h

-- sections of type PROGBITS without code
pub progbits : (e : NewEntry) → e.kind ≡ SHT_PROGBITS → bit_and e.flags SHF_EXECINSTR ≡ 0 → IsPlain e
progbits e kind flags = record {
  no_symbols = λ x. omega arith;
  no_strings = λ x. omega arith;
  no_relas = λ x. omega arith;
  no_rels = λ x. omega arith;
  no_group = λ x. omega arith;
  no_indices = λ x. omega arith;
  no_text = λ x. flags;
  no_null = λ x. absurd (omega arith);
  no_bits = λ x. absurd (omega arith);
}

-- one section of relocations, behind sections that are none
pub apart-last : (new : List NewEntry) (e : NewEntry) → All (λ (x : NewEntry). x.kind ≢ SHT_RELA) new → AllPairs AreApart (new ++ e ∷ [])
apart-last new e none i j d lt inside kind =
    let l : length (new ++ e ∷ []) ≡ length new + 1 = length-append new (e ∷ []) in
    let at : get_or (new ++ e ∷ []) i d ≡ get_or new i d = get_or_append_left new (e ∷ []) d i (omega arith) in
    absurd (none i d (omega arith) (sym (ap (λ (x : NewEntry). x.kind) at) ∙ kind))

-- the sections of the object with the new ones

abbrev olds : Elf → List NewEntry → List SectionEntry
olds o new = map (old_section (input_of_object o) (length o.sections + length new) new) (enumerate_from 0 o.sections)

abbrev news : Elf → List NewEntry → List SectionEntry
news o new = new_sections (end_of (length o.bytes) (all_names (input_of_object o) new ∷ [])) new

length-olds : (o : Elf) (new : List NewEntry) → length (olds o new) ≡ length o.sections
length-olds o new =
    length-map (enumerate_from 0 o.sections) (old_section (input_of_object o) (length o.sections + length new) new)
    ∙ length-enumerate_from 0 o.sections

pub length-object_with : (o : Elf) (new : List NewEntry) → length (object_with o new).sections ≡ length o.sections + length new
length-object_with o [] = omega arith
length-object_with o (e ∷ new) =
    length-append (olds o (e ∷ new)) (news o (e ∷ new))
    ∙ omega (arith, length-olds o (e ∷ new), length-new_sections (end_of (length o.bytes) (all_names (input_of_object o) (e ∷ new) ∷ [])) (e ∷ new))

-- a new section stands behind the old ones, in its order
pub added-section : (o : Elf) (new : List NewEntry) (k : ℕ) → k < length new
    → section_at (object_with o new) (length o.sections + k)
    ≡ new_section (aligned (end_of (length o.bytes) (all_names (input_of_object o) new ∷ bodies (take k new)))) (get_or new k no_entry)
added-section o [] k h = absurd (omega arith)
added-section o (e ∷ new) k h =
    let m : length o.sections + k - length o.sections ≡ k = omega arith in
    get_or-append_right (olds o (e ∷ new)) (news o (e ∷ new)) (length o.sections) (length o.sections + k) no_section (length-olds o (e ∷ new)) (omega arith)
    ∙ ap (λ (n : ℕ). get_or (news o (e ∷ new)) n no_section) m
    ∙ get_or-new_sections (end_of (length o.bytes) (all_names (input_of_object o) (e ∷ new) ∷ [])) (e ∷ new) k no_section h

old_at : (o : Elf) (e : NewEntry) (new : List NewEntry) (k : ℕ) → k < length o.sections
    → section_at (object_with o (e ∷ new)) k ≡ old_section (input_of_object o) (length o.sections + length (e ∷ new)) (e ∷ new) (k, section_at o k)
old_at o e new k h =
    let z : 0 + k ≡ k = omega arith in
    let f : ℕ × SectionEntry → SectionEntry = old_section (input_of_object o) (length o.sections + length (e ∷ new)) (e ∷ new) in
    get_or_append_left (olds o (e ∷ new)) (news o (e ∷ new)) no_section k (omega (arith, length-olds o (e ∷ new)))
    ∙ get_or-map f (enumerate_from 0 o.sections) k (0, no_section) no_section (omega (arith, length-enumerate_from 0 o.sections))
    ∙ ap f (get_or-enumerate_from 0 o.sections k (0, no_section) h)
    ∙ ap (λ (x : ℕ). f (x, section_at o k)) z

-- an old section but section 0 and the name table is as it was
pub kept-section : (o : Elf) (new : List NewEntry) (k : ℕ) → k < length o.sections → k ≢ 0 → k ≢ o.name_table
    → section_at (object_with o new) k ≡ section_at o k
kept-section o [] k h x y = refl
kept-section o (e ∷ new) k h x y =
    old_at o e new k h
    ∙ old_section-other (input_of_object o) (length o.sections + length (e ∷ new)) (e ∷ new) k (section_at o k) x y

-- the relocations of a section for which no new section has any
pub kept-relocs : (o : Elf) (new : List NewEntry) (t : ℕ) → t < length o.sections + length new
    → All (λ (e : NewEntry). e.kind ≡ SHT_RELA → e.info ≢ t) new → relocs_at (object_with o new) t ≡ relocs_at o t
kept-relocs o [] t h none = refl
kept-relocs o (e ∷ new) t h none =
    let all : List NewEntry = e ∷ new in
    let p : ℕ = position_or_len (for_section t) all in
    let past : length all ≤ p = elim (cases_lt p (length all)) [
      | inl inside ↦
          let passes = passes_at_first (for_section t) all no_entry inside in
          let no = none p no_entry inside in
          absurd (no (grind (arith, nat_tests)) (grind (arith, nat_tests)))
      | inr past ↦ past
    ] in
    let found : find (for_section t) all ≡ None = find_at (for_section t) all ∙ slice_get_past all p past in
    get_or-map-range_with_len (relocs_with o all) 0 (length o.sections + length all) t t [] h (omega arith)
    ∙ rw found refl

not_both : (t : ℕ) (e : NewEntry) → (e.kind ≡ SHT_RELA → e.info ≢ t) → for_section t e ≡ false
not_both t e none = grind (arith, nat_tests)

-- those of a section for which a new section has some
pub added-relocs : (o : Elf) (new : List NewEntry) (k t : ℕ) → t < length o.sections + length new → AllPairs AreApart new → k < length new
    → (get_or new k no_entry).kind ≡ SHT_RELA → (get_or new k no_entry).info ≡ t
    → relocs_at (object_with o new) t ≡ relocs_in (get_or new k no_entry).body
added-relocs o [] k t h apart inside kind info = absurd (omega arith)
added-relocs o (e ∷ new) k t h apart inside kind info =
    let all : List NewEntry = e ∷ new in
    let here : for_section t (get_or all k no_entry) ≡ true = grind (arith, nat_tests) in
    let before : (j : ℕ) → j < k → for_section t (get_or all j no_entry) ≡ false = λ j lt.
    (let a = apart j k no_entry lt inside in not_both t (get_or all j no_entry) (λ kj ij. a kj kind (ij ∙ sym info))) in
    let at : position_or_len (for_section t) all ≡ k = position_or_len_is (for_section t) all k no_entry (omega arith) before (λ _. here) in
    let found : find (for_section t) all ≡ Some (get_or all k no_entry) =
    find_at (for_section t) all ∙ ap (slice_get all) at ∙ slice_get-get_or all k no_entry inside in
    get_or-map-range_with_len (relocs_with o all) 0 (length o.sections + length all) t t [] h (omega arith)
    ∙ rw found refl

-- a name without a zero byte, by a test that computes
pub name-free : (name : List ℕ) → list_all (λ (c : ℕ). not (eqb c 0)) name ≡ true → All (λ (c : ℕ). c ≢ 0) name
name-free name e k d h none =
    let p = AllPass-from_list_all (λ (c : ℕ). not (eqb c 0)) name e k d h in
    grind (arith, nat_tests)

-- sections of which nothing is asked may be added, where the file does not get too long
pub can_add-plain : (b : List ℕ) (o : Elf) (new : List NewEntry) → IsObject b o → length o.sections + length new ≤ 262144
    → 3 * length b + sum_by size_with new + 14 < 2 ^ 32
    → All (λ (e : NewEntry). All (λ (c : ℕ). c ≢ 0) e.name) new → All HasFields new → All IsPlain new → CanAdd o new
can_add-plain b o new ok few size names fields plain = record {
  few = few;
  size = (let l = length-appended_to b o new ok in omega arith);
  each = λ k d h. record { name = names k d h; fields = fields k d h; form = inl (plain k d h) };
  apart = λ i j d lt h kind. absurd ((plain i d (omega arith)).no_relas kind);
}

-- three sections
pub three : (P : NewEntry → Type 0) (x y z : NewEntry) → P x → P y → P z → All P (x ∷ y ∷ z ∷ [])
three P x y z a c d = All-cons P x (y ∷ z ∷ []) a (All-cons P y (z ∷ []) c (All-cons P z [] d (All-nil P)))
