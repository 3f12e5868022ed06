-- What the sections of the object that is made say.
use Rattle.std.proofs.Common.{◌≡◌, ◌≢◌, inl, inr, ℕ, zero, suc, ◌+◌, ◌-◌, ◌<◌, Bool, true, false, not, List, [], ◌∷◌, ◌++◌, length, map, take, get_or, refl, sym, ap, ◌∙◌, arith, length-append}
use Rattle.std.specs.Prelude.{All, codes, ◌==◌, if◌then◌else◌}
use Rattle.std.specs.List.{list_all, range_with_len}
use Rattle.std.proofs.lemmas.Bool.{cases_eq}
use Rattle.std.proofs.lemmas.Bool.Decides.{nat_tests}
use Rattle.std.proofs.lemmas.List.Elements.{All-append, All-map}
use Rattle.std.proofs.lemmas.List.FromFn.{fill_by_all}
use Rattle.std.proofs.lemmas.List.Sums.{take_while-cons}
use Rattle.elf_objects.specs.Contents.{entry_of_header, section_entry}
use Rattle.elf_objects.specs.Elf.{SectionEntry}
use Rattle.elf_objects.specs.File.{section_count}
use Rattle.elf_objects.specs.Header.{has_body}
use Rattle.elf_objects.specs.Strings.{up_to_zero}
use Rattle.elf_objects.specs.Table.{body_of, name_header, string_at}
use Rattle.elf_objects.specs.declared.header.SectionHeader.{SectionHeader}
use Rattle.elf_write.specs.Added.{new_section}
use Rattle.elf_write.specs.Layout.{NewEntry, header_for, new_names}
use Rattle.elf_write.proofs.Says.{entry_is}
use Rattle.elf_write.proofs.Special.{body_none, body_range, bool_cases}
use Rattle.elf_write.proofs.Strings.{string_at-new}
use Rattle.demo_objects.specs.CanMake.{CanLayOut}
use Rattle.demo_objects.specs.Layout.{bodies_end, first_header, names_entry, next_multiple, with_names}
use Rattle.demo_objects.specs.Made.{all_sections, indices_entry, made, needs_indices, no_entry, rela_entry, strings_entry, symbol_tables, symbols_entry, targets}
use Rattle.demo_objects.specs.Object.{first_section, placed_sections}
use Rattle.demo_objects.specs.Spec.{Spec}
use Rattle.demo_objects.proofs.Can.{front_part, given_part}
use Rattle.demo_objects.proofs.Items.{all-only}
use Rattle.demo_objects.proofs.Placed.{entry_at, name_at, place_at}
use Rattle.demo_objects.proofs.ReadBack.{Reads, reads}
use Rattle.demo_objects.proofs.WellFormed.{last-entry, name-header, names-body, space}

-- Each section has a name that can be read, and a body only where its type has one.
record IsSound (e : NewEntry) : Type 0 where
  pub name : All (λ c. c ≢ 0) e.name
  pub no_null : e.kind ≡ 0 → e.body ≡ []
  pub no_bits : e.kind ≡ 8 → e.body ≡ []

pub nonzero : (xs : List ℕ) → list_all (λ c. not (c == 0)) xs ≡ true → All (λ c. c ≢ 0) xs
nonzero [] t k d h = absurd (omega arith)
nonzero (x ∷ xs) t zero d h = grind (arith, nat_tests)
nonzero (x ∷ xs) t (suc k) d h = nonzero xs (grind (arith, nat_tests)) k d (omega arith)

given-name : (es : List NewEntry) (k : ℕ) → All (λ (e : NewEntry). All (λ c. c ≢ 0) e.name) es → All (λ c. c ≢ 0) (entry_at es k).name
given-name [] k ok = λ j d h. absurd (omega arith)
given-name (e ∷ es) zero ok = ok 0 e (omega arith)
given-name (e ∷ es) (suc k) ok = given-name es k (λ j d h. ok (suc j) d (omega arith))

rela-sound : (s : Spec) → CanLayOut s → (sec : ℕ) → IsSound (rela_entry s sec)
rela-sound s can sec = record {
  name = All-append (λ (c : ℕ). c ≢ 0) (codes ".rela") (entry_at s.sections (sec - 1)).name (nonzero (codes ".rela") refl) (given-name s.sections (sec - 1) (λ k d h. (can.parts.sections k d h).name));
  no_null = λ e. absurd (omega arith);
  no_bits = λ e. absurd (omega arith);
}

symbols-sound : (s : Spec) → IsSound (symbols_entry s)
symbols-sound s = record { name = nonzero (codes ".symtab") refl; no_null = λ e. absurd (omega arith); no_bits = λ e. absurd (omega arith) }

indices-sound : (s : Spec) → IsSound (indices_entry s)
indices-sound s = record { name = nonzero (codes ".symtab_shndx") refl; no_null = λ e. absurd (omega arith); no_bits = λ e. absurd (omega arith) }

strings-sound : (s : Spec) → IsSound (strings_entry s)
strings-sound s = record { name = nonzero (codes ".strtab") refl; no_null = λ e. absurd (omega arith); no_bits = λ e. absurd (omega arith) }

names-sound : (es : List NewEntry) → IsSound (names_entry es)
names-sound es = record { name = nonzero (codes ".shstrtab") refl; no_null = λ e. absurd (omega arith); no_bits = λ e. absurd (omega arith) }

tables-sound : (s : Spec) → All IsSound (symbol_tables s)
tables-sound s = by (needs_indices s.symbols)
  where
    by : (b : Bool) → All IsSound (if b then symbols_entry s ∷ indices_entry s ∷ [] else symbols_entry s ∷ [])
    by true = All-append IsSound (symbols_entry s ∷ []) (indices_entry s ∷ []) (all-only IsSound (symbols_entry s) (symbols-sound s)) (all-only IsSound (indices_entry s) (indices-sound s))
    by false = all-only IsSound (symbols_entry s) (symbols-sound s)

all-sound : (s : Spec) → CanLayOut s → All IsSound (all_sections s)
all-sound s can =
    All-append IsSound (front_part s ++ strings_entry s ∷ []) (names_entry (front_part s ++ strings_entry s ∷ []) ∷ [])
    (All-append IsSound (front_part s) (strings_entry s ∷ [])
    (All-append IsSound (given_part s) (symbol_tables s)
    (All-append IsSound s.sections (map (rela_entry s) (targets s))
    (λ k d h. (let one = can.parts.sections k d h in record { name = one.name; no_null = one.no_null; no_bits = one.no_bits }))
    (All-map IsSound (rela_entry s) (targets s) (λ k d h. rela-sound s can (get_or (targets s) k d))))
    (tables-sound s))
    (all-only IsSound (strings_entry s) (strings-sound s)))
    (all-only IsSound (names_entry (front_part s ++ strings_entry s ∷ [])) (names-sound (front_part s ++ strings_entry s ∷ [])))

-- The body of a section.
body-read : (es : List NewEntry) (b : List ℕ) → Reads es b → (k : ℕ) → k < length es → IsSound (entry_at es k)
    → body_of b (header_for (name_at es k) (place_at es k) (entry_at es k)) ≡ (entry_at es k).body
body-read es b o k h ok =
    let one : NewEntry = entry_at es k in
    let g : SectionHeader = header_for (name_at es k) (place_at es k) one in
    elim (bool_cases (has_body g)) [
      | inl there ↦ body_range b g there ∙ o.body_part k h
      | inr absent ↦ body_none b g absent ∙ sym (elim (cases_eq one.kind 0) [
        | inl null ↦ ok.no_null null
        | inr other ↦ ok.no_bits (grind (arith, nat_tests))
      ])
    ]

-- The name table.
names-read : (init : List NewEntry) (b : List ℕ) → Reads (with_names init) b → All IsSound (with_names init) → body_of b (name_header b) ≡ (0 ∷ []) ++ new_names (with_names init)
names-read init b o sound =
    let es : List NewEntry = with_names init in
    let k : ℕ = length init in
    let inside : k < length es = omega (arith, length-append init (names_entry init ∷ [])) in
    ap (body_of b) (name-header init b o)
    ∙ ap (λ (e : NewEntry). body_of b (header_for (name_at es k) (place_at es k) e)) (sym (last-entry init))
    ∙ body-read es b o k inside (sound k no_entry inside)
    ∙ ap (λ (e : NewEntry). e.body) (last-entry init)
    ∙ sym (names-body init)

pub empty-name : (xs : List ℕ) → string_at (0 ∷ xs) 0 ≡ []
unfolding string_at up_to_zero
empty-name xs = take_while-cons (λ c. not (c == 0)) 0 xs

first-entry : (init : List NewEntry) (b : List ℕ) → Reads (with_names init) b → All IsSound (with_names init) → section_entry b 0 ≡ first_section (length (with_names init) + 1)
first-entry init b o sound =
    let title : string_at (body_of b (name_header b)) 0 ≡ [] = ap (λ (xs : List ℕ). string_at xs 0) (names-read init b o sound) ∙ empty-name (new_names (with_names init)) in
    let body : body_of b (first_header (length (with_names init) + 1)) ≡ [] = body_none b (first_header (length (with_names init) + 1)) refl in
    entry_is b 0 ∙ ap (entry_of_header b) o.first ∙ rw (title, body) refl

other-entry : (init : List NewEntry) (b : List ℕ) → Reads (with_names init) b → All IsSound (with_names init) → (k : ℕ) → k < length (with_names init)
    → section_entry b (suc k) ≡ new_section (place_at (with_names init) k) (entry_at (with_names init) k)
other-entry init b o sound k h =
    let es : List NewEntry = with_names init in
    let one : NewEntry = entry_at es k in
    let title : string_at (body_of b (name_header b)) (name_at es k) ≡ one.name =
    ap (λ (xs : List ℕ). string_at xs (name_at es k)) (names-read init b o sound) ∙ string_at-new (0 ∷ []) es k no_entry h (sound k no_entry h).name in
    let body = body-read es b o k h (sound k no_entry h) in
    entry_is b (suc k) ∙ ap (entry_of_header b) (o.others k h) ∙ rw (title, body) refl

get_or-placed : (at : ℕ) (es : List NewEntry) (k : ℕ) (d : SectionEntry) → k < length es
    → get_or (placed_sections at es) k d ≡ new_section (next_multiple (entry_at es k).align (bodies_end at (take k es))) (entry_at es k)
get_or-placed at [] k d h = absurd (omega arith)
get_or-placed at (e ∷ es) zero d h = refl
get_or-placed at (e ∷ es) (suc k) d h = get_or-placed (next_multiple e.align at + length e.body) es k d (omega arith)

length-placed : (at : ℕ) (es : List NewEntry) → length (placed_sections at es) ≡ length es
length-placed at [] = refl
length-placed at (e ∷ es) = ap (λ (n : ℕ). suc n) (length-placed (next_multiple e.align at + length e.body) es)

each-entry : (init : List NewEntry) (b : List ℕ) (d : SectionEntry) → Reads (with_names init) b → All IsSound (with_names init) → (i : ℕ) → i < length (with_names init) + 1
    → get_or (first_section (length (with_names init) + 1) ∷ placed_sections 64 (with_names init)) i d ≡ section_entry b i
each-entry init b d o sound zero h = sym (first-entry init b o sound)
each-entry init b d o sound (suc k) h = get_or-placed 64 (with_names init) k d (omega arith) ∙ sym (other-entry init b o sound k (omega arith))

pub says-sections : (s : Spec) → CanLayOut s
    → map (section_entry (made s)) (range_with_len 0 (section_count (made s))) ≡ first_section (length (all_sections s) + 1) ∷ placed_sections 64 (all_sections s)
says-sections s can =
    let init : List NewEntry = front_part s ++ strings_entry s ∷ [] in
    let es : List NewEntry = all_sections s in
    let b : List ℕ = made s in
    let o : Reads es b = reads es (space s can) in
    let all : List SectionEntry = first_section (length es + 1) ∷ placed_sections 64 es in
    let n : length all ≡ length es + 1 = ap (λ (m : ℕ). suc m) (length-placed 64 es) ∙ omega arith in
    ap (λ (m : ℕ). map (section_entry b) (range_with_len 0 m)) o.count
    ∙ sym (fill_by_all (section_entry b) all (length es + 1) (section_entry b 0) n (λ i h. each-entry init b (section_entry b 0) o (all-sound s can) i h))
