-- What the object with the new sections says.
use Rattle.std.proofs.Common.{◌≡◌, ◌≢◌, inl, inr, ℕ, zero, suc, ◌+◌, ◌-◌, ◌*◌, ◌<◌, List, [], ◌∷◌, ◌++◌, length, take, get_or, map, refl, sym, ap, ◌∙◌, arith}
use Rattle.std.specs.Prelude.{All}
use Rattle.std.specs.List.{range_with_len}
use Rattle.std.proofs.lemmas.Bool.{cases_eq}
use Rattle.std.proofs.lemmas.Bool.Decides.{nat_tests}
use Rattle.std.proofs.lemmas.List.FromFn.{fill_by_all, get_or-map-range_with_len, length-map-range_with_len}
use Rattle.elf_objects.specs.Contents.{elf_of, entry_of_header, no_section, section_at, section_entry}
use Rattle.elf_objects.specs.Elf.{SectionEntry}
use Rattle.elf_objects.specs.File.{headers_at, name_table, section_count, section_header}
use Rattle.elf_objects.specs.Header.{has_body}
use Rattle.elf_objects.specs.declared.TheConstants.{SHT_NULL}
use Rattle.elf_objects.specs.Object.{IsWellFormed}
use Rattle.elf_objects.specs.Table.{body_of, name_header, string_at}
use Rattle.elf_objects.specs.declared.header.SectionHeader.{SectionHeader}
use Rattle.elf_write.specs.Added.{IsAddable, new_section, new_sections}
use Rattle.elf_write.specs.Layout.{NewEntry, aligned, bodies, end_of, header_for, long_count, new_names}
use Rattle.elf_write.specs.Object.{input_of_object}
use Rattle.elf_write.proofs.Cases.{first_kind, table_kind}
use Rattle.elf_write.proofs.Contents.{string-output}
use Rattle.elf_write.proofs.Facts.{Output, no_entry}
use Rattle.elf_write.proofs.Links.{length-sections, section-at}
use Rattle.elf_write.proofs.Output.{input_at}
use Rattle.elf_write.proofs.Special.{body_none, body_of-kept, body_range, bool_cases, names-output}
use Rattle.elf_write.proofs.Strings.{string_at-new}

-- two functions that agree give the same list
pub map-same : {X : Type 0} (f g : ℕ → X) (n : ℕ) (d : X) → ((k : ℕ) → k < n → f k ≡ g k) → map f (range_with_len 0 n) ≡ map g (range_with_len 0 n)
map-same f g n d same =
    fill_by_all g (map f (range_with_len 0 n)) n d (length-map-range_with_len f 0 n)
    (λ k h. get_or-map-range_with_len f 0 n k k d h (omega arith) ∙ same k h)

pub entry_is : (b : List ℕ) (k : ℕ) → section_entry b k ≡ entry_of_header b (section_header b k)
unfolding section_entry
entry_is b k = refl

-- the layout of an object is that of its bytes
pub input_is : (b : List ℕ) → IsWellFormed b → input_of_object (elf_of b) ≡ input_at b
input_is b w =
    let l = length-sections b in
    let e : headers_at b + 64 * length (elf_of b).sections - headers_at b ≡ 64 * section_count b = omega arith in
    let n = w.table.counts.names in
    let body : (section_at (elf_of b) (name_table b)).body ≡ body_of b (name_header b) =
    ap (λ (s : SectionEntry). s.body) (section-at b (name_table b) no_section n ∙ entry_is b (name_table b)) in
    rw (e, body) refl

-- the name of an old section is as it was
section_name : (b : List ℕ) (new : List NewEntry) (q : List ℕ) (hp np : ℕ) (nm : List ℕ) (place name : ℕ → ℕ)
    → Output b new q hp np nm place name → IsWellFormed b → (k : ℕ) → k < section_count b
    → string_at (body_of q (name_header q)) (section_header b k).name ≡ string_at (body_of b (name_header b)) (section_header b k).name
section_name b new q hp np nm place name o w k h =
    ap (λ (x : ℕ). string_at (body_of q (section_header q x)) (section_header b k).name) o.table
    ∙ string-output b new q hp np nm place name o w (name_table b) (section_header b k).name w.table.counts.names (table_kind b w) (w.names k h)

no_body_null : (b : List ℕ) (h : SectionHeader) → h.kind ≡ SHT_NULL → body_of b h ≡ []
no_body_null b h e = body_none b h (grind (arith, nat_tests))

-- section 0
pub entry_first : (b : List ℕ) (new : List NewEntry) (q : List ℕ) (hp np : ℕ) (nm : List ℕ) (place name : ℕ → ℕ)
    → Output b new q hp np nm place name → IsWellFormed b
    → section_entry q 0 ≡ record (section_entry b 0) { size = long_count (section_count b + length new) }
entry_first b new q hp np nm place name o w =
    let n = w.table.counts.names in
    let h : SectionHeader = section_header b 0 in
    let g : SectionHeader = record h { size = long_count (section_count b + length new) } in
    let title = section_name b new q hp np nm place name o w 0 (omega arith) in
    let body : body_of q g ≡ body_of b h = no_body_null q g (first_kind b w) ∙ sym (no_body_null b h (first_kind b w)) in
    entry_is q 0 ∙ ap (entry_of_header q) o.first
    ∙ rw (title, body) refl
    ∙ ap (λ (s : SectionEntry). record s { size = long_count (section_count b + length new) }) (sym (entry_is b 0))

-- the name table
pub entry_names : (b : List ℕ) (new : List NewEntry) (q : List ℕ) (hp np : ℕ) (nm : List ℕ) (place name : ℕ → ℕ)
    → Output b new q hp np nm place name → IsWellFormed b
    → section_entry q (name_table b) ≡ record (section_entry b (name_table b)) { offset = np; size = length nm; body = nm }
entry_names b new q hp np nm place name o w =
    let h : SectionHeader = section_header b (name_table b) in
    let g : SectionHeader = record h { offset = np; size = length nm } in
    let title = section_name b new q hp np nm place name o w (name_table b) w.table.counts.names in
    let body : body_of q g ≡ nm =
    ap (body_of q) (sym o.names) ∙ ap (λ (x : ℕ). body_of q (section_header q x)) (sym o.table) ∙ names-output b new q hp np nm place name o w in
    entry_is q (name_table b) ∙ ap (entry_of_header q) o.names
    ∙ rw (title, body) refl
    ∙ ap (λ (s : SectionEntry). record s { offset = np; size = length nm; body = nm }) (sym (entry_is b (name_table b)))

-- another old one
pub entry_old : (b : List ℕ) (new : List NewEntry) (q : List ℕ) (hp np : ℕ) (nm : List ℕ) (place name : ℕ → ℕ)
    → Output b new q hp np nm place name → IsWellFormed b → (k : ℕ) → k < section_count b → k ≢ 0 → k ≢ name_table b
    → section_entry q k ≡ section_entry b k
entry_old b new q hp np nm place name o w k h x y =
    let title = section_name b new q hp np nm place name o w k h in
    let body = body_of-kept b new q hp np nm place name o w k h in
    entry_is q k ∙ ap (entry_of_header q) (o.old k h x y)
    ∙ rw (title, body) refl
    ∙ sym (entry_is b k)

-- the body of a new section
body_new : (b : List ℕ) (new : List NewEntry) (q : List ℕ) (hp np : ℕ) (nm : List ℕ) (place name : ℕ → ℕ)
    → Output b new q hp np nm place name → (k : ℕ) → k < length new → IsAddable (elf_of b) new (get_or new k no_entry)
    → body_of q (header_for (name k) (place k) (get_or new k no_entry)) ≡ (get_or new k no_entry).body
body_new b new q hp np nm place name o k h ok =
    let one : NewEntry = get_or new k no_entry in
    let g : SectionHeader = header_for (name k) (place k) one in
    elim (bool_cases (has_body g)) [
      | inl there ↦ body_range q g there ∙ o.body_part k no_entry h
      | inr absent ↦ body_none q g absent ∙ sym (elim ok.form [
        | inl plain ↦ elim (cases_eq one.kind SHT_NULL) [
          | inl null ↦ plain.no_null null
          | inr other ↦ plain.no_bits (grind (arith, nat_tests))
        ]
        | inr relocs ↦ (let kind = relocs.kind in absurd (grind (arith, nat_tests)))
      ])
    ]

-- a new section
pub entry_new : (b : List ℕ) (new : List NewEntry) (q : List ℕ) (hp np : ℕ) (nm : List ℕ) (place name : ℕ → ℕ)
    → Output b new q hp np nm place name → IsWellFormed b → All (IsAddable (elf_of b) new) new → (k : ℕ) → k < length new
    → section_entry q (section_count b + k) ≡ new_section (place k) (get_or new k no_entry)
entry_new b new q hp np nm place name o w ok k h =
    let one : NewEntry = get_or new k no_entry in
    let mine = ok k no_entry h in
    let title : string_at (body_of q (name_header q)) (name k) ≡ one.name =
    ap (λ (xs : List ℕ). string_at xs (name k)) (names-output b new q hp np nm place name o w ∙ o.names_is)
    ∙ ap (string_at (body_of b (name_header b) ++ new_names new)) (o.name_is k)
    ∙ string_at-new (body_of b (name_header b)) new k no_entry h mine.name in
    let body = body_new b new q hp np nm place name o k h mine in
    entry_is q (section_count b + k) ∙ ap (entry_of_header q) (o.added k no_entry h) ∙ rw (title, body) refl

pub get_or-new_sections : (at : ℕ) (new : List NewEntry) (k : ℕ) (d : SectionEntry) → k < length new
    → get_or (new_sections at new) k d ≡ new_section (aligned (end_of at (bodies (take k new)))) (get_or new k no_entry)
get_or-new_sections at [] k d h = absurd (omega arith)
get_or-new_sections at (x ∷ new) zero d h = refl
get_or-new_sections at (x ∷ new) (suc k) d h = get_or-new_sections (aligned at + length x.body) new k d (omega arith)

pub length-new_sections : (at : ℕ) (new : List NewEntry) → length (new_sections at new) ≡ length new
length-new_sections at [] = refl
length-new_sections at (x ∷ new) = ap (λ (n : ℕ). suc n) (length-new_sections (aligned at + length x.body) new)
