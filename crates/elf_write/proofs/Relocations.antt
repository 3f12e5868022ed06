-- The relocations of the object with the new sections, and its text.
use Rattle.std.proofs.Common.{◌≡◌, inl, inr, ℕ, zero, suc, ◌+◌, ◌-◌, ◌*◌, ◌/◌, ◌<◌, ◌≤◌, List, ◌++◌, length, get_or, map, refl, sym, ap, subst, ◌∙◌, arith}
use Rattle.std.specs.Prelude.{All, IsTrue, bit_and, slice_index}
use Rattle.std.specs.List.{range_with_len, sum_by}
use Rattle.std.proofs.lemmas.Bool.{cases_eq, cases_lt}
use Rattle.std.proofs.lemmas.Bool.Decides.{nat_tests}
use Rattle.std.proofs.lemmas.List.{get_or-append_right, get_or-map, get_or_append_left, length-map}
use Rattle.std.proofs.lemmas.List.FromFn.{get_or-map-range_with_len, length-map-range_with_len, sum_by-map-range_with_len_more}
use Rattle.elf_objects.specs.Contents.{elf_of, section_entry, symbol_entry}
use Rattle.elf_objects.specs.Elf.{SectionEntry}
use Rattle.elf_objects.specs.File.{name_table, section_count, section_header}
use Rattle.elf_objects.specs.Header.{is_text_header}
use Rattle.elf_objects.specs.declared.TheConstants.{SHF_COMPRESSED, SHT_NULL, SHT_PROGBITS, SHT_STRTAB, SHT_RELA}
use Rattle.elf_objects.specs.Object.{IsWellFormed}
use Rattle.elf_objects.specs.Sections.{file_text_bytes, text_size}
use Rattle.elf_objects.specs.Symbols.{HasRelocs, IsReloc, IsRelocIn}
use Rattle.elf_objects.specs.Table.{reloc_at, reloc_of, symbol_count}
use Rattle.elf_objects.specs.declared.header.SectionHeader.{SectionHeader}
use Rattle.elf_objects.specs.declared.symbol.Reloc.{Reloc}
use Rattle.elf_write.specs.Added.{IsAddable, IsRelocOf, relocs_in, sizes}
use Rattle.elf_write.specs.Layout.{NewEntry, header_for}
use Rattle.elf_write.proofs.Cases.{first_kind, keeps, table_kind}
use Rattle.elf_write.proofs.Contents.{Lies, grows, lies_at}
use Rattle.elf_write.proofs.Facts.{Output, no_entry}
use Rattle.elf_write.proofs.Forms.{no_table, no_text, relocs_of_new}
use Rattle.elf_write.proofs.Links.{length-sections, section-at, symbol_count-output}
use Rattle.elf_write.proofs.Numbers.{reloc-same}
use Rattle.elf_write.proofs.Parts.{part, part-part}
use Rattle.elf_write.proofs.Special.{bool_cases, plain-output}

pub reloc_is : (b : List ℕ) (h : SectionHeader) (k : ℕ) → reloc_of b h k ≡ reloc_at b (h.offset + 24 * k)
unfolding reloc_of
reloc_is b h k = refl

-- a relocation that the object had
pub reloc-output : (b : List ℕ) (new : List NewEntry) (q : List ℕ) (hp np : ℕ) (nm : List ℕ) (place name : ℕ → ℕ)
    → Output b new q hp np nm place name → IsWellFormed b → (i k : ℕ) → i < section_count b → (section_header b i).kind ≡ SHT_RELA
    → k < (section_header b i).size / 24 → reloc_of q (section_header b i) k ≡ reloc_of b (section_header b i) k
reloc-output b new q hp np nm place name o w i k h kind lt =
    let d = section_header b i in
    let l : Lies b d = lies_at b w i SHT_RELA h kind (λ e. omega arith) (λ e. omega arith) (omega arith) in
    let at : ℕ = d.offset + 24 * k in
    reloc_is q d k
    ∙ reloc-same at at q b (o.kept at 24 (omega (arith, l.behind)) (omega (arith, l.within)))
    ∙ sym (reloc_is b d k)

-- a relocation of a new section
pub reloc-new : (b : List ℕ) (new : List NewEntry) (q : List ℕ) (hp np : ℕ) (nm : List ℕ) (place name : ℕ → ℕ)
    → Output b new q hp np nm place name → (n k : ℕ) → n < length new → k < length (get_or new n no_entry).body / 24
    → reloc_of q (header_for (name n) (place n) (get_or new n no_entry)) k ≡ reloc_at (get_or new n no_entry).body (24 * k)
reloc-new b new q hp np nm place name o n k h lt =
    let one : NewEntry = get_or new n no_entry in
    reloc_is q (header_for (name n) (place n) one) k
    ∙ reloc-same (place n + 24 * k) (24 * k) q one.body
    (sym (part-part (24 * k) 24 (place n) (length one.body) q (omega arith)) ∙ ap (part (24 * k) 24) (o.body_part n no_entry h))

-- one of those in a body
pub relocs_in-at : (body : List ℕ) (k : ℕ) (d : Reloc) → k < length body / 24 → get_or (relocs_in body) k d ≡ reloc_at body (24 * k)
relocs_in-at body k d h = get_or-map-range_with_len (λ (j : ℕ). reloc_at body (24 * j)) 0 (length body / 24) k k d h (omega arith)

entry-size : (b : List ℕ) (k : ℕ) → (section_entry b k).size ≡ (section_header b k).size
unfolding section_entry
entry-size b k = refl

-- the target of new relocations is as large as was said
target_size : (b : List ℕ) (new : List NewEntry) (q : List ℕ) (hp np : ℕ) (nm : List ℕ) (place name : ℕ → ℕ)
    → Output b new q hp np nm place name → IsWellFormed b → 0 < length new → (t : ℕ) → 1 ≤ t → t < section_count b + length new
    → slice_index (sizes (elf_of b) new) t ≤ (section_header q t).size
target_size b new q hp np nm place name o w some t low high =
    let olds : List ℕ = map (λ (s : SectionEntry). s.size) (elf_of b).sections in
    let news : List ℕ = map (λ (e : NewEntry). length e.body) new in
    let l : length olds ≡ section_count b = length-map (elf_of b).sections (λ (s : SectionEntry). s.size) ∙ length-sections b in
    elim (cases_lt t (section_count b)) [
      | inl lower ↦
          let e : slice_index (olds ++ news) t ≡ (section_header b t).size =
          get_or_append_left olds news 0 t (omega arith)
          ∙ get_or-map (λ (s : SectionEntry). s.size) (elf_of b).sections t (section_entry b 0) 0 (omega (arith, length-sections b))
          ∙ ap (λ (s : SectionEntry). s.size) (section-at b t (section_entry b 0) lower)
          ∙ entry-size b t in
          let g = grows b new q hp np nm place name o w some t lower (λ z. omega arith) in
          omega arith
      | inr upper ↦
          let k : ℕ = t - section_count b in
          let split : t ≡ section_count b + k = omega arith in
          let e : slice_index (olds ++ news) t ≡ length (get_or new k no_entry).body =
          get_or-append_right olds news (section_count b) t 0 l upper
          ∙ get_or-map (λ (x : NewEntry). length x.body) new k no_entry 0 (omega arith) in
          let s : (section_header q t).size ≡ length (get_or new k no_entry).body =
          ap (λ (x : ℕ). (section_header q x).size) split ∙ ap (λ (x : SectionHeader). x.size) (o.added k no_entry (omega arith)) in
          omega arith
    ]

-- a relocation that the object had is one of as many symbols, in a section that is as large and isn't compressed now
IsRelocIn-kept : (r : Reloc) (n m : ℕ) (h g : SectionHeader) → n ≡ m → g.flags ≡ h.flags → h.size ≤ g.size → IsRelocIn r n h → IsRelocIn r m g
IsRelocIn-kept r n m h g e same t f = record {
  symbol = omega (arith, f.symbol);
  field = λ plain read. (let inside = f.field (subst (λ (flags : ℕ). bit_and flags SHF_COMPRESSED ≡ 0) same plain) read in omega arith);
}

IsRelocIn-new : (r : Reloc) (n m s : ℕ) (g : SectionHeader) → n ≡ m → s ≤ g.size → IsRelocOf r n s → IsRelocIn r m g
IsRelocIn-new r n m s g e t f = record {
  symbol = omega (arith, f.symbol);
  field = λ plain read. (let inside = f.field read in omega arith);
}

length-symbols : (b : List ℕ) → length (elf_of b).symbols ≡ symbol_count b
length-symbols b = length-map-range_with_len (symbol_entry b) 0 (symbol_count b)

relocs_of_old : (b : List ℕ) (new : List NewEntry) (q : List ℕ) (hp np : ℕ) (nm : List ℕ) (place name : ℕ → ℕ)
    → Output b new q hp np nm place name → IsWellFormed b → 0 < length new → All (IsAddable (elf_of b) new) new
    → (i : ℕ) → i < section_count b → HasRelocs q i
relocs_of_old b new q hp np nm place name o w some ok i h kind k lt =
    let kp = keeps b new q hp np nm place name o i h in
    let was : (section_header b i).kind ≡ SHT_RELA = sym kp.kind ∙ kind in
    let is : section_header q i ≡ section_header b i = plain-output b new q hp np nm place name o w i SHT_RELA h was (λ e. omega arith) (λ e. omega arith) in
    let sc = symbol_count-output b new q hp np nm place name o w ok in
    let inside : k < (section_header b i).size / 24 = subst (λ (g : SectionHeader). k < g.size / 24) is lt in
    let had : IsReloc b i k = w.relocs i h was k inside in
    let links = (w.links i h).relocs was in
    let low = links.target in
    let g = grows b new q hp np nm place name o w some (section_header b i).info links.exists (λ z. omega arith) in
    let same = reloc-output b new q hp np nm place name o w i k h was inside in
    let kept = keeps b new q hp np nm place name o (section_header b i).info links.exists in
    rw (is, same) (IsRelocIn-kept (reloc_of b (section_header b i) k) (symbol_count b) (symbol_count q) (section_header b (section_header b i).info) (section_header q (section_header b i).info) (sym sc) kept.flags g had)

relocs_of_added : (b : List ℕ) (new : List NewEntry) (q : List ℕ) (hp np : ℕ) (nm : List ℕ) (place name : ℕ → ℕ)
    → Output b new q hp np nm place name → IsWellFormed b → 0 < length new → All (IsAddable (elf_of b) new) new
    → (n i : ℕ) → n < length new → i ≡ section_count b + n → HasRelocs q i
relocs_of_added b new q hp np nm place name o w some ok n i h e kind k lt =
    let one : NewEntry = get_or new n no_entry in
    let is : section_header q i ≡ header_for (name n) (place n) one = ap (section_header q) e ∙ o.added n no_entry h in
    let rela : one.kind ≡ SHT_RELA = sym (ap (λ (g : SectionHeader). g.kind) is) ∙ kind in
    let inside : k < length one.body / 24 = subst (λ (g : SectionHeader). k < g.size / 24) is lt in
    let r = relocs_of_new (elf_of b) new one (ok n no_entry h) rela in
    let sc = symbol_count-output b new q hp np nm place name o w ok in
    let l = length-sections b in
    let size = target_size b new q hp np nm place name o w some one.info r.info (omega (arith, r.target)) in
    let d : Reloc = reloc_at one.body (24 * k) in
    let count : length (relocs_in one.body) ≡ length one.body / 24 = length-map-range_with_len (λ (j : ℕ). reloc_at one.body (24 * j)) 0 (length one.body / 24) in
    let said : IsRelocOf (get_or (relocs_in one.body) k d) (length (elf_of b).symbols) (slice_index (sizes (elf_of b) new) one.info) = r.relocs k d (omega arith) in
    let at = relocs_in-at one.body k d inside in
    let same = reloc-new b new q hp np nm place name o n k h inside in
    rw (is, same) (IsRelocIn-new d (length (elf_of b).symbols) (symbol_count q) (slice_index (sizes (elf_of b) new) one.info) (section_header q one.info) (length-symbols b ∙ sym sc) size
    (subst (λ (x : Reloc). IsRelocOf x (length (elf_of b).symbols) (slice_index (sizes (elf_of b) new) one.info)) at said))

pub relocs-output : (b : List ℕ) (new : List NewEntry) (q : List ℕ) (hp np : ℕ) (nm : List ℕ) (place name : ℕ → ℕ)
    → Output b new q hp np nm place name → IsWellFormed b → 0 < length new → All (IsAddable (elf_of b) new) new
    → (i : ℕ) → i < section_count q → HasRelocs q i
relocs-output b new q hp np nm place name o w some ok i h =
    let c = o.count in
    elim (cases_lt i (section_count b)) [
      | inl lower ↦ relocs_of_old b new q hp np nm place name o w some ok i lower
      | inr upper ↦ relocs_of_added b new q hp np nm place name o w some ok (i - section_count b) i (omega arith) (omega arith)
    ]

-- the sum of a number of each section, where the further ones have none
sum_further : (p q : ℕ → SectionHeader) (g : SectionHeader → ℕ) (n m : ℕ)
    → ((k : ℕ) → k < n → g (q k) ≡ g (p k)) → ((k : ℕ) → k < m → g (q (n + k)) ≡ 0)
    → sum_by g (map q (range_with_len 0 (n + m))) ≡ sum_by g (map p (range_with_len 0 n))
sum_further p q g zero zero same none = refl
sum_further p q g (suc n) zero same none =
    let ih = sum_further p q g n zero (λ k h. same k (omega arith)) (λ k h. absurd (omega arith)) in
    let here = same n (omega arith) in
    let e : suc n + 0 ≡ n + 0 + 1 = omega arith in
    let f : suc n ≡ n + 1 = omega arith in
    let a = sum_by-map-range_with_len_more g q 0 (n + 0) (n + 0) (omega arith) in
    let z : n + 0 ≡ n = omega arith in
    let c = sum_by-map-range_with_len_more g p 0 n n (omega arith) in
    ap (λ (x : ℕ). sum_by g (map q (range_with_len 0 x))) e ∙ a ∙ ap (λ (x : ℕ). sum_by g (map q (range_with_len 0 (n + 0))) + g (q x)) z
    ∙ ap (λ (x : ℕ). x + g (q n)) ih ∙ ap (λ (x : ℕ). sum_by g (map p (range_with_len 0 n)) + x) here
    ∙ sym c ∙ ap (λ (x : ℕ). sum_by g (map p (range_with_len 0 x))) (sym f)
sum_further p q g n (suc m) same none =
    let ih = sum_further p q g n m same (λ k h. none k (omega arith)) in
    let here = none m (omega arith) in
    let e : n + suc m ≡ n + m + 1 = omega arith in
    let a = sum_by-map-range_with_len_more g q 0 (n + m) (n + m) (omega arith) in
    ap (λ (x : ℕ). sum_by g (map q (range_with_len 0 x))) e ∙ a
    ∙ omega (arith, ih, here)

no_text_size : (g : SectionHeader) → (g.kind ≡ SHT_PROGBITS → ⊥) → text_size g ≡ 0
no_text_size g none = grind (arith, nat_tests)

none_text_size : (g : SectionHeader) → (IsTrue (is_text_header g) → ⊥) → text_size g ≡ 0
none_text_size g none = elim (bool_cases (is_text_header g)) [
  | inl there ↦ absurd (none there)
  | inr absent ↦ rw absent refl
]

text_of : (b : List ℕ) (new : List NewEntry) (q : List ℕ) (hp np : ℕ) (nm : List ℕ) (place name : ℕ → ℕ)
    → Output b new q hp np nm place name → IsWellFormed b → (k : ℕ) → k < section_count b → text_size (section_header q k) ≡ text_size (section_header b k)
text_of b new q hp np nm place name o w k h =
    let kp = keeps b new q hp np nm place name o k h in
    elim (cases_eq k 0) [
      | inl zeroth ↦
          let was : (section_header b k).kind ≡ SHT_NULL = ap (λ (x : ℕ). (section_header b x).kind) zeroth ∙ first_kind b w in
          no_text_size (section_header q k) (λ e. omega (arith, kp.kind)) ∙ sym (no_text_size (section_header b k) (λ e. omega arith))
      | inr some ↦ elim (cases_eq k (name_table b)) [
        | inl names ↦
            let was : (section_header b k).kind ≡ SHT_STRTAB = ap (λ (x : ℕ). (section_header b x).kind) names ∙ table_kind b w in
            no_text_size (section_header q k) (λ e. omega (arith, kp.kind)) ∙ sym (no_text_size (section_header b k) (λ e. omega arith))
        | inr other ↦ ap text_size (o.old k h some other)
      ]
    ]

pub text-output : (b : List ℕ) (new : List NewEntry) (q : List ℕ) (hp np : ℕ) (nm : List ℕ) (place name : ℕ → ℕ)
    → Output b new q hp np nm place name → IsWellFormed b → All (IsAddable (elf_of b) new) new → file_text_bytes q ≡ file_text_bytes b
unfolding file_text_bytes
text-output b new q hp np nm place name o w ok =
    ap (λ (n : ℕ). sum_by text_size (map (section_header q) (range_with_len 0 n))) o.count
    ∙ sum_further (section_header b) (section_header q) text_size (section_count b) (length new)
    (λ k h. text_of b new q hp np nm place name o w k h)
    (λ k h. ap text_size (o.added k no_entry h)
    ∙ none_text_size (header_for (name k) (place k) (get_or new k no_entry)) (no_text (header_for (name k) (place k) (get_or new k no_entry)) (no_table (elf_of b) new (get_or new k no_entry) (ok k no_entry h)).text))
