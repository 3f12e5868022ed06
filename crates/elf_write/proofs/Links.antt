-- What the headers of the object with the new sections name is there.
use Rattle.std.proofs.Common.{◌≡◌, ◌≢◌, inl, inr, ℕ, ◌+◌, ◌-◌, ◌/◌, ◌<◌, List, ◌++◌, length, get_or, refl, sym, ap, subst, ◌∙◌, arith}
use Rattle.std.specs.Prelude.{All, AllPairs}
use Rattle.std.proofs.lemmas.Bool.{cases_lt}
use Rattle.std.proofs.lemmas.List.FromFn.{get_or-map-range_with_len, length-map-range_with_len}
use Rattle.elf_objects.specs.Contents.{elf_of, section_entry}
use Rattle.elf_objects.specs.Elf.{Elf, SectionEntry}
use Rattle.elf_objects.specs.File.{name_table, section_count, section_header}
use Rattle.elf_objects.specs.declared.TheConstants.{SHT_NULL, SHT_STRTAB, SHT_SYMTAB, SHT_SYMTAB_SHNDX, SHT_RELA, SHT_GROUP}
use Rattle.elf_objects.specs.Object.{IsWellFormed}
use Rattle.elf_objects.specs.Sections.{HasLinks, HasName, IsBoundary, IsFirstRelaOf, LinksGroup, LinksIndices, LinksRelocs, LinksSymbols, link_of}
use Rattle.elf_objects.specs.Table.{body_of, name_header, symbol_count, symbol_header, symbol_table}
use Rattle.elf_objects.specs.declared.header.SectionHeader.{SectionHeader}
use Rattle.elf_write.specs.Added.{AreApart, IsAddable}
use Rattle.elf_write.specs.Layout.{NewEntry, header_for, new_names}
use Rattle.elf_write.proofs.Cases.{Case, added, case_of, first, first_kind, keeps, old, table, table_kind}
use Rattle.elf_write.proofs.Facts.{Output, no_entry}
use Rattle.elf_write.proofs.Forms.{no_table, relocs_of_new}
use Rattle.elf_write.proofs.Special.{first_of_kind-output, longer, special-output}
use Rattle.elf_write.proofs.Strings.{name-inside}

-- no new section is a symbol table
pub no_symtab : (a : Elf) (new : List NewEntry) → All (IsAddable a new) new → All (λ (e : NewEntry). e.kind ≢ SHT_SYMTAB) new
no_symtab a new ok k d h = (no_table a new (get_or new k d) (ok k d h)).symbols

pub no_shndx : (a : Elf) (new : List NewEntry) → All (IsAddable a new) new → All (λ (e : NewEntry). e.kind ≢ SHT_SYMTAB_SHNDX) new
no_shndx a new ok k d h = (no_table a new (get_or new k d) (ok k d h)).indices

pub symbol_table-output : (b : List ℕ) (new : List NewEntry) (q : List ℕ) (hp np : ℕ) (nm : List ℕ) (place name : ℕ → ℕ)
    → Output b new q hp np nm place name → All (IsAddable (elf_of b) new) new → symbol_table q ≡ symbol_table b
symbol_table-output b new q hp np nm place name o ok =
    first_of_kind-output b new q hp np nm place name SHT_SYMTAB o (no_symtab (elf_of b) new ok)

pub symbol_header-output : (b : List ℕ) (new : List NewEntry) (q : List ℕ) (hp np : ℕ) (nm : List ℕ) (place name : ℕ → ℕ)
    → Output b new q hp np nm place name → IsWellFormed b → All (IsAddable (elf_of b) new) new → symbol_header q ≡ symbol_header b
symbol_header-output b new q hp np nm place name o w ok =
    special-output b new q hp np nm place name SHT_SYMTAB o w (λ e. omega arith) (λ e. omega arith) (no_symtab (elf_of b) new ok)

pub symbol_count-output : (b : List ℕ) (new : List NewEntry) (q : List ℕ) (hp np : ℕ) (nm : List ℕ) (place name : ℕ → ℕ)
    → Output b new q hp np nm place name → IsWellFormed b → All (IsAddable (elf_of b) new) new → symbol_count q ≡ symbol_count b
unfolding symbol_count
symbol_count-output b new q hp np nm place name o w ok =
    ap (λ (h : SectionHeader). h.size / 24) (symbol_header-output b new q hp np nm place name o w ok)

-- how many sections the record has, and one of them
pub length-sections : (b : List ℕ) → length (elf_of b).sections ≡ section_count b
length-sections b = length-map-range_with_len (section_entry b) 0 (section_count b)

pub section-at : (b : List ℕ) (k : ℕ) (d : SectionEntry) → k < section_count b → get_or (elf_of b).sections k d ≡ section_entry b k
section-at b k d h = get_or-map-range_with_len (section_entry b) 0 (section_count b) k k d h (omega arith)

entry-kind : (b : List ℕ) (k : ℕ) → (section_entry b k).kind ≡ (section_header b k).kind
unfolding section_entry
entry-kind b k = refl

entry-info : (b : List ℕ) (k : ℕ) → (section_entry b k).info ≡ (section_header b k).info
unfolding section_entry
entry-info b k = refl

-- a type of which nothing is asked
no_links : (q : List ℕ) (j : ℕ) (kind : ℕ) → (section_header q j).kind ≡ kind
    → kind ≢ SHT_SYMTAB → kind ≢ SHT_SYMTAB_SHNDX → kind ≢ SHT_RELA → kind ≢ SHT_GROUP → HasLinks q j
no_links q j kind e a c d f = record {
  symbols = λ x. absurd (a (sym e ∙ x));
  indices = λ x. absurd (c (sym e ∙ x));
  relocs = λ x. absurd (d (sym e ∙ x));
  group = λ x. absurd (f (sym e ∙ x));
}

-- the new sections of relocations are the first for their targets
first_rela : (b : List ℕ) (new : List NewEntry) (q : List ℕ) (hp np : ℕ) (nm : List ℕ) (place name : ℕ → ℕ)
    → Output b new q hp np nm place name → AllPairs AreApart new → (k s : ℕ) → k < length new → (get_or new k no_entry).kind ≡ SHT_RELA
    → (get_or new k no_entry).info ≡ s
    → All (λ (x : SectionEntry). x.kind ≡ SHT_RELA → x.info ≢ s) (elf_of b).sections
    → (i : ℕ) → i < section_count b + k → (section_header q i).kind ≡ SHT_RELA → (section_header q i).info ≢ s
first_rela b new q hp np nm place name o apart k s h is target free i lt kind = elim (cases_lt i (section_count b)) [
  | inl lower ↦
      let kp = keeps b new q hp np nm place name o i lower in
      let at : get_or (elf_of b).sections i (section_entry b 0) ≡ section_entry b i = section-at b i (section_entry b 0) lower in
      let f = free i (section_entry b 0) (omega (arith, length-sections b)) in
      λ e. f (ap (λ (x : SectionEntry). x.kind) at ∙ entry-kind b i ∙ sym kp.kind ∙ kind) (ap (λ (x : SectionEntry). x.info) at ∙ entry-info b i ∙ sym kp.info ∙ e)
  | inr upper ↦
      let m : ℕ = i - section_count b in
      let split : i ≡ section_count b + m = omega arith in
      let hd : section_header q i ≡ header_for (name m) (place m) (get_or new m no_entry) = ap (section_header q) split ∙ o.added m no_entry (omega arith) in
      let f = apart m k no_entry (omega arith) h in
      λ e. f (sym (ap (λ (x : SectionHeader). x.kind) hd) ∙ kind) is (sym (ap (λ (x : SectionHeader). x.info) hd) ∙ e ∙ sym target)
]

links_of : (b : List ℕ) (new : List NewEntry) (q : List ℕ) (hp np : ℕ) (nm : List ℕ) (place name : ℕ → ℕ)
    → Output b new q hp np nm place name → IsWellFormed b → All (IsAddable (elf_of b) new) new → AllPairs AreApart new
    → (j : ℕ) → Case b new j → HasLinks q j
links_of b new q hp np nm place name o w ok apart j (first e) =
    let n = w.table.counts.names in
    no_links q j SHT_NULL (rw e ((keeps b new q hp np nm place name o 0 (omega arith)).kind ∙ first_kind b w))
    (λ x. omega arith) (λ x. omega arith) (λ x. omega arith) (λ x. omega arith)
links_of b new q hp np nm place name o w ok apart j (table e) =
    let n = w.table.counts.names in
    no_links q j SHT_STRTAB (rw e ((keeps b new q hp np nm place name o (name_table b) n).kind ∙ table_kind b w))
    (λ x. omega arith) (λ x. omega arith) (λ x. omega arith) (λ x. omega arith)
links_of b new q hp np nm place name o w ok apart j (old h x y) =
    let is : section_header q j ≡ section_header b j = o.old j h x y in
    let kind : (section_header q j).kind ≡ (section_header b j).kind = ap (λ (g : SectionHeader). g.kind) is in
    let links = w.links j h in
    let st = symbol_table-output b new q hp np nm place name o ok in
    let sc = symbol_count-output b new q hp np nm place name o w ok in
    let c = o.count in
    record {
      symbols = λ z. (let l = links.symbols (sym kind ∙ z) in
          let s = l.strings in
          subst (LinksSymbols q) (sym is) (record {
            strings = (omega (arith, s.0), (keeps b new q hp np nm place name o (section_header b j).link s.0).kind ∙ s.1);
            boundary = subst (λ (n : ℕ). IsBoundary n (section_header b j).info) (sym sc) l.boundary;
          }));
      indices = λ z. (let l = links.indices (sym kind ∙ z) in
          subst (LinksIndices q) (sym is) (record { table = st ∙ l.table; entries = l.entries ∙ sym sc }));
      relocs = λ z. (let l = links.relocs (sym kind ∙ z) in
          let only : IsFirstRelaOf q (section_header b j).info j = λ k lt kk e.
          (let kp = keeps b new q hp np nm place name o k (omega arith) in l.only k lt (sym kp.kind ∙ kk) (sym kp.info ∙ e)) in
          subst (LinksRelocs q j) (sym is) (record { table = ap link_of st ∙ l.table; target = l.target; exists = omega (arith, l.exists); only = only }));
      group = λ z. (let l = links.group (sym kind ∙ z) in
          subst (LinksGroup q) (sym is) (record { table = st ∙ l.table; signature = omega (arith, l.signature) }));
    }
links_of b new q hp np nm place name o w ok apart j (added k h e) =
    let one : NewEntry = get_or new k no_entry in
    let is : section_header q j ≡ header_for (name k) (place k) one = rw e (o.added k no_entry h) in
    let kind : (section_header q j).kind ≡ one.kind = ap (λ (g : SectionHeader). g.kind) is in
    let mine : IsAddable (elf_of b) new one = ok k no_entry h in
    let no = no_table (elf_of b) new one mine in
    let st = symbol_table-output b new q hp np nm place name o ok in
    let c = o.count in
    record {
      symbols = λ x. absurd (no.symbols (sym kind ∙ x));
      indices = λ x. absurd (no.indices (sym kind ∙ x));
      relocs = λ x. (let r = relocs_of_new (elf_of b) new one mine (sym kind ∙ x) in
          let only : IsFirstRelaOf q one.info j = λ i lt.
          first_rela b new q hp np nm place name o apart k one.info h (sym kind ∙ x) refl r.free i (omega arith) in
          let l = length-sections b in
          subst (LinksRelocs q j) (sym is) (record { table = ap link_of st ∙ sym r.link; target = r.info; exists = omega (arith, r.target); only = only }));
      group = λ x. absurd (no.group (sym kind ∙ x));
    }

pub links-output : (b : List ℕ) (new : List NewEntry) (q : List ℕ) (hp np : ℕ) (nm : List ℕ) (place name : ℕ → ℕ)
    → Output b new q hp np nm place name → IsWellFormed b → All (IsAddable (elf_of b) new) new → AllPairs AreApart new
    → (j : ℕ) → j < section_count q → HasLinks q j
links-output b new q hp np nm place name o w ok apart j h =
    let c = o.count in
    links_of b new q hp np nm place name o w ok apart j (case_of b new j (omega arith))

-- the name table's size
pub names_size : (b : List ℕ) (new : List NewEntry) (q : List ℕ) (hp np : ℕ) (nm : List ℕ) (place name : ℕ → ℕ)
    → Output b new q hp np nm place name → (name_header q).size ≡ length nm
names_size b new q hp np nm place name o = ap (λ (k : ℕ). (section_header q k).size) o.table ∙ ap (λ (g : SectionHeader). g.size) o.names

pub names-output : (b : List ℕ) (new : List NewEntry) (q : List ℕ) (hp np : ℕ) (nm : List ℕ) (place name : ℕ → ℕ)
    → Output b new q hp np nm place name → IsWellFormed b → 0 < length new → (j : ℕ) → j < section_count q → HasName q j
names-output b new q hp np nm place name o w some j h =
    let c = o.count in
    let s = names_size b new q hp np nm place name o in
    let nl = longer b new q hp np nm place name o w some in
    elim (cases_lt j (section_count b)) [
      | inl lower ↦
          let k = keeps b new q hp np nm place name o j lower in
          let had = w.names j lower in
          omega (arith, k.name, nl.size)
      | inr upper ↦
          let m : ℕ = j - section_count b in
          let split : j ≡ section_count b + m = omega arith in
          let hd : section_header q j ≡ header_for (name m) (place m) (get_or new m no_entry) = ap (section_header q) split ∙ o.added m no_entry (omega arith) in
          let nh : (section_header q j).name ≡ name m = ap (λ (x : SectionHeader). x.name) hd in
          let i = name-inside (body_of b (name_header b)) new m no_entry (omega arith) in
          let l : length nm ≡ length (body_of b (name_header b) ++ new_names new) = ap length o.names_is in
          omega (arith, o.name_is m)
    ]
