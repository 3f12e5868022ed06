-- The headers of the object with the new sections are as their types ask for.
use Rattle.std.proofs.Common.{◌≡◌, ◌≢◌, inl, inr, ℕ, ◌+◌, ◌-◌, ◌<◌, List, length, get_or, true, sym, ap, subst, ◌∙◌, arith}
use Rattle.std.specs.Prelude.{All, IsTrue, bit_and, slice_index}
use Rattle.std.proofs.lemmas.Bool.Decides.{nat_tests}
use Rattle.elf_objects.specs.Elf.{Elf}
use Rattle.elf_objects.specs.File.{name_table, section_count, section_header}
use Rattle.elf_objects.specs.Header.{has_body, is_text_header}
use Rattle.elf_objects.specs.declared.TheConstants.{SHT_NULL, SHT_PROGBITS, SHT_STRTAB, SHT_SYMTAB, SHT_SYMTAB_SHNDX, SHT_RELA, SHT_REL, SHT_GROUP, SHF_EXECINSTR}
use Rattle.elf_objects.specs.Object.{IsWellFormed}
use Rattle.elf_objects.specs.Sections.{HasEntries, HasForm, HasKindForm, IsFirstOfKind, IsPlain, IsRelocTable, IsStringTable}
use Rattle.elf_objects.specs.declared.header.SectionHeader.{SectionHeader}
use Rattle.elf_write.specs.Added.{IsAddable, IsRelocs}
use Rattle.elf_write.specs.Layout.{NewEntry, header_for}
use Rattle.elf_write.proofs.Cases.{Case, added, case_of, first, first_kind, keeps, old, table, table_kind}
use Rattle.elf_write.proofs.Facts.{Output, no_entry}
use Rattle.elf_write.proofs.Numbers.{index-same}
use Rattle.elf_write.proofs.Special.{index-in_part, longer}

-- a section that may be added is no table but one of relocations, and no text
pub record NoTable (e : NewEntry) : Type 0 where
  pub symbols : e.kind ≢ SHT_SYMTAB
  pub strings : e.kind ≢ SHT_STRTAB
  pub rels : e.kind ≢ SHT_REL
  pub group : e.kind ≢ SHT_GROUP
  pub indices : e.kind ≢ SHT_SYMTAB_SHNDX
  pub text : e.kind ≡ SHT_PROGBITS → bit_and e.flags SHF_EXECINSTR ≡ 0

pub no_table : (o : Elf) (new : List NewEntry) (e : NewEntry) → IsAddable o new e → NoTable e
no_table o new e ok = elim ok.form [
  | inl plain ↦ record {
    symbols = plain.no_symbols;
    strings = plain.no_strings;
    rels = plain.no_rels;
    group = plain.no_group;
    indices = plain.no_indices;
    text = plain.no_text;
  }
  | inr relocs ↦ (let k = relocs.kind in record {
    symbols = λ x. absurd (omega arith);
    strings = λ x. absurd (omega arith);
    rels = λ x. absurd (omega arith);
    group = λ x. absurd (omega arith);
    indices = λ x. absurd (omega arith);
    text = λ x. absurd (omega arith);
  })
]

-- a section of type RELA that may be added has relocations
pub relocs_of_new : (o : Elf) (new : List NewEntry) (e : NewEntry) → IsAddable o new e → e.kind ≡ SHT_RELA → IsRelocs o new e
relocs_of_new o new e ok k = elim ok.form [
  | inl plain ↦ absurd (plain.no_relas k)
  | inr relocs ↦ relocs
]

-- a header of a type of which nothing is asked
plain_form : (q : List ℕ) (j : ℕ) → (section_header q j).kind ≡ SHT_NULL → HasKindForm q j
plain_form q j e = record {
  symbols = λ x. absurd (omega arith);
  indices = λ x. absurd (omega arith);
  relocs = λ x. absurd (omega arith);
  strings = λ x. absurd (omega arith);
  no_rel = λ x. omega arith;
  text = λ x. absurd (grind (arith, nat_tests));
}

-- a string table that stayed where it is
strings_kept : (b : List ℕ) (new : List NewEntry) (q : List ℕ) (hp np : ℕ) (nm : List ℕ) (place name : ℕ → ℕ)
    → Output b new q hp np nm place name → IsWellFormed b → (j : ℕ) → j < section_count b → (section_header b j).kind ≡ SHT_STRTAB
    → IsStringTable q (section_header b j)
strings_kept b new q hp np nm place name o w j h kind =
    let d : SectionHeader = section_header b j in
    let f = (w.forms j h).form.strings kind in
    let t : has_body d ≡ true = grind (arith, nat_tests) in
    let p = (w.bodies j h).placed in
    let within = p.inside t in
    let some = f.some in
    let behind = p.behind t (omega arith) in
    record {
      some = f.some;
      ends = index-same (d.offset + d.size - 1) (d.offset + d.size - 1) q b (o.kept (d.offset + d.size - 1) 1 (omega arith) (omega arith)) ∙ f.ends;
      plain = f.plain;
    }

pub no_text : (g : SectionHeader) → (g.kind ≡ SHT_PROGBITS → bit_and g.flags SHF_EXECINSTR ≡ 0) → IsTrue (is_text_header g) → ⊥
no_text g none t = grind (arith, nat_tests)

form_of : (a : Elf) (b : List ℕ) (new : List NewEntry) (q : List ℕ) (hp np : ℕ) (nm : List ℕ) (place name : ℕ → ℕ)
    → Output b new q hp np nm place name → IsWellFormed b → 0 < length new → All (IsAddable a new) new → (j : ℕ) → Case b new j → HasKindForm q j
form_of a b new q hp np nm place name o w some ok j (first e) =
    let n = w.table.counts.names in
    plain_form q j (rw e ((keeps b new q hp np nm place name o 0 (omega arith)).kind ∙ first_kind b w))
form_of a b new q hp np nm place name o w some ok j (table e) =
    let inside = w.table.counts.names in
    let k = keeps b new q hp np nm place name o (name_table b) inside in
    let kind : (section_header q j).kind ≡ SHT_STRTAB = rw e (k.kind ∙ table_kind b w) in
    let is : section_header q j ≡ record (section_header b (name_table b)) { offset = np; size = length nm } = rw e o.names in
    let nl = longer b new q hp np nm place name o w some in
    let have = nl.some in
    let at : np + (length nm - 1) ≡ np + length nm - 1 = omega arith in
    let ends : slice_index q (np + length nm - 1) ≡ 0 =
    ap (slice_index q) (sym at) ∙ index-in_part np (length nm - 1) (length nm) q (omega arith)
    ∙ ap (λ (xs : List ℕ). get_or xs (length nm - 1) 0) o.names_part ∙ nl.last in
    let plain = ((w.forms (name_table b) inside).form.strings (table_kind b w)).plain in
    record {
      symbols = λ x. absurd (omega arith);
      indices = λ x. absurd (omega arith);
      relocs = λ x. absurd (omega arith);
      strings = λ x. subst (IsStringTable q) (sym is) (record { some = λ z. omega arith; ends = ends; plain = plain });
      no_rel = λ x. omega arith;
      text = λ x. absurd (grind (arith, nat_tests));
    }
form_of a b new q hp np nm place name o w some ok j (old h x y) =
    let is : section_header q j ≡ section_header b j = o.old j h x y in
    let form = (w.forms j h).form in
    let before : (kind : ℕ) → IsFirstOfKind b kind j → IsFirstOfKind q kind j =
    λ kind first k lt same. first k lt (sym (keeps b new q hp np nm place name o k (omega arith)).kind ∙ same) in
    let kind : (section_header q j).kind ≡ (section_header b j).kind = ap (λ (g : SectionHeader). g.kind) is in
    record {
      symbols = λ x. (let f = form.symbols (sym kind ∙ x) in
          record { entries = subst (λ (g : SectionHeader). HasEntries g 24) (sym is) f.entries; only = before SHT_SYMTAB f.only; plain = subst IsPlain (sym is) f.plain });
      indices = λ x. (let f = form.indices (sym kind ∙ x) in
          record { entries = subst (λ (g : SectionHeader). HasEntries g 4) (sym is) f.entries; only = before SHT_SYMTAB_SHNDX f.only; plain = subst IsPlain (sym is) f.plain });
      relocs = λ x. subst IsRelocTable (sym is) (form.relocs (sym kind ∙ x));
      strings = λ x. subst (IsStringTable q) (sym is) (strings_kept b new q hp np nm place name o w j h (sym kind ∙ x));
      no_rel = λ x. form.no_rel (sym kind ∙ x);
      text = λ x. subst IsPlain (sym is) (form.text (subst (λ (g : SectionHeader). IsTrue (is_text_header g)) is x));
    }
form_of a b new q hp np nm place name o w some ok j (added k h e) =
    let one : NewEntry = get_or new k no_entry in
    let is : section_header q j ≡ header_for (name k) (place k) one = rw e (o.added k no_entry h) in
    let kind : (section_header q j).kind ≡ one.kind = ap (λ (g : SectionHeader). g.kind) is in
    let mine : IsAddable a new one = ok k no_entry h in
    let no = no_table a new one mine in
    record {
      symbols = λ x. absurd (no.symbols (sym kind ∙ x));
      indices = λ x. absurd (no.indices (sym kind ∙ x));
      relocs = λ x. (let r = relocs_of_new a new one mine (sym kind ∙ x) in
          subst IsRelocTable (sym is) (record { entries = (r.entries, r.whole); plain = r.flags }));
      strings = λ x. absurd (no.strings (sym kind ∙ x));
      no_rel = λ x. no.rels (sym kind ∙ x);
      text = λ x. absurd (no_text (header_for (name k) (place k) one) no.text (subst (λ (g : SectionHeader). IsTrue (is_text_header g)) is x));
    }

pub forms-output : (a : Elf) (b : List ℕ) (new : List NewEntry) (q : List ℕ) (hp np : ℕ) (nm : List ℕ) (place name : ℕ → ℕ)
    → Output b new q hp np nm place name → IsWellFormed b → 0 < length new → All (IsAddable a new) new → (j : ℕ) → j < section_count q → HasForm q j
forms-output a b new q hp np nm place name o w some ok j h =
    let c = o.count in
    record {
      form = form_of a b new q hp np nm place name o w some ok j (case_of b new j (omega arith));
      names = λ e. (let n = w.table.counts.names in
          let k = keeps b new q hp np nm place name o (name_table b) n in
          rw (e ∙ o.table) (k.kind ∙ table_kind b w));
    }
