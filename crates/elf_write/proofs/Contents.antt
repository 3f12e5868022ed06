-- The symbols and relocations of the object with the new sections.
use Rattle.std.proofs.Common.{◌≡◌, ◌≢◌, inl, inr, ℕ, ◌+◌, ◌*◌, ◌/◌, ◌<◌, ◌≤◌, List, ◌++◌, length, true, false, Option, Some, None, eqb, refl, sym, ap, subst, ◌∙◌, arith}
use Rattle.std.specs.Prelude.{All, IsSome}
use Rattle.std.proofs.lemmas.Bool.{cases_eq, ne_eqb}
use Rattle.std.proofs.lemmas.Bool.Decides.{nat_tests}
use Rattle.elf_objects.specs.Contents.{elf_of}
use Rattle.elf_objects.specs.File.{name_table, section_count, section_header}
use Rattle.elf_objects.specs.Header.{has_body}
use Rattle.elf_objects.specs.Number.{word}
use Rattle.elf_objects.specs.declared.TheConstants.{SHT_NULL, SHT_NOBITS, SHT_STRTAB, SHT_SYMTAB, SHT_SYMTAB_SHNDX, SHN_ABS, SHN_COMMON, SHN_LORESERVE, SHN_XINDEX}
use Rattle.elf_objects.specs.Object.{IsWellFormed}
use Rattle.elf_objects.specs.Symbols.{HasHome, absolute, common, plain, extended, IsSymbol}
use Rattle.elf_objects.specs.Table.{body_of, first_of_kind, header_of, home_of, index_entry, index_header, index_table, is_kind, raw_symbol, raw_symbol_at, string_at, string_header, symbol_count, symbol_header, symbol_home, symbol_table}
use Rattle.elf_objects.specs.declared.header.SectionHeader.{SectionHeader}
use Rattle.elf_objects.specs.declared.symbol.RawSymbol.{RawSymbol}
use Rattle.elf_objects.proofs.LeastBelow.{least_below-some}
use Rattle.elf_write.specs.Added.{IsAddable}
use Rattle.elf_write.specs.Layout.{NewEntry, new_names}
use Rattle.elf_write.proofs.Cases.{first_kind}
use Rattle.elf_write.proofs.Facts.{Output}
use Rattle.elf_write.proofs.Links.{no_shndx, symbol_count-output, symbol_header-output}
use Rattle.elf_write.proofs.Numbers.{symbol-same, word-same}
use Rattle.elf_write.proofs.Special.{body_of-kept, first_of_kind-output, longer, names-output, special-output, strings-last, strings-length}
use Rattle.elf_write.proofs.Strings.{string_at-longer}

-- where the body of a special table lies
pub record Lies (b : List ℕ) (h : SectionHeader) : Type 0 where
  pub behind : 64 ≤ h.offset
  pub within : h.offset + h.size ≤ length b

pub lies_at : (b : List ℕ) → IsWellFormed b → (k kind : ℕ) → k < section_count b → (section_header b k).kind ≡ kind → kind ≢ SHT_NULL → kind ≢ SHT_NOBITS
    → 0 < (section_header b k).size → Lies b (section_header b k)
lies_at b w k kind h e null nobits some =
    let p = (w.bodies k h).placed in
    let t : has_body (section_header b k) ≡ true = grind (arith, nat_tests) in
    record { behind = p.behind t some; within = p.inside t }

lies_found : (b : List ℕ) → IsWellFormed b → (kind : ℕ) → kind ≢ SHT_NULL → kind ≢ SHT_NOBITS → (f : Option ℕ) → first_of_kind b kind ≡ f
    → 0 < (header_of b f).size → Lies b (header_of b f)
unfolding header_of
lies_found b w kind null nobits None e some = absurd (omega arith)
lies_found b w kind null nobits (Some i) e some =
    let l = least_below-some (is_kind b kind) (section_count b) i e in
    let is : (section_header b i).kind ≡ kind = (let t = l.passes in grind (arith, nat_tests)) in
    lies_at b w i kind l.below is null nobits some

-- a symbol's 24 bytes are as they were
count_lies : (b : List ℕ) (k : ℕ) → k < symbol_count b → 24 * k + 24 ≤ (symbol_header b).size
unfolding symbol_count
count_lies b k h = omega arith

raw_at : (b : List ℕ) (k : ℕ) → raw_symbol b k ≡ raw_symbol_at b ((symbol_header b).offset + 24 * k)
unfolding raw_symbol
raw_at b k = refl

pub raw_symbol-output : (b : List ℕ) (new : List NewEntry) (q : List ℕ) (hp np : ℕ) (nm : List ℕ) (place name : ℕ → ℕ)
    → Output b new q hp np nm place name → IsWellFormed b → All (IsAddable (elf_of b) new) new → (k : ℕ) → k < symbol_count b
    → raw_symbol q k ≡ raw_symbol b k
raw_symbol-output b new q hp np nm place name o w ok k h =
    let sh = symbol_header-output b new q hp np nm place name o w ok in
    let s = count_lies b k h in
    let l = lies_found b w SHT_SYMTAB (λ e. omega arith) (λ e. omega arith) (symbol_table b) refl (omega arith) in
    let at : ℕ = (symbol_header b).offset + 24 * k in
    raw_at q k
    ∙ ap (λ (g : SectionHeader). raw_symbol_at q (g.offset + 24 * k)) sh
    ∙ symbol-same at at q b (o.kept at 24 (omega (arith, l.behind)) (omega (arith, l.within)))
    ∙ sym (raw_at b k)

-- so is its entry in the table of section numbers, where there is one
entry_at : (b : List ℕ) (k : ℕ) → index_entry b k ≡ word b ((index_header b).offset + 4 * k)
unfolding index_entry
entry_at b k = refl

index_lies : (b : List ℕ) → IsWellFormed b → (f : Option ℕ) → index_table b ≡ f → IsSome f → (header_of b f).size / 4 ≡ symbol_count b
unfolding header_of
index_lies b w None e some = cc
index_lies b w (Some i) e some =
    let l = least_below-some (is_kind b SHT_SYMTAB_SHNDX) (section_count b) i e in
    let is : (section_header b i).kind ≡ SHT_SYMTAB_SHNDX = (let t = l.passes in grind (arith, nat_tests)) in
    ((w.links i l.below).indices is).entries

pub index_entry-output : (b : List ℕ) (new : List NewEntry) (q : List ℕ) (hp np : ℕ) (nm : List ℕ) (place name : ℕ → ℕ)
    → Output b new q hp np nm place name → IsWellFormed b → All (IsAddable (elf_of b) new) new → (k : ℕ) → k < symbol_count b → IsSome (index_table b)
    → index_entry q k ≡ index_entry b k
index_entry-output b new q hp np nm place name o w ok k h some =
    let ih : index_header q ≡ index_header b = special-output b new q hp np nm place name SHT_SYMTAB_SHNDX o w (λ e. omega arith) (λ e. omega arith) (no_shndx (elf_of b) new ok) in
    let s : (index_header b).size / 4 ≡ symbol_count b = index_lies b w (index_table b) refl some in
    let l = lies_found b w SHT_SYMTAB_SHNDX (λ e. omega arith) (λ e. omega arith) (index_table b) refl (omega arith) in
    let at : ℕ = (index_header b).offset + 4 * k in
    entry_at q k
    ∙ ap (λ (g : SectionHeader). word q (g.offset + 4 * k)) ih
    ∙ word-same at at q b (o.kept at 4 (omega (arith, l.behind)) (omega (arith, l.within)))
    ∙ sym (entry_at b k)

-- the section of the symbols' names
pub record NamesSymbols (b : List ℕ) (l : ℕ) : Type 0 where
  pub inside : l < section_count b
  pub kind : (section_header b l).kind ≡ SHT_STRTAB

strings_found : (b : List ℕ) → IsWellFormed b → (f : Option ℕ) → symbol_table b ≡ f → 0 < (header_of b f).size → NamesSymbols b (header_of b f).link
unfolding header_of
strings_found b w None e some = absurd (omega arith)
strings_found b w (Some i) e some =
    let l = least_below-some (is_kind b SHT_SYMTAB) (section_count b) i e in
    let is : (section_header b i).kind ≡ SHT_SYMTAB = (let t = l.passes in grind (arith, nat_tests)) in
    let s = ((w.links i l.below).symbols is).strings in
    record { inside = s.0; kind = s.1 }

pub symbol_names : (b : List ℕ) → IsWellFormed b → (k : ℕ) → k < symbol_count b → NamesSymbols b (symbol_header b).link
symbol_names b w k h =
    let s = count_lies b k h in
    strings_found b w (symbol_table b) refl (omega arith)

-- a section other than section 0 is as large as it was, or larger
pub grows : (b : List ℕ) (new : List NewEntry) (q : List ℕ) (hp np : ℕ) (nm : List ℕ) (place name : ℕ → ℕ)
    → Output b new q hp np nm place name → IsWellFormed b → 0 < length new → (l : ℕ) → l < section_count b → l ≢ 0
    → (section_header b l).size ≤ (section_header q l).size
grows b new q hp np nm place name o w some l h nonzero = elim (cases_eq l (name_table b)) [
  | inl names ↦
      let n = longer b new q hp np nm place name o w some in
      let s : (section_header q l).size ≡ length nm = ap (λ (k : ℕ). (section_header q k).size) names ∙ ap (λ (g : SectionHeader). g.size) o.names in
      let t : (section_header b l).size ≡ (section_header b (name_table b)).size = ap (λ (k : ℕ). (section_header b k).size) names in
      omega (arith, n.size)
  | inr other ↦
      let s = ap (λ (g : SectionHeader). g.size) (o.old l h nonzero other) in
      omega arith
]

-- a string of a string table is there as it was
pub string-output : (b : List ℕ) (new : List NewEntry) (q : List ℕ) (hp np : ℕ) (nm : List ℕ) (place name : ℕ → ℕ)
    → Output b new q hp np nm place name → IsWellFormed b → (l at : ℕ) → l < section_count b → (section_header b l).kind ≡ SHT_STRTAB
    → at < (section_header b l).size
    → string_at (body_of q (section_header q l)) at ≡ string_at (body_of b (section_header b l)) at
string-output b new q hp np nm place name o w l at h kind inside = elim (cases_eq l (name_table b)) [
  | inl names ↦
      let s = strings-length b w l h kind in
      let body : body_of q (section_header q l) ≡ body_of b (section_header b l) ++ new_names new =
      ap (λ (k : ℕ). body_of q (section_header q k)) (names ∙ sym o.table)
      ∙ names-output b new q hp np nm place name o w
      ∙ o.names_is
      ∙ ap (λ (k : ℕ). body_of b (section_header b k) ++ new_names new) (sym names) in
      ap (λ (xs : List ℕ). string_at xs at) body
      ∙ string_at-longer (body_of b (section_header b l)) (new_names new) at (omega arith) (strings-last b w l h kind)
  | inr other ↦
      let nonzero : l ≢ 0 = λ z. (let f : (section_header b l).kind ≡ SHT_NULL = ap (λ (k : ℕ). (section_header b k).kind) z ∙ first_kind b w in omega arith) in
      ap (λ (g : SectionHeader). string_at (body_of q g) at) (o.old l h nonzero other)
      ∙ ap (λ (xs : List ℕ). string_at xs at) (body_of-kept b new q hp np nm place name o w l h)
]

-- where a symbol is defined does not depend on an entry that is not there
home_plain : (shndx x y : ℕ) → shndx < SHN_LORESERVE → home_of shndx x ≡ home_of shndx y
home_plain shndx x y h =
    let a : eqb shndx SHN_ABS ≡ false = ne_eqb shndx SHN_ABS (λ e. omega arith) in
    let c : eqb shndx SHN_COMMON ≡ false = ne_eqb shndx SHN_COMMON (λ e. omega arith) in
    let d : eqb shndx SHN_XINDEX ≡ false = ne_eqb shndx SHN_XINDEX (λ e. omega arith) in
    rw (a, c, d) refl

home_at : (b : List ℕ) (k : ℕ) → symbol_home b k ≡ home_of (raw_symbol b k).shndx (index_entry b k)
unfolding symbol_home
home_at b k = refl

home_same : (b : List ℕ) (k s x y : ℕ) → (raw_symbol b k).shndx ≡ s → HasHome b k → (IsSome (index_table b) → x ≡ y) → home_of s x ≡ home_of s y
home_same b k s x y e (absolute h) same = rw (sym e ∙ h) refl
home_same b k s x y e (common h) same = rw (sym e ∙ h) refl
home_same b k s x y e (plain h i) same = home_plain s x y (omega arith)
home_same b k s x y e (extended h i j) same = ap (home_of s) (same i)

pub symbol_home-output : (b : List ℕ) (new : List NewEntry) (q : List ℕ) (hp np : ℕ) (nm : List ℕ) (place name : ℕ → ℕ)
    → Output b new q hp np nm place name → IsWellFormed b → All (IsAddable (elf_of b) new) new → (k : ℕ) → k < symbol_count b
    → symbol_home q k ≡ symbol_home b k
symbol_home-output b new q hp np nm place name o w ok k h =
    let r = raw_symbol-output b new q hp np nm place name o w ok k h in
    home_at q k
    ∙ ap (λ (s : RawSymbol). home_of s.shndx (index_entry q k)) r
    ∙ home_same b k (raw_symbol b k).shndx (index_entry q k) (index_entry b k) refl (w.symbols k h).home
    (λ some. index_entry-output b new q hp np nm place name o w ok k h some)
    ∙ sym (home_at b k)

-- each symbol is one
home_of_new : (b : List ℕ) (new : List NewEntry) (q : List ℕ) (hp np : ℕ) (nm : List ℕ) (place name : ℕ → ℕ)
    → Output b new q hp np nm place name → IsWellFormed b → All (IsAddable (elf_of b) new) new → (k : ℕ) → k < symbol_count b
    → HasHome b k → HasHome q k
home_of_new b new q hp np nm place name o w ok k h (absolute e) =
    absolute (ap (λ (s : RawSymbol). s.shndx) (raw_symbol-output b new q hp np nm place name o w ok k h) ∙ e)
home_of_new b new q hp np nm place name o w ok k h (common e) =
    common (ap (λ (s : RawSymbol). s.shndx) (raw_symbol-output b new q hp np nm place name o w ok k h) ∙ e)
home_of_new b new q hp np nm place name o w ok k h (plain e i) =
    let r = ap (λ (s : RawSymbol). s.shndx) (raw_symbol-output b new q hp np nm place name o w ok k h) in
    let c = o.count in
    plain (omega arith) (omega arith)
home_of_new b new q hp np nm place name o w ok k h (extended e s i) =
    let r = ap (λ (s : RawSymbol). s.shndx) (raw_symbol-output b new q hp np nm place name o w ok k h) in
    let c = o.count in
    let it : index_table q ≡ index_table b = first_of_kind-output b new q hp np nm place name SHT_SYMTAB_SHNDX o (no_shndx (elf_of b) new ok) in
    let ie = index_entry-output b new q hp np nm place name o w ok k h s in
    extended (r ∙ e) (subst IsSome (sym it) s) (omega arith)

pub symbols-output : (b : List ℕ) (new : List NewEntry) (q : List ℕ) (hp np : ℕ) (nm : List ℕ) (place name : ℕ → ℕ)
    → Output b new q hp np nm place name → IsWellFormed b → 0 < length new → All (IsAddable (elf_of b) new) new → (k : ℕ) → k < symbol_count q → IsSymbol q k
symbols-output b new q hp np nm place name o w some ok k h =
    let sc = symbol_count-output b new q hp np nm place name o w ok in
    let lt : k < symbol_count b = omega arith in
    let s = w.symbols k lt in
    let r = raw_symbol-output b new q hp np nm place name o w ok k lt in
    let sh = symbol_header-output b new q hp np nm place name o w ok in
    let ns = symbol_names b w k lt in
    let kind = ns.kind in
    let nonzero : (symbol_header b).link ≢ 0 = λ z. (let f : (section_header b (symbol_header b).link).kind ≡ SHT_NULL = ap (λ (n : ℕ). (section_header b n).kind) z ∙ first_kind b w in omega arith) in
    let g = grows b new q hp np nm place name o w some (symbol_header b).link ns.inside nonzero in
    let strings : (string_header q).size ≡ (section_header q (symbol_header b).link).size = ap (λ (x : SectionHeader). (section_header q x.link).size) sh in
    let n : (raw_symbol q k).name ≡ (raw_symbol b k).name = ap (λ (x : RawSymbol). x.name) r in
    record {
      name = omega (arith, s.name);
      home = home_of_new b new q hp np nm place name o w ok k lt s.home;
      side = rw (r, sh) s.side;
    }
