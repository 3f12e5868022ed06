-- What is known of the sections of an object, and of its tables.
use Rattle.std.proofs.Common.{◌≡◌, ◌≢◌, inl, inr, ℕ, ◌+◌, ◌*◌, ◌/◌, ◌<◌, ◌≤◌, List, length, drop, true, eqb, Option, Some, None, refl, ap, ◌∙◌, arith, length-drop}
use Rattle.std.proofs.lemmas.Bool.{cases_lt}
use Rattle.std.proofs.lemmas.Bool.Decides.{nat_tests}
use Rattle.std.proofs.lemmas.List.{length-take-le}
use Rattle.elf_objects.specs.Below.{least_below}
use Rattle.elf_objects.specs.Contents.{elf_of, entry_of_header, no_section, section_at}
use Rattle.elf_objects.specs.Elf.{SectionEntry}
use Rattle.elf_objects.specs.File.{section_count, section_header}
use Rattle.elf_objects.specs.Header.{has_body}
use Rattle.elf_objects.specs.declared.TheConstants.{SHT_NULL, SHT_NOBITS, SHT_SYMTAB, SHT_SYMTAB_SHNDX}
use Rattle.elf_objects.specs.Object.{IsWellFormed}
use Rattle.elf_objects.specs.Sections.{IsFirstOfKind}
use Rattle.elf_objects.specs.Table.{body_of, first_of_kind, header_of, index_table, is_kind, symbol_count, symbol_header, symbol_table}
use Rattle.elf_objects.specs.declared.header.SectionHeader.{SectionHeader}
use Rattle.elf_objects.proofs.LeastBelow.{least_below-cong, least_below-some}
use Rattle.elf_write.proofs.Links.{length-sections, section-at}
use Rattle.elf_write.proofs.Parts.{part}
use Rattle.elf_write.proofs.Says.{entry_is}
use Rattle.elf_write.proofs.Special.{body_range}
use Rattle.elf_write.specs.SymbolLayout.{index_table as table_of_numbers, locals, section_or_none, symbol_section}

pub length-part : (a w : ℕ) (xs : List ℕ) → a + w ≤ length xs → length (part a w xs) ≡ w
length-part a w xs h =
    let d = length-drop a xs in
    length-take-le w (drop a xs) (omega arith)

-- a section of the record is what its header says
pub section_is : (b : List ℕ) (i : ℕ) → i < section_count b → section_at (elf_of b) i ≡ entry_of_header b (section_header b i)
section_is b i h = section-at b i no_section h ∙ entry_is b i

-- a body in the file
pub record Lies (b : List ℕ) (h : SectionHeader) : Type 0 where
  pub inside : h.offset + h.size ≤ length b
  pub behind : 0 < h.size → 64 ≤ h.offset
  pub body : body_of b h ≡ part h.offset h.size b
  pub size : length (body_of b h) ≡ h.size

pub lies : (b : List ℕ) → IsWellFormed b → (i : ℕ) → i < section_count b
    → (section_header b i).kind ≢ SHT_NULL → (section_header b i).kind ≢ SHT_NOBITS → Lies b (section_header b i)
lies b w i h null nobits =
    let d = section_header b i in
    let p = (w.bodies i h).placed in
    let t : has_body d ≡ true = grind (arith, nat_tests) in
    let e : body_of b d ≡ part d.offset d.size b = body_range b d t in
    let inside = p.inside t in
    record {
      inside = inside;
      behind = p.behind t;
      body = e;
      size = ap length e ∙ length-part d.offset d.size b inside;
    }

-- the one section of a type
pub record IsOnly (b : List ℕ) (kind i : ℕ) : Type 0 where
  pub below : i < section_count b
  pub kind_is : (section_header b i).kind ≡ kind
  pub only : (j : ℕ) → j < section_count b → (section_header b j).kind ≡ kind → j ≡ i

pub only_one : (b : List ℕ) (kind i : ℕ) → ((j : ℕ) → j < section_count b → (section_header b j).kind ≡ kind → IsFirstOfKind b kind j)
    → first_of_kind b kind ≡ Some i → IsOnly b kind i
only_one b kind i unique e =
    let l = least_below-some (is_kind b kind) (section_count b) i e in
    let is : (section_header b i).kind ≡ kind = (let t = l.passes in grind (arith, nat_tests)) in
    record {
      below = l.below;
      kind_is = is;
      only = λ j h k. elim (cases_lt j i) [
        | inl lower ↦ (let t = l.lower j lower in absurd (grind (arith, nat_tests)))
        | inr upper ↦ elim (cases_lt i j) [
          | inl higher ↦ absurd (unique j h k i higher is)
          | inr same ↦ omega arith
        ]
      ];
    }

pub only_symbols : (b : List ℕ) → IsWellFormed b → (i : ℕ) → symbol_table b ≡ Some i → IsOnly b SHT_SYMTAB i
only_symbols b w i e = only_one b SHT_SYMTAB i (λ j h k. ((w.forms j h).form.symbols k).only) e

pub only_numbers : (b : List ℕ) → IsWellFormed b → (i : ℕ) → index_table b ≡ Some i → IsOnly b SHT_SYMTAB_SHNDX i
only_numbers b w i e = only_one b SHT_SYMTAB_SHNDX i (λ j h k. ((w.forms j h).form.indices k).only) e

-- the table of section numbers, in the record
pub same_numbers : (b : List ℕ) → table_of_numbers (elf_of b) ≡ index_table b
same_numbers b =
    ap (least_below (λ (i : ℕ). eqb (section_at (elf_of b) i).kind SHT_SYMTAB_SHNDX)) (length-sections b)
    ∙ least_below-cong (λ (i : ℕ). eqb (section_at (elf_of b) i).kind SHT_SYMTAB_SHNDX) (is_kind b SHT_SYMTAB_SHNDX) (section_count b)
    (λ k h. ap (λ (s : SectionEntry). eqb s.kind SHT_SYMTAB_SHNDX) (section_is b k h))

-- The symbol table, which is there where there are symbols.
pub record Symbols (b : List ℕ) (i : ℕ) : Type 0 where
  pub found : symbol_table b ≡ Some i
  pub one : IsOnly b SHT_SYMTAB i
  pub header : symbol_header b ≡ section_header b i
  pub size : (section_header b i).size ≡ 24 * symbol_count b
  pub low : 1 ≤ (section_header b i).info
  pub high : (section_header b i).info ≤ symbol_count b
  pub body : Lies b (section_header b i)
  pub behind : 64 ≤ (section_header b i).offset

header_some : (b : List ℕ) (i : ℕ) → header_of b (Some i) ≡ section_header b i
unfolding header_of
header_some b i = refl

count_is : (b : List ℕ) (h : SectionHeader) → symbol_header b ≡ h → symbol_count b ≡ h.size / 24
unfolding symbol_count
count_is b h e = ap (λ (g : SectionHeader). g.size / 24) e

pub symbols_at : (b : List ℕ) → IsWellFormed b → 1 ≤ symbol_count b → (i : ℕ) → symbol_table b ≡ Some i → Symbols b i
symbols_at b w some i e =
    let one = only_symbols b w i e in
    let below = one.below in
    let kind = one.kind_is in
    let header : symbol_header b ≡ section_header b i = ap (header_of b) e ∙ header_some b i in
    let count = count_is b (section_header b i) header in
    let whole = ((w.forms i below).form.symbols kind).entries.1 in
    let bound = ((w.links i below).symbols kind).boundary in
    let l = lies b w i below (λ z. omega arith) (λ z. omega arith) in
    let size : (section_header b i).size ≡ 24 * symbol_count b = omega arith in
    record {
      found = e;
      one = one;
      header = header;
      size = size;
      low = bound.above (λ z. omega arith);
      high = bound.within;
      body = l;
      behind = l.behind (omega arith);
    }

none_counts : (b : List ℕ) → symbol_table b ≡ None → symbol_count b ≡ 0
unfolding symbol_count header_of
none_counts b e = rw e refl

pub symbols_found : (b : List ℕ) → IsWellFormed b → 1 ≤ symbol_count b → (f : Option ℕ) → symbol_table b ≡ f → (i : ℕ) × Symbols b i
symbols_found b w some None e = (let z = none_counts b e in absurd (omega arith))
symbols_found b w some (Some i) e = (i, symbols_at b w some i e)

-- The table of section numbers.
pub record Numbers (b : List ℕ) (i : ℕ) : Type 0 where
  pub found : index_table b ≡ Some i
  pub one : IsOnly b SHT_SYMTAB_SHNDX i
  pub header : header_of b (index_table b) ≡ section_header b i
  pub size : (section_header b i).size ≡ 4 * symbol_count b
  pub body : Lies b (section_header b i)

pub numbers_at : (b : List ℕ) → IsWellFormed b → (i : ℕ) → index_table b ≡ Some i → Numbers b i
numbers_at b w i e =
    let one = only_numbers b w i e in
    let below = one.below in
    let kind = one.kind_is in
    let whole = ((w.forms i below).form.indices kind).entries.1 in
    let count = ((w.links i below).indices kind).entries in
    record {
      found = e;
      one = one;
      header = ap (header_of b) e ∙ header_some b i;
      size = omega arith;
      body = lies b w i below (λ z. omega arith) (λ z. omega arith);
    }

-- the symbol table, in the record
pub symbols_section : (b : List ℕ) (i : ℕ) → Symbols b i → symbol_section (elf_of b) ≡ entry_of_header b (section_header b i)
symbols_section b i s = ap (section_or_none (elf_of b)) s.found ∙ section_is b i s.one.below

pub locals_are : (b : List ℕ) (i : ℕ) → Symbols b i → locals (elf_of b) ≡ (section_header b i).info
locals_are b i s = ap (λ (x : SectionEntry). x.info) (symbols_section b i s)
