-- The object with the new symbols is well-formed.
use Rattle.std.proofs.Common.{◌≡◌, ◌≢◌, inl, inr, ℕ, zero, suc, ◌+◌, ◌-◌, ◌*◌, ◌/◌, ◌<◌, ◌≤◌, List, length, map, true, Some, refl, sym, ap, subst, ◌∙◌, arith}
use Rattle.std.specs.Prelude.{bit_and, slice_index, IsSome}
use Rattle.std.specs.List.{range_with_len, sum_by}
use Rattle.std.proofs.lemmas.Bool.{cases_eq, cases_lt}
use Rattle.std.proofs.lemmas.Bool.Decides.{nat_tests}
use Rattle.std.proofs.lemmas.List.FromFn.{length-map-range_with_len, sum_by-map-range_with_len_more}
use Rattle.elf_objects.specs.Contents.{elf_of, symbol_entry}
use Rattle.elf_objects.specs.File.{name_table, section_count, section_header}
use Rattle.elf_objects.specs.Header.{has_body, is_text_header}
use Rattle.elf_objects.specs.declared.TheConstants.{SHF_COMPRESSED, SHT_PROGBITS, SHT_STRTAB, SHT_SYMTAB, SHT_RELA, SHT_GROUP, SHT_SYMTAB_SHNDX, SHN_LORESERVE, SHN_XINDEX}
use Rattle.elf_objects.specs.declared.header.SectionHeader.{SectionHeader}
use Rattle.elf_objects.specs.declared.symbol.RawSymbol.{RawSymbol}
use Rattle.elf_objects.specs.Object.{IsWellFormed}
use Rattle.elf_objects.specs.Sections.{HasBody, HasForm, HasLinks, HasName, IsAlone, IsFirstOfKind, IsFirstRelaOf, IsInside, IsPlaced, IsRelocTable, IsStringTable, LinksRelocs, link_of, file_text_bytes, text_size}
use Rattle.elf_objects.specs.Symbols.{HasHome, HasRelocs, IsSymbol, absolute, common, extended as in_table, plain}
use Rattle.elf_objects.specs.Table.{index_entry, index_table, name_header, raw_symbol, reloc_of, string_header, symbol_count, symbol_header, symbol_table}
use Rattle.elf_write.proofs.Cases.{table_kind}
use Rattle.elf_write.proofs.Contents.{NamesSymbols}
use Rattle.elf_write.proofs.Numbers.{index-same}
use Rattle.elf_write.proofs.Output.{Outside}
use Rattle.elf_write.specs.SymbolLayout.{extended, numbers_place, renumbered, short_number, symbols_place}
use Rattle.elf_write.proofs.SymbolContents.{Which, first_same, flip, global, index_global, index_local, index_new, is_new, local, new, raw_global, raw_local, raw_new, symbols_count, symbols_header, which}
use Rattle.elf_write.proofs.Fields.{Case, case_of, group, numbers, other, symtab, with_group, with_numbers, with_other, with_symtab}
use Rattle.elf_write.proofs.Joined.{Base, start}
use Rattle.elf_write.proofs.Known.{Lies, lies}
use Rattle.elf_write.proofs.SymbolOutput.{count, has_table, header, keep, numbers_of_kind, renumbered_below, same_header, sizes, table}
use Rattle.elf_write.proofs.Regions.{apart_bodies, kept, plan}
use Rattle.elf_write.proofs.SymbolRelocations.{reloc_read}

-- Bodies.

placed_as : (n : ℕ) (h g : SectionHeader) → g ≡ h → IsPlaced n h → IsPlaced n g
placed_as n h g e p = subst (IsPlaced n) (sym e) p

placed : (b secs : List ℕ) (t : ℕ) → Base b secs t → (i : ℕ) → i < section_count b → Case (section_header b i)
    → IsPlaced (length (extended (elf_of b) secs)) (section_header (extended (elf_of b) secs) i)
placed b secs t x i h (symtab e) =
    let s = sizes b secs t x in
    let same : i ≡ t = x.symbols.one.only i h e in
    let size : (section_header b i).size ≡ 24 * symbol_count b = ap (λ (k : ℕ). (section_header b k).size) same ∙ x.symbols.size in
    placed_as (length (extended (elf_of b) secs)) (record (section_header b i) { offset = symbols_place (elf_of b); size = (section_header b i).size + 24 * length secs; info = (section_header b i).info + (plan b secs).count }) (section_header (extended (elf_of b) secs) i)
    (header b secs t x i h ∙ with_symtab (plan b secs) (section_header b i) e)
    (record { inside = λ _. omega (arith, s.end, s.places.symbols); behind = λ _ _. omega (arith, s.file, s.places.behind) })
placed b secs t x i h (numbers e) =
    let s = sizes b secs t x in
    let n = numbers_of_kind b x.well i h e in
    let size = n.size in
    let place = s.places.numbers i n in
    placed_as (length (extended (elf_of b) secs)) (record (section_header b i) { offset = numbers_place (elf_of b) secs; size = (section_header b i).size + 4 * length secs }) (section_header (extended (elf_of b) secs) i)
    (header b secs t x i h ∙ with_numbers (plan b secs) (section_header b i) e)
    (record { inside = λ _. omega (arith, s.end); behind = λ _ _. omega (arith, s.file, s.places.behind, s.places.further) })
placed b secs t x i h (group e) =
    let s = sizes b secs t x in
    let p = (x.well.bodies i h).placed in
    placed_as (length (extended (elf_of b) secs)) (record (section_header b i) { info = renumbered (plan b secs).locals (plan b secs).count (section_header b i).info }) (section_header (extended (elf_of b) secs) i)
    (header b secs t x i h ∙ with_group (plan b secs) (section_header b i) e)
    (record { inside = λ there. (let l = p.inside there in omega (arith, s.end, s.places.behind, s.places.symbols)); behind = p.behind })
placed b secs t x i h (other a c d) =
    let s = sizes b secs t x in
    let p = (x.well.bodies i h).placed in
    placed_as (length (extended (elf_of b) secs)) (section_header b i) (section_header (extended (elf_of b) secs) i)
    (header b secs t x i h ∙ with_other (plan b secs) (section_header b i) a c d)
    (record { inside = λ there. (let l = p.inside there in omega (arith, s.end, s.places.behind, s.places.symbols)); behind = p.behind })

-- a byte of the input that is in a body is in that body as it was
inside_was : (b secs : List ℕ) (t : ℕ) → Base b secs t → (k y : ℕ) → k < section_count b → Case (section_header b k) → y < length b
    → IsInside y (section_header (extended (elf_of b) secs) k) → IsInside y (section_header b k)
inside_was b secs t x k y h (symtab e) low inside =
    let s = sizes b secs t x in
    let is = header b secs t x k h ∙ with_symtab (plan b secs) (section_header b k) e in
    let there : IsInside y (record (section_header b k) { offset = symbols_place (elf_of b); size = (section_header b k).size + 24 * length secs; info = (section_header b k).info + (plan b secs).count }) = subst (IsInside y) is inside in
    absurd (omega (arith, there.1, s.places.behind))
inside_was b secs t x k y h (numbers e) low inside =
    let s = sizes b secs t x in
    let is = header b secs t x k h ∙ with_numbers (plan b secs) (section_header b k) e in
    let there : IsInside y (record (section_header b k) { offset = numbers_place (elf_of b) secs; size = (section_header b k).size + 4 * length secs }) = subst (IsInside y) is inside in
    absurd (omega (arith, there.1, s.places.behind, s.places.further))
inside_was b secs t x k y h (group e) low inside =
    subst (IsInside y) (header b secs t x k h ∙ with_group (plan b secs) (section_header b k) e) inside
inside_was b secs t x k y h (other a c d) low inside =
    subst (IsInside y) (header b secs t x k h ∙ with_other (plan b secs) (section_header b k) a c d) inside

rela_same : (b secs : List ℕ) (t : ℕ) → Base b secs t → (i : ℕ) → i < section_count b → (section_header b i).kind ≡ SHT_RELA
    → section_header (extended (elf_of b) secs) i ≡ section_header b i
rela_same b secs t x i h kind = same_header b secs t x i SHT_RELA h kind (λ z. omega arith) (λ z. omega arith) (λ z. omega arith)

alone : (b secs : List ℕ) (t : ℕ) → Base b secs t → (i : ℕ) → i < section_count b → (section_header b i).kind ≡ SHT_RELA → IsAlone (extended (elf_of b) secs) i
alone b secs t x i h kind =
    let l : Lies b (section_header b i) = lies b x.well i h (λ z. omega arith) (λ z. omega arith) in
    let c = count b secs t x in
    record {
      apart = λ k lt ne shares. (let y : ℕ = shares.0 in
          let mine : IsInside y (section_header b i) = subst (IsInside y) (rela_same b secs t x i h kind) shares.1 in
          let low : y < length b = omega (arith, mine.2, l.inside) in
          let inside : k < section_count b = omega arith in
          let theirs : IsInside y (section_header (extended (elf_of b) secs) k) = shares.2 in
          ((x.well.bodies i h).alone kind).apart k inside ne (y, mine, inside_was b secs t x k y inside (case_of (section_header b k)) low theirs));
    }

body : (b secs : List ℕ) (t : ℕ) → Base b secs t → (i : ℕ) → i < section_count b → HasBody (extended (elf_of b) secs) i
body b secs t x i h =
    let k = keep b secs t x i h in
    record {
      null = λ z. k.kind ∙ (x.well.bodies i h).null z;
      placed = placed b secs t x i h (case_of (section_header b i));
      alone = λ kind. alone b secs t x i h (sym k.kind ∙ kind);
    }

-- Forms.

text_same : (h g : SectionHeader) → g.kind ≡ h.kind → g.flags ≡ h.flags → is_text_header g ≡ is_text_header h
text_same h g e f = rw (e, f) refl

sub_outside : (a w i l off size : ℕ) → a ≤ off → off + size ≤ a + w → Outside a w i l → Outside off size i l
sub_outside a w i l off size low high (inl h) = inl (omega arith)
sub_outside a w i l off size low high (inr h) = inr (omega arith)

form : (b secs : List ℕ) (t : ℕ) → Base b secs t → (i : ℕ) → i < section_count b → HasForm (extended (elf_of b) secs) i
form b secs t x i h =
    let q : List ℕ = extended (elf_of b) secs in
    let k = keep b secs t x i h in
    let f = (x.well.forms i h).form in
    let flags : (bit_and (section_header q i).flags SHF_COMPRESSED) ≡ bit_and (section_header b i).flags SHF_COMPRESSED = ap (λ (n : ℕ). bit_and n SHF_COMPRESSED) k.flags in
    let only : (kind : ℕ) → IsFirstOfKind b kind i → IsFirstOfKind q kind i =
    λ kind first j lt same. first j lt (sym (keep b secs t x j (omega arith)).kind ∙ same) in
    record {
      form = record {
        symbols = λ z. (let e : (section_header b i).kind ≡ SHT_SYMTAB = sym k.kind ∙ z in
            let was = f.symbols e in
            let whole = was.entries.1 in
            let size : (section_header q i).size ≡ (section_header b i).size + 24 * length secs =
            ap (λ (g : SectionHeader). g.size) (header b secs t x i h ∙ with_symtab (plan b secs) (section_header b i) e) in
            record { entries = (k.entsize ∙ was.entries.0, omega arith); only = only SHT_SYMTAB was.only; plain = flags ∙ was.plain });
        indices = λ z. (let e : (section_header b i).kind ≡ SHT_SYMTAB_SHNDX = sym k.kind ∙ z in
            let was = f.indices e in
            let whole = was.entries.1 in
            let size : (section_header q i).size ≡ (section_header b i).size + 4 * length secs =
            ap (λ (g : SectionHeader). g.size) (header b secs t x i h ∙ with_numbers (plan b secs) (section_header b i) e) in
            record { entries = (k.entsize ∙ was.entries.0, omega arith); only = only SHT_SYMTAB_SHNDX was.only; plain = flags ∙ was.plain });
        relocs = λ z. (let e : (section_header b i).kind ≡ SHT_RELA = sym k.kind ∙ z in
            subst IsRelocTable (sym (rela_same b secs t x i h e)) (f.relocs e));
        strings = λ z. (let e : (section_header b i).kind ≡ SHT_STRTAB = sym k.kind ∙ z in
            let was = f.strings e in
            let same = same_header b secs t x i SHT_STRTAB h e (λ y. omega arith) (λ y. omega arith) (λ y. omega arith) in
            let l : Lies b (section_header b i) = lies b x.well i h (λ y. omega arith) (λ y. omega arith) in
            let there : has_body (section_header b i) ≡ true = grind (arith, nat_tests) in
            let d = section_header b i in
            let some : 0 < d.size = (let n = was.some in omega arith) in
            let low = l.behind some in
            let last : ℕ = d.offset + d.size - 1 in
            let ends : slice_index q last ≡ slice_index b last = index-same last last q b
            (kept b secs t (start b secs t x) last 1 (omega (arith, l.inside)) (inr (omega arith))
            (λ j lt kind js. sub_outside d.offset d.size (section_header b j).offset (section_header b j).size last 1 (omega arith) (omega arith)
            (flip d.offset d.size (section_header b j).offset (section_header b j).size
            (apart_bodies b x.well j i lt h kind there (λ r. (let u : (section_header b i).kind ≡ SHT_RELA = ap (λ (n : ℕ). (section_header b n).kind) r ∙ kind in omega arith)) js some)))) in
            subst (IsStringTable q) (sym same) (record { some = was.some; ends = ends ∙ was.ends; plain = was.plain }));
        no_rel = λ z. f.no_rel (sym k.kind ∙ z);
        text = λ z. flags ∙ f.text (sym (text_same (section_header b i) (section_header q i) k.kind k.flags) ∙ z);
      };
      names = λ e. k.kind ∙ (x.well.forms i h).names (e ∙ table b secs t x);
    }

-- Links.

symbols_same : (b secs : List ℕ) (t : ℕ) → Base b secs t → symbol_table (extended (elf_of b) secs) ≡ symbol_table b
symbols_same b secs t x = first_same b secs t SHT_SYMTAB x

links : (b secs : List ℕ) (t : ℕ) → Base b secs t → (i : ℕ) → i < section_count b → HasLinks (extended (elf_of b) secs) i
links b secs t x i h =
    let q : List ℕ = extended (elf_of b) secs in
    let k = keep b secs t x i h in
    let l = x.well.links i h in
    let c = count b secs t x in
    let n = symbols_count b secs t x in
    let st = symbols_same b secs t x in
    let some = x.some in
    record {
      symbols = λ z. (let e : (section_header b i).kind ≡ SHT_SYMTAB = sym k.kind ∙ z in
          let was = l.symbols e in
          let s = was.strings in
          let info : (section_header q i).info ≡ (section_header b i).info + length secs =
          ap (λ (g : SectionHeader). g.info) (header b secs t x i h ∙ with_symtab (plan b secs) (section_header b i) e) in
          let high = was.boundary.within in
          record {
            strings = (omega (arith, k.link, s.0), ap (λ (m : ℕ). (section_header q m).kind) k.link ∙ (keep b secs t x (section_header b i).link s.0).kind ∙ s.1);
            boundary = record { none = λ y. absurd (omega arith); above = λ y. omega arith; within = omega arith };
          });
      indices = λ z. (let e : (section_header b i).kind ≡ SHT_SYMTAB_SHNDX = sym k.kind ∙ z in
          let was = l.indices e in
          let size : (section_header q i).size ≡ (section_header b i).size + 4 * length secs =
          ap (λ (g : SectionHeader). g.size) (header b secs t x i h ∙ with_numbers (plan b secs) (section_header b i) e) in
          let entries = was.entries in
          record { table = st ∙ was.table ∙ ap (λ (m : ℕ). Some m) (sym k.link); entries = omega arith });
      relocs = λ z. (let e : (section_header b i).kind ≡ SHT_RELA = sym k.kind ∙ z in
          let was = l.relocs e in
          let only : IsFirstRelaOf q (section_header b i).info i = λ j lt kind info.
          (let kj = keep b secs t x j (omega arith) in
          let ej : (section_header b j).kind ≡ SHT_RELA = sym kj.kind ∙ kind in
          was.only j lt ej (sym (ap (λ (g : SectionHeader). g.info) (rela_same b secs t x j (omega arith) ej)) ∙ info)) in
          subst (LinksRelocs q i) (sym (rela_same b secs t x i h e)) (record { table = ap link_of st ∙ was.table; target = was.target; exists = omega (arith, was.exists); only = only }));
      group = λ z. (let e : (section_header b i).kind ≡ SHT_GROUP = sym k.kind ∙ z in
          let was = l.group e in
          let info : (section_header q i).info ≡ renumbered (plan b secs).locals (length secs) (section_header b i).info =
          ap (λ (g : SectionHeader). g.info) (header b secs t x i h ∙ with_group (plan b secs) (section_header b i) e) in
          let below = renumbered_below (plan b secs).locals (length secs) (section_header b i).info (symbol_count b) was.signature in
          record { table = st ∙ was.table ∙ ap (λ (m : ℕ). Some m) (sym k.link); signature = omega arith });
    }

-- Names.

names_size : (b secs : List ℕ) (t : ℕ) → Base b secs t → (name_header (extended (elf_of b) secs)).size ≡ (name_header b).size
names_size b secs t x =
    ap (λ (k : ℕ). (section_header (extended (elf_of b) secs) k).size) (table b secs t x)
    ∙ ap (λ (g : SectionHeader). g.size) (same_header b secs t x (name_table b) SHT_STRTAB x.well.table.counts.names (table_kind b x.well) (λ z. omega arith) (λ z. omega arith) (λ z. omega arith))

name : (b secs : List ℕ) (t : ℕ) → Base b secs t → (i : ℕ) → i < section_count b → HasName (extended (elf_of b) secs) i
name b secs t x i h =
    let k = keep b secs t x i h in
    let n = names_size b secs t x in
    let was = x.well.names i h in
    omega (arith, k.name)

-- Symbols.

pub names_of : (b secs : List ℕ) (t : ℕ) → Base b secs t → NamesSymbols b (section_header b t).link
names_of b secs t x =
    let s = ((x.well.links t x.symbols.one.below).symbols x.symbols.one.kind_is).strings in
    record { inside = s.0; kind = s.1 }

pub string_same : (b secs : List ℕ) (t : ℕ) → Base b secs t → string_header (extended (elf_of b) secs) ≡ section_header b (section_header b t).link
string_same b secs t x =
    let n = names_of b secs t x in
    ap (λ (g : SectionHeader). section_header (extended (elf_of b) secs) g.link) (symbols_header b secs t x)
    ∙ same_header b secs t x (section_header b t).link SHT_STRTAB n.inside n.kind (λ z. omega arith) (λ z. omega arith) (λ z. omega arith)

pub string_was : (b secs : List ℕ) (t : ℕ) → Base b secs t → string_header b ≡ section_header b (section_header b t).link
string_was b secs t x = ap (λ (g : SectionHeader). section_header b g.link) x.symbols.header

-- a symbol that was there is one
home_old : (b secs : List ℕ) (t j k : ℕ) → Base b secs t → raw_symbol (extended (elf_of b) secs) k ≡ raw_symbol b j
    → (IsSome (index_table b) → index_entry (extended (elf_of b) secs) k ≡ index_entry b j) → HasHome b j → HasHome (extended (elf_of b) secs) k
home_old b secs t j k x r i (absolute e) = absolute (ap (λ (s : RawSymbol). s.shndx) r ∙ e)
home_old b secs t j k x r i (common e) = common (ap (λ (s : RawSymbol). s.shndx) r ∙ e)
home_old b secs t j k x r i (plain e l) =
    let s : (raw_symbol (extended (elf_of b) secs) k).shndx ≡ (raw_symbol b j).shndx = ap (λ (y : RawSymbol). y.shndx) r in
    let c = count b secs t x in
    plain (omega arith) (omega arith)
home_old b secs t j k x r i (in_table e some l) =
    let s : (raw_symbol (extended (elf_of b) secs) k).shndx ≡ (raw_symbol b j).shndx = ap (λ (y : RawSymbol). y.shndx) r in
    let c = count b secs t x in
    let same = i some in
    in_table (s ∙ e) (subst IsSome (sym (first_same b secs t SHT_SYMTAB_SHNDX x)) some) (omega arith)

home_added : (b secs : List ℕ) (t : ℕ) → Base b secs t → (j : ℕ) → j < length secs → HasHome (extended (elf_of b) secs) ((section_header b t).info + j)
home_added b secs t x j h =
    let k : ℕ = (section_header b t).info + j in
    let s : ℕ = slice_index secs j in
    let n = is_new b secs t x j h in
    let c = count b secs t x in
    let r : (raw_symbol (extended (elf_of b) secs) k).shndx ≡ short_number s = ap (λ (y : RawSymbol). y.shndx) (raw_new b secs t x j h) in
    elim (cases_lt s SHN_LORESERVE) [
      | inl small ↦ (let e : short_number s ≡ s = grind (arith, nat_tests) in plain (omega (arith, n.high)) (omega (arith, n.high)))
      | inr large ↦
          let e : short_number s ≡ SHN_XINDEX = grind (arith, nat_tests) in
          let some = n.table large in
          let entry = index_new b secs t x j h large some in
          in_table (r ∙ e) (subst IsSome (sym (first_same b secs t SHT_SYMTAB_SHNDX x)) some) (omega (arith, n.high))
    ]

symbol : (b secs : List ℕ) (t : ℕ) → Base b secs t → (k : ℕ) → k < symbol_count b + length secs → Which (section_header b t).info (length secs) k
    → IsSymbol (extended (elf_of b) secs) k
symbol b secs t x k h (local low) =
    let high = x.symbols.high in
    let s = x.well.symbols k (omega arith) in
    let r = raw_local b secs t x k low in
    let sh = symbols_header b secs t x in
    let strings : (string_header (extended (elf_of b) secs)).size ≡ (string_header b).size =
    ap (λ (g : SectionHeader). g.size) (string_same b secs t x ∙ sym (string_was b secs t x)) in
    let n : (raw_symbol (extended (elf_of b) secs) k).name ≡ (raw_symbol b k).name = ap (λ (y : RawSymbol). y.name) r in
    let info : (symbol_header b).info ≡ (section_header b t).info = ap (λ (g : SectionHeader). g.info) x.symbols.header in
    let is_local = s.side.1 (omega arith) in
    record {
      name = omega (arith, s.name);
      home = home_old b secs t k k x r (λ some. index_local b secs t x k low some) s.home;
      side = rw (r, sh) ((λ _. omega arith), (λ _. is_local));
    }
symbol b secs t x k h (new j lt e) =
    let r = raw_new b secs t x j lt in
    let sh = symbols_header b secs t x in
    let ns = names_of b secs t x in
    let st = (x.well.forms (section_header b t).link ns.inside).form.strings ns.kind in
    let some = st.some in
    let strings : (string_header (extended (elf_of b) secs)).size ≡ (section_header b (section_header b t).link).size =
    ap (λ (g : SectionHeader). g.size) (string_same b secs t x) in
    let n : (raw_symbol (extended (elf_of b) secs) ((section_header b t).info + j)).name ≡ 0 = ap (λ (y : RawSymbol). y.name) r in
    rw e (record {
      name = omega arith;
      home = home_added b secs t x j lt;
      side = rw (r, sh) ((λ _. omega arith), (λ _. refl));
    })
symbol b secs t x k h (global j low e) =
    let s = x.well.symbols j (omega arith) in
    let r = raw_global b secs t x j low (omega arith) in
    let sh = symbols_header b secs t x in
    let strings : (string_header (extended (elf_of b) secs)).size ≡ (string_header b).size =
    ap (λ (g : SectionHeader). g.size) (string_same b secs t x ∙ sym (string_was b secs t x)) in
    let n : (raw_symbol (extended (elf_of b) secs) (j + length secs)).name ≡ (raw_symbol b j).name = ap (λ (y : RawSymbol). y.name) r in
    let info : (symbol_header b).info ≡ (section_header b t).info = ap (λ (g : SectionHeader). g.info) x.symbols.header in
    rw e (record {
      name = omega (arith, s.name);
      home = home_old b secs t j (j + length secs) x r (λ some. index_global b secs t x j low (omega arith) some) s.home;
      side = rw (r, sh) ((λ z. (let no = s.side.0 z in absurd (omega arith))), (λ z. absurd (omega arith)));
    })

-- Relocations and text.

relocs : (b secs : List ℕ) (t : ℕ) → Base b secs t → (i : ℕ) → i < section_count b → HasRelocs (extended (elf_of b) secs) i
relocs b secs t x i h kind k lt =
    let q : List ℕ = extended (elf_of b) secs in
    let e : (section_header b i).kind ≡ SHT_RELA = sym (keep b secs t x i h).kind ∙ kind in
    let is = rela_same b secs t x i h e in
    let inside : k < (section_header b i).size / 24 = subst (λ (g : SectionHeader). k < g.size / 24) is lt in
    let was = x.well.relocs i h e k inside in
    let r = reloc_read b secs t x i k h e inside in
    let below = renumbered_below (plan b secs).locals (length secs) (reloc_of b (section_header b i) k).sym (symbol_count b) was.symbol in
    let target = ((x.well.links i h).relocs e).exists in
    let kept = keep b secs t x (section_header b i).info target in
    let grows = kept.size in
    let n = symbols_count b secs t x in
    rw (is, r) (record {
      symbol = omega arith;
      field = λ plain read. (let f = was.field (subst (λ (flags : ℕ). bit_and flags SHF_COMPRESSED ≡ 0) kept.flags plain) read in omega arith);
    })

none_text_size : (g : SectionHeader) → g.kind ≢ SHT_PROGBITS → text_size g ≡ 0
none_text_size g none = grind (arith, nat_tests)

text_of : (b secs : List ℕ) (t : ℕ) → Base b secs t → (i : ℕ) → i < section_count b → text_size (section_header (extended (elf_of b) secs) i) ≡ text_size (section_header b i)
text_of b secs t x i h = elim (cases_eq (section_header b i).kind SHT_PROGBITS) [
  | inl text ↦ ap text_size (same_header b secs t x i SHT_PROGBITS h text (λ z. omega arith) (λ z. omega arith) (λ z. omega arith))
  | inr none ↦
      let k = keep b secs t x i h in
      none_text_size (section_header (extended (elf_of b) secs) i) (λ z. none (sym k.kind ∙ z)) ∙ sym (none_text_size (section_header b i) none)
]

sum_is : (b : List ℕ) → file_text_bytes b ≡ sum_by text_size (map (section_header b) (range_with_len 0 (section_count b)))
unfolding file_text_bytes
sum_is b = refl

sum_same : (p q : ℕ → SectionHeader) (g : SectionHeader → ℕ) (n : ℕ) → ((k : ℕ) → k < n → g (q k) ≡ g (p k))
    → sum_by g (map q (range_with_len 0 n)) ≡ sum_by g (map p (range_with_len 0 n))
sum_same p q g zero same = refl
sum_same p q g (suc n) same =
    let ih = sum_same p q g n (λ k h. same k (omega arith)) in
    let here = same n (omega arith) in
    let e : suc n ≡ n + 1 = omega arith in
    let a = sum_by-map-range_with_len_more g q 0 n n (omega arith) in
    let c = sum_by-map-range_with_len_more g p 0 n n (omega arith) in
    ap (λ (x : ℕ). sum_by g (map q (range_with_len 0 x))) e ∙ a
    ∙ ap (λ (x : ℕ). x + g (q n)) ih ∙ ap (λ (x : ℕ). sum_by g (map p (range_with_len 0 n)) + x) here
    ∙ sym c ∙ ap (λ (x : ℕ). sum_by g (map p (range_with_len 0 x))) (sym e)

text : (b secs : List ℕ) (t : ℕ) → Base b secs t → file_text_bytes (extended (elf_of b) secs) ≡ file_text_bytes b
text b secs t x =
    let q : List ℕ = extended (elf_of b) secs in
    sum_is q
    ∙ ap (λ (n : ℕ). sum_by text_size (map (section_header q) (range_with_len 0 n))) (count b secs t x)
    ∙ sum_same (section_header b) (section_header q) text_size (section_count b) (λ k h. text_of b secs t x k h)
    ∙ sym (sum_is b)

pub length-symbols : (b : List ℕ) → length (elf_of b).symbols ≡ symbol_count b
length-symbols b = length-map-range_with_len (symbol_entry b) 0 (symbol_count b)

pub well_formed : (b secs : List ℕ) (t : ℕ) → Base b secs t → IsWellFormed (extended (elf_of b) secs)
well_formed b secs t x =
    let c = count b secs t x in
    let n = symbols_count b secs t x in
    record {
      table = has_table b secs t x;
      bodies = λ i h. body b secs t x i (omega arith);
      forms = λ i h. form b secs t x i (omega arith);
      links = λ i h. links b secs t x i (omega arith);
      names = λ i h. name b secs t x i (omega arith);
      few_symbols = omega (arith, x.can.few, length-symbols b);
      symbols = λ k h. symbol b secs t x k (omega arith) (which (section_header b t).info (length secs) k);
      relocs = λ i h. relocs b secs t x i (omega arith);
      little_text = (let e = text b secs t x in let l = x.well.little_text in omega arith);
    }
