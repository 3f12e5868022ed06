-- What the object with the new symbols says.
use Rattle.std.proofs.Common.{◌≡◌, ◌≢◌, inl, inr, ℕ, ◌+◌, ◌-◌, ◌*◌, ◌/◌, ◌<◌, List, [], ◌++◌, length, take, drop, get_or, map, true, false, Option, Some, None, eqb, refl, sym, ap, ◌∙◌, arith, length-append, length-drop}
use Rattle.std.specs.Prelude.{slice_index, ◌==◌, ◌&&◌}
use Rattle.std.specs.List.{range_with_len}
use Rattle.std.proofs.lemmas.Bool.{cases_eq, ne_eqb}
use Rattle.std.proofs.lemmas.Bool.Decides.{nat_tests}
use Rattle.std.proofs.lemmas.List.{get_or-append_right, get_or-drop, get_or-map, get_or-take, get_or_append_left, length-map, length-take-le}
use Rattle.std.proofs.lemmas.List.FromFn.{fill_by_all, get_or-map-range_with_len, length-map-range_with_len}
use Rattle.elf_objects.specs.Below.{least_below}
use Rattle.elf_objects.specs.Contents.{elf_of, entry_of_header, entry_of_symbol, no_symbol, relocs_of, section_at, section_entry, symbol_entry}
use Rattle.elf_objects.specs.Elf.{Elf, SectionEntry, SymbolEntry}
use Rattle.elf_objects.specs.File.{headers_at, name_table, section_count, section_header}
use Rattle.elf_objects.specs.Header.{has_body}
use Rattle.elf_objects.specs.declared.TheConstants.{SHT_SYMTAB, SHT_RELA, SHT_GROUP, SHT_SYMTAB_SHNDX}
use Rattle.elf_objects.specs.declared.header.SectionHeader.{SectionHeader}
use Rattle.elf_objects.specs.declared.symbol.RawSymbol.{RawSymbol}
use Rattle.elf_objects.specs.declared.symbol.Reloc.{Reloc}
use Rattle.elf_objects.specs.Object.{IsObject}
use Rattle.elf_objects.specs.Table.{body_of, header_of, is_rela_of, name_header, raw_symbol, rela_of, reloc_of, string_at, string_header, symbol_count, symbol_home, symbol_table}
use Rattle.elf_objects.proofs.LeastBelow.{least_below-cong, least_below-some}
use Rattle.elf_write.proofs.Links.{length-sections, section-at}
use Rattle.elf_write.proofs.Parts.{part}
use Rattle.elf_write.proofs.Says.{entry_is}
use Rattle.elf_write.proofs.Special.{body_range}
use Rattle.elf_write.specs.SymbolLayout.{extended, headers_place, locals, longer_numbers, longer_symbols, numbers_place, plan_of, renumbered, symbol_section, symbols_place}
use Rattle.elf_write.specs.SymbolObject.{extended_object, renumbered_body, renumbered_reloc, section_with, symbol_for, symbols_with}
use Rattle.elf_write.proofs.SymbolContents.{Which, body_kept, first_same, global, home_global, home_local, home_new, local, names_kept, new, raw_for, raw_global, raw_local, raw_new, symbols_count, which}
use Rattle.elf_write.proofs.Fields.{Case, case_of, group, numbers, other, symtab, with_group, with_numbers, with_other, with_symtab}
use Rattle.elf_write.proofs.Joined.{Base, start}
use Rattle.elf_write.proofs.Known.{locals_are, section_is, symbols_section}
use Rattle.elf_write.proofs.SymbolOutput.{count, header, headers_read, keep, numbers_of_kind, same_header, table}
use Rattle.elf_write.proofs.Regions.{entry, numbers_read, plan, relocs_read, symbols_read}
use Rattle.elf_write.proofs.SymbolRelocations.{reloc_read}
use Rattle.elf_write.proofs.SymbolWellFormed.{length-symbols, names_of, string_same, string_was, well_formed}

-- Sections.

as_rela : (o : Elf) (secs : List ℕ) (s : SectionEntry) → s.kind ≡ SHT_RELA → section_with o secs s ≡ record s { body = renumbered_body (plan_of o secs) s.body }
as_rela o secs s e = rw e refl

as_symtab : (o : Elf) (secs : List ℕ) (s : SectionEntry) → s.kind ≡ SHT_SYMTAB
    → section_with o secs s ≡ record s { offset = symbols_place o; size = s.size + 24 * length secs; info = s.info + length secs; body = longer_symbols o secs }
as_symtab o secs s e = rw e refl

as_numbers : (o : Elf) (secs : List ℕ) (s : SectionEntry) → s.kind ≡ SHT_SYMTAB_SHNDX
    → section_with o secs s ≡ record s { offset = numbers_place o secs; size = s.size + 4 * length secs; body = longer_numbers o secs s.body }
as_numbers o secs s e = rw e refl

pub as_group : (o : Elf) (secs : List ℕ) (s : SectionEntry) → s.kind ≡ SHT_GROUP
    → section_with o secs s ≡ record s { info = renumbered (locals o) (length secs) s.info }
as_group o secs s e = rw e refl

as_other : (o : Elf) (secs : List ℕ) (s : SectionEntry) → s.kind ≢ SHT_RELA → s.kind ≢ SHT_SYMTAB → s.kind ≢ SHT_SYMTAB_SHNDX → s.kind ≢ SHT_GROUP
    → section_with o secs s ≡ s
as_other o secs s r a c d =
    let z : eqb s.kind SHT_RELA ≡ false = ne_eqb s.kind SHT_RELA r in
    let e : eqb s.kind SHT_SYMTAB ≡ false = ne_eqb s.kind SHT_SYMTAB a in
    let f : eqb s.kind SHT_SYMTAB_SHNDX ≡ false = ne_eqb s.kind SHT_SYMTAB_SHNDX c in
    let g : eqb s.kind SHT_GROUP ≡ false = ne_eqb s.kind SHT_GROUP d in
    rw (z, e, f, g) refl

title : (b secs : List ℕ) (t : ℕ) → Base b secs t → (n : ℕ) → string_at (body_of (extended (elf_of b) secs) (name_header (extended (elf_of b) secs))) n ≡ string_at (body_of b (name_header b)) n
title b secs t x n = ap (λ (xs : List ℕ). string_at xs n) (names_kept b secs t x)

same_body : (q : List ℕ) (h : SectionHeader) (n : ℕ) → body_of q (record h { info = n }) ≡ body_of q h
unfolding body_of
same_body q h n = refl

section_one : (b secs : List ℕ) (t : ℕ) → Base b secs t → (i : ℕ) → i < section_count b → Case (section_header b i)
    → entry_of_header (extended (elf_of b) secs) (section_header (extended (elf_of b) secs) i) ≡ section_with (elf_of b) secs (entry b i)
section_one b secs t x i h (symtab e) =
    let q : List ℕ = extended (elf_of b) secs in
    let d = section_header b i in
    let g : SectionHeader = record d { offset = symbols_place (elf_of b); size = d.size + 24 * length secs; info = d.info + length secs } in
    let name = title b secs t x d.name in
    let same : i ≡ t = x.symbols.one.only i h e in
    let size : d.size ≡ 24 * symbol_count b = ap (λ (k : ℕ). (section_header b k).size) same ∙ x.symbols.size in
    let whole : d.size + 24 * length secs ≡ 24 * (symbol_count b + length secs) = omega arith in
    let there : has_body g ≡ true = grind (arith, nat_tests) in
    let body : body_of q g ≡ longer_symbols (elf_of b) secs =
    body_range q g there ∙ ap (λ (n : ℕ). part (symbols_place (elf_of b)) n q) whole ∙ symbols_read b secs t (start b secs t x) in
    ap (entry_of_header q) (header b secs t x i h ∙ with_symtab (plan b secs) d e)
    ∙ rw (name, body) refl
    ∙ sym (as_symtab (elf_of b) secs (entry b i) e)
section_one b secs t x i h (numbers e) =
    let q : List ℕ = extended (elf_of b) secs in
    let d = section_header b i in
    let g : SectionHeader = record d { offset = numbers_place (elf_of b) secs; size = d.size + 4 * length secs } in
    let name = title b secs t x d.name in
    let n = numbers_of_kind b x.well i h e in
    let size = n.size in
    let whole : d.size + 4 * length secs ≡ 4 * (symbol_count b + length secs) = omega arith in
    let there : has_body g ≡ true = grind (arith, nat_tests) in
    let body : body_of q g ≡ longer_numbers (elf_of b) secs (body_of b d) =
    body_range q g there ∙ ap (λ (k : ℕ). part (numbers_place (elf_of b) secs) k q) whole ∙ numbers_read b secs t i (start b secs t x) n
    ∙ ap (λ (s : SectionEntry). longer_numbers (elf_of b) secs s.body) (section_is b i h) in
    ap (entry_of_header q) (header b secs t x i h ∙ with_numbers (plan b secs) d e)
    ∙ rw (name, body) refl
    ∙ sym (as_numbers (elf_of b) secs (entry b i) e)
section_one b secs t x i h (group e) =
    let q : List ℕ = extended (elf_of b) secs in
    let d = section_header b i in
    let name = title b secs t x d.name in
    let body' : body_of q (record d { info = renumbered (locals (elf_of b)) (length secs) d.info }) ≡ body_of b d = same_body q d (renumbered (locals (elf_of b)) (length secs) d.info) ∙ body_kept b secs t x i h (λ z. omega arith) in
    ap (entry_of_header q) (header b secs t x i h ∙ with_group (plan b secs) d e)
    ∙ rw (name, body') refl
    ∙ sym (as_group (elf_of b) secs (entry b i) e)
section_one b secs t x i h (other a c d) = elim (cases_eq (section_header b i).kind SHT_RELA) [
  | inl rela ↦
      let q : List ℕ = extended (elf_of b) secs in
      let g = section_header b i in
      let name = title b secs t x g.name in
      let there : has_body g ≡ true = grind (arith, nat_tests) in
      let body : body_of q g ≡ renumbered_body (plan b secs) (body_of b g) = body_range q g there ∙ relocs_read b secs t (start b secs t x) i h rela in
      ap (entry_of_header q) (header b secs t x i h ∙ with_other (plan b secs) g a c d)
      ∙ rw (name, body) refl
      ∙ sym (as_rela (elf_of b) secs (entry b i) rela)
  | inr none ↦
      let q : List ℕ = extended (elf_of b) secs in
      let g = section_header b i in
      let name = title b secs t x g.name in
      let body = body_kept b secs t x i h none in
      ap (entry_of_header q) (header b secs t x i h ∙ with_other (plan b secs) g a c d)
      ∙ rw (name, body) refl
      ∙ sym (as_other (elf_of b) secs (entry b i) none a c d)
]

sections : (b secs : List ℕ) (t : ℕ) → Base b secs t
    → map (section_entry (extended (elf_of b) secs)) (range_with_len 0 (section_count (extended (elf_of b) secs))) ≡ map (section_with (elf_of b) secs) (elf_of b).sections
sections b secs t x =
    let q : List ℕ = extended (elf_of b) secs in
    let d : SectionEntry = section_entry b 0 in
    let l = length-sections b in
    let all : List SectionEntry = map (section_with (elf_of b) secs) (elf_of b).sections in
    ap (λ (n : ℕ). map (section_entry q) (range_with_len 0 n)) (count b secs t x)
    ∙ sym (fill_by_all (section_entry q) all (section_count b) d (length-map (elf_of b).sections (section_with (elf_of b) secs) ∙ l)
    (λ k h. get_or-map (section_with (elf_of b) secs) (elf_of b).sections k d d (omega arith)
    ∙ ap (section_with (elf_of b) secs) (section-at b k d h ∙ entry_is b k)
    ∙ sym (section_one b secs t x k h (case_of (section_header b k)))
    ∙ sym (entry_is q k)))

-- Symbols.

symbol_is : (b : List ℕ) (k : ℕ) → symbol_entry b k ≡ entry_of_symbol b (raw_symbol b k) (symbol_home b k)
unfolding symbol_entry
symbol_is b k = refl

text : (b secs : List ℕ) (t : ℕ) → Base b secs t → body_of (extended (elf_of b) secs) (string_header (extended (elf_of b) secs)) ≡ body_of b (section_header b (section_header b t).link)
text b secs t x =
    let n = names_of b secs t x in
    ap (body_of (extended (elf_of b) secs)) (string_same b secs t x)
    ∙ body_kept b secs t x (section_header b t).link n.inside (λ z. (let k = n.kind in omega arith))

text_was : (b secs : List ℕ) (t : ℕ) → Base b secs t → body_of (extended (elf_of b) secs) (string_header (extended (elf_of b) secs)) ≡ body_of b (string_header b)
text_was b secs t x = text b secs t x ∙ ap (body_of b) (sym (string_was b secs t x))

symbol_old : (b secs : List ℕ) (t j k : ℕ) → Base b secs t → raw_symbol (extended (elf_of b) secs) k ≡ raw_symbol b j
    → symbol_home (extended (elf_of b) secs) k ≡ symbol_home b j → symbol_entry (extended (elf_of b) secs) k ≡ symbol_entry b j
symbol_old b secs t j k x r home =
    let q : List ℕ = extended (elf_of b) secs in
    let name : string_at (body_of q (string_header q)) (raw_symbol b j).name ≡ string_at (body_of b (string_header b)) (raw_symbol b j).name =
    ap (λ (xs : List ℕ). string_at xs (raw_symbol b j).name) (text_was b secs t x) in
    symbol_is q k
    ∙ ap (λ (s : RawSymbol). entry_of_symbol q s (symbol_home q k)) r
    ∙ ap (entry_of_symbol q (raw_symbol b j)) home
    ∙ rw name refl
    ∙ sym (symbol_is b j)

symbol_added : (b secs : List ℕ) (t j : ℕ) → Base b secs t → j < length secs
    → symbol_entry (extended (elf_of b) secs) ((section_header b t).info + j) ≡ symbol_for (elf_of b) (slice_index secs j)
symbol_added b secs t j x h =
    let q : List ℕ = extended (elf_of b) secs in
    let k : ℕ = (section_header b t).info + j in
    let n = names_of b secs t x in
    let link : (symbol_section (elf_of b)).link ≡ (section_header b t).link = ap (λ (s : SectionEntry). s.link) (symbols_section b t x.symbols) in
    let strings : (section_at (elf_of b) (symbol_section (elf_of b)).link).body ≡ body_of b (section_header b (section_header b t).link) =
    ap (λ (i : ℕ). (section_at (elf_of b) i).body) link ∙ ap (λ (s : SectionEntry). s.body) (section_is b (section_header b t).link n.inside) in
    let name : string_at (body_of q (string_header q)) 0 ≡ string_at (section_at (elf_of b) (symbol_section (elf_of b)).link).body 0 =
    ap (λ (xs : List ℕ). string_at xs 0) (text b secs t x ∙ sym strings) in
    symbol_is q k
    ∙ ap (λ (s : RawSymbol). entry_of_symbol q s (symbol_home q k)) (raw_new b secs t x j h)
    ∙ ap (entry_of_symbol q (raw_for (slice_index secs j))) (home_new b secs t x j h)
    ∙ rw name refl

symbol_at : (b : List ℕ) (k : ℕ) (d : SymbolEntry) → k < symbol_count b → get_or (elf_of b).symbols k d ≡ symbol_entry b k
symbol_at b k d h = get_or-map-range_with_len (symbol_entry b) 0 (symbol_count b) k k d h (omega arith)

one : (b secs : List ℕ) (t k : ℕ) → Base b secs t → k < symbol_count b + length secs → Which (section_header b t).info (length secs) k
    → get_or (symbols_with (elf_of b) secs) k no_symbol ≡ symbol_entry (extended (elf_of b) secs) k
one b secs t k x h (local low) =
    let o = elf_of b in
    let first : locals o ≡ (section_header b t).info = locals_are b t x.symbols in
    let high = x.symbols.high in
    let n = length-symbols b in
    let front : List SymbolEntry = take (locals o) o.symbols in
    let mid : List SymbolEntry = map (symbol_for o) secs in
    let lf : length front ≡ locals o = length-take-le (locals o) o.symbols (omega arith) in
    let lb = length-append front mid in
    get_or_append_left (front ++ mid) (drop (locals o) o.symbols) no_symbol k (omega arith)
    ∙ get_or_append_left front mid no_symbol k (omega arith)
    ∙ get_or-take (locals o) o.symbols k no_symbol (omega arith)
    ∙ symbol_at b k no_symbol (omega arith)
    ∙ sym (symbol_old b secs t k k x (raw_local b secs t x k low) (home_local b secs t x k low))
one b secs t k x h (new j lt e) =
    let o = elf_of b in
    let first : locals o ≡ (section_header b t).info = locals_are b t x.symbols in
    let high = x.symbols.high in
    let n = length-symbols b in
    let front : List SymbolEntry = take (locals o) o.symbols in
    let mid : List SymbolEntry = map (symbol_for o) secs in
    let lf : length front ≡ locals o = length-take-le (locals o) o.symbols (omega arith) in
    let lm : length mid ≡ length secs = length-map secs (symbol_for o) in
    let lb = length-append front mid in
    let z : k - locals o ≡ j = omega arith in
    get_or_append_left (front ++ mid) (drop (locals o) o.symbols) no_symbol k (omega arith)
    ∙ get_or-append_right front mid (locals o) k no_symbol lf (omega arith)
    ∙ ap (λ (i : ℕ). get_or mid i no_symbol) z
    ∙ get_or-map (symbol_for o) secs j 0 no_symbol lt
    ∙ sym (ap (symbol_entry (extended (elf_of b) secs)) e ∙ symbol_added b secs t j x lt)
one b secs t k x h (global j low e) =
    let o = elf_of b in
    let m : ℕ = length secs in
    let first : locals o ≡ (section_header b t).info = locals_are b t x.symbols in
    let high = x.symbols.high in
    let n = length-symbols b in
    let front : List SymbolEntry = take (locals o) o.symbols in
    let mid : List SymbolEntry = map (symbol_for o) secs in
    let lf : length front ≡ locals o = length-take-le (locals o) o.symbols (omega arith) in
    let lm : length mid ≡ m = length-map secs (symbol_for o) in
    let lb : length (front ++ mid) ≡ locals o + m = length-append front mid ∙ omega arith in
    let z : locals o + (k - (locals o + m)) ≡ j = omega arith in
    get_or-append_right (front ++ mid) (drop (locals o) o.symbols) (locals o + m) k no_symbol lb (omega arith)
    ∙ get_or-drop (locals o) o.symbols (k - (locals o + m)) no_symbol
    ∙ ap (λ (i : ℕ). get_or o.symbols i no_symbol) z
    ∙ symbol_at b j no_symbol (omega arith)
    ∙ sym (ap (symbol_entry (extended (elf_of b) secs)) e
    ∙ symbol_old b secs t j (j + m) x (raw_global b secs t x j low (omega arith)) (home_global b secs t x j low (omega arith)))

symbols : (b secs : List ℕ) (t : ℕ) → Base b secs t
    → map (symbol_entry (extended (elf_of b) secs)) (range_with_len 0 (symbol_count (extended (elf_of b) secs))) ≡ symbols_with (elf_of b) secs
symbols b secs t x =
    let q : List ℕ = extended (elf_of b) secs in
    let o = elf_of b in
    let d : SymbolEntry = no_symbol in
    let m : ℕ = length secs in
    let f : ℕ = locals o in
    let first : f ≡ (section_header b t).info = locals_are b t x.symbols in
    let high = x.symbols.high in
    let n = length-symbols b in
    let front : List SymbolEntry = take f o.symbols in
    let mid : List SymbolEntry = map (symbol_for o) secs in
    let rest : List SymbolEntry = drop f o.symbols in
    let lf : length front ≡ f = length-take-le f o.symbols (omega arith) in
    let lm : length mid ≡ m = length-map secs (symbol_for o) in
    let lb : length (front ++ mid) ≡ f + m = length-append front mid ∙ omega arith in
    let lr = length-drop f o.symbols in
    let all : length (symbols_with o secs) ≡ symbol_count b + m = length-append (front ++ mid) rest ∙ omega arith in
    ap (λ (k : ℕ). map (symbol_entry q) (range_with_len 0 k)) (symbols_count b secs t x)
    ∙ sym (fill_by_all (symbol_entry q) (symbols_with o secs) (symbol_count b + m) d all
    (λ k h. one b secs t k x h (which (section_header b t).info m k)))

-- Relocations.

relocs_is : (b : List ℕ) (s : ℕ) (f : Option ℕ) → rela_of b s ≡ f
    → relocs_of b s ≡ map (reloc_of b (header_of b f)) (range_with_len 0 ((header_of b f).size / 24))
unfolding relocs_of
relocs_is b s f e = rw e refl

rela_is : (b : List ℕ) (s : ℕ) → rela_of b s ≡ least_below (is_rela_of b s) (section_count b)
unfolding rela_of
rela_is b s = refl

no_rela : (b : List ℕ) (s j : ℕ) → (section_header b j).kind ≢ SHT_RELA → is_rela_of b s j ≡ false
no_rela b s j none = grind (arith, nat_tests)

is_rela_same : (b secs : List ℕ) (t : ℕ) → Base b secs t → (s k : ℕ) → k < section_count b → is_rela_of (extended (elf_of b) secs) s k ≡ is_rela_of b s k
is_rela_same b secs t x s k h = elim (cases_eq (section_header b k).kind SHT_RELA) [
  | inl rela ↦ ap (λ (g : SectionHeader). (g.kind == SHT_RELA) && (g.info == s)) (same_header b secs t x k SHT_RELA h rela (λ z. omega arith) (λ z. omega arith) (λ z. omega arith))
  | inr none ↦ no_rela (extended (elf_of b) secs) s k (λ z. none (sym (keep b secs t x k h).kind ∙ z)) ∙ sym (no_rela b s k none)
]

relocs_found : (b secs : List ℕ) (t : ℕ) → Base b secs t → (s : ℕ) (f : Option ℕ) → rela_of b s ≡ f
    → map (reloc_of (extended (elf_of b) secs) (header_of (extended (elf_of b) secs) f)) (range_with_len 0 ((header_of (extended (elf_of b) secs) f).size / 24))
    ≡ map (renumbered_reloc (elf_of b) secs) (map (reloc_of b (header_of b f)) (range_with_len 0 ((header_of b f).size / 24)))
unfolding header_of
relocs_found b secs t x s None e = refl
relocs_found b secs t x s (Some i) e =
    let q : List ℕ = extended (elf_of b) secs in
    let l = least_below-some (is_rela_of b s) (section_count b) i (sym (rela_is b s) ∙ e) in
    let kind : (section_header b i).kind ≡ SHT_RELA = (let p = l.passes in grind (arith, nat_tests)) in
    let is = same_header b secs t x i SHT_RELA l.below kind (λ z. omega arith) (λ z. omega arith) (λ z. omega arith) in
    let g = section_header b i in
    let n : ℕ = g.size / 24 in
    let d : Reloc = reloc_of b g 0 in
    let olds : List Reloc = map (reloc_of b g) (range_with_len 0 n) in
    let lo : length olds ≡ n = length-map-range_with_len (reloc_of b g) 0 n in
    ap (λ (h : SectionHeader). map (reloc_of q h) (range_with_len 0 (h.size / 24))) is
    ∙ sym (fill_by_all (reloc_of q g) (map (renumbered_reloc (elf_of b) secs) olds) n d (length-map olds (renumbered_reloc (elf_of b) secs) ∙ lo)
    (λ k h. get_or-map (renumbered_reloc (elf_of b) secs) olds k d d (omega arith)
    ∙ ap (renumbered_reloc (elf_of b) secs) (get_or-map-range_with_len (reloc_of b g) 0 n k k d h (omega arith))
    ∙ sym (reloc_read b secs t x i k l.below kind h)))

relocs_one : (b secs : List ℕ) (t : ℕ) → Base b secs t → (s : ℕ) → relocs_of (extended (elf_of b) secs) s ≡ map (renumbered_reloc (elf_of b) secs) (relocs_of b s)
relocs_one b secs t x s =
    let q : List ℕ = extended (elf_of b) secs in
    let same : rela_of q s ≡ rela_of b s =
    rela_is q s ∙ ap (least_below (is_rela_of q s)) (count b secs t x)
    ∙ least_below-cong (is_rela_of q s) (is_rela_of b s) (section_count b) (λ k h. is_rela_same b secs t x s k h)
    ∙ sym (rela_is b s) in
    relocs_is q s (rela_of b s) same
    ∙ relocs_found b secs t x s (rela_of b s) refl
    ∙ ap (map (renumbered_reloc (elf_of b) secs)) (sym (relocs_is b s (rela_of b s) refl))

relocs : (b secs : List ℕ) (t : ℕ) → Base b secs t
    → map (relocs_of (extended (elf_of b) secs)) (range_with_len 0 (section_count (extended (elf_of b) secs))) ≡ map (map (renumbered_reloc (elf_of b) secs)) (elf_of b).relocs
relocs b secs t x =
    let q : List ℕ = extended (elf_of b) secs in
    let n : ℕ = section_count b in
    let olds : List (List Reloc) = map (relocs_of b) (range_with_len 0 n) in
    let lo : length olds ≡ n = length-map-range_with_len (relocs_of b) 0 n in
    ap (λ (k : ℕ). map (relocs_of q) (range_with_len 0 k)) (count b secs t x)
    ∙ sym (fill_by_all (relocs_of q) (map (map (renumbered_reloc (elf_of b) secs)) olds) n [] (length-map olds (map (renumbered_reloc (elf_of b) secs)) ∙ lo)
    (λ k h. get_or-map (map (renumbered_reloc (elf_of b) secs)) olds k [] [] (omega arith)
    ∙ ap (map (renumbered_reloc (elf_of b) secs)) (get_or-map-range_with_len (relocs_of b) 0 n k k [] h (omega arith))
    ∙ sym (relocs_one b secs t x k)))

-- The whole.

abbrev record_of : List ℕ → ℕ → ℕ → List SectionEntry → Option ℕ → List SymbolEntry → List (List Reloc) → Elf
record_of bytes h n ss st sy rs = record {
  bytes = bytes;
  headers_at = h;
  name_table = n;
  sections = ss;
  symbol_table = st;
  symbols = sy;
  relocs = rs;
}

same_elf : (bytes : List ℕ) (h h' n n' : ℕ) (ss ss' : List SectionEntry) (st st' : Option ℕ) (sy sy' : List SymbolEntry) (rs rs' : List (List Reloc))
    → h ≡ h' → n ≡ n' → ss ≡ ss' → st ≡ st' → sy ≡ sy' → rs ≡ rs'
    → record_of bytes h n ss st sy rs ≡ record_of bytes h' n' ss' st' sy' rs'
same_elf bytes h h' n n' ss ss' st st' sy sy' rs rs' a c d e f g = rw (a, c, d, e, f, g) refl

pub is_object : (b secs : List ℕ) (t : ℕ) → Base b secs t → IsObject (extended (elf_of b) secs) (extended_object (elf_of b) secs)
is_object b secs t x =
    let q : List ℕ = extended (elf_of b) secs in
    record {
      well_formed = well_formed b secs t x;
      says = sym (same_elf q (headers_at q) (headers_place (elf_of b) secs) (name_table q) (name_table b) _ _ (symbol_table q) (symbol_table b) _ _ _ _
          (headers_read b secs t x) (table b secs t x) (sections b secs t x) (first_same b secs t SHT_SYMTAB x) (symbols b secs t x) (relocs b secs t x));
    }
