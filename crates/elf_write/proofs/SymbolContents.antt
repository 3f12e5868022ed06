-- The bodies, names and symbols of the object with the new symbols.
use Rattle.std.proofs.Common.{◌≡◌, ◌≢◌, inl, inr, ℕ, zero, suc, ◌+◌, ◌-◌, ◌*◌, ◌/◌, ◌^◌, ◌<◌, ◌≤◌, List, [], ◌∷◌, ◌++◌, length, take, drop, false, eqb, Option, Some, None, refl, sym, ap, subst, ◌∙◌, arith, length-append}
use Rattle.std.specs.Prelude.{slice_index, IsSome}
use Rattle.std.specs.List.{flat_map}
use Rattle.std.proofs.lemmas.Bool.{cases_eq, cases_lt, ne_eqb}
use Rattle.std.proofs.lemmas.Bool.Decides.{nat_tests}
use Rattle.std.proofs.lemmas.List.{drop-drop, length-take-le}
use Rattle.elf_objects.specs.Contents.{elf_of, section_at}
use Rattle.elf_objects.specs.Elf.{SectionEntry}
use Rattle.elf_objects.specs.File.{name_table, section_count, section_header}
use Rattle.elf_objects.specs.Header.{has_body}
use Rattle.elf_objects.specs.Number.{half, word, xword}
use Rattle.elf_objects.specs.declared.TheConstants.{SHT_STRTAB, SHT_SYMTAB, SHT_RELA, SHT_SYMTAB_SHNDX, SHN_ABS, SHN_COMMON, SHN_LORESERVE, SHN_XINDEX}
use Rattle.elf_objects.specs.declared.header.SectionHeader.{SectionHeader}
use Rattle.elf_objects.specs.declared.symbol.Home.TheVariants as homes
use Rattle.elf_objects.specs.declared.symbol.RawSymbol.{RawSymbol}
use Rattle.elf_objects.specs.Object.{IsWellFormed}
use Rattle.elf_objects.specs.Symbols.{HasHome, absolute, common, extended as in_table, plain}
use Rattle.elf_objects.specs.Table.{body_of, first_of_kind, header_of, home_of, index_entry, index_header, index_table, is_kind, name_header, raw_symbol, raw_symbol_at, section_home, symbol_count, symbol_header, symbol_home}
use Rattle.elf_objects.proofs.LeastBelow.{least_below-cong}
use Rattle.elf_objects.specs.Below.{least_below}
use Rattle.elf_write.specs.Layout.{encoded}
use Rattle.elf_write.proofs.Cases.{table_kind}
use Rattle.elf_write.proofs.Links.{length-sections}
use Rattle.elf_write.proofs.Lists.{length-encoded}
use Rattle.elf_write.proofs.Numbers.{half-encoded, symbol-same, word-same}
use Rattle.elf_write.proofs.Output.{Outside}
use Rattle.elf_write.proofs.Parts.{part, part-left, part-part, part-right, part-whole}
use Rattle.elf_write.proofs.Special.{body_none, body_range, bool_cases}
use Rattle.elf_write.specs.SymbolLayout.{extended, inserted, locals, long_number, longer_numbers, longer_symbols, number_bytes, numbers_place, short_number, symbol_bytes, symbol_section, symbols_place}
use Rattle.elf_write.proofs.Fields.{with_numbers, word-part, with_symtab}
use Rattle.elf_write.proofs.Joined.{Base, start, length-new_numbers, length-new_symbols, length-symbol_bytes, symbols_body}
use Rattle.elf_write.proofs.Known.{Numbers, length-part, locals_are, numbers_at, same_numbers, section_is}
use Rattle.elf_write.proofs.SymbolOutput.{count, header, keep, same_header, table}
use Rattle.elf_write.proofs.Regions.{apart_bodies, kept, numbers_read, plan, symbols_read}

pub flip : (a w i l : ℕ) → Outside i l a w → Outside a w i l
flip a w i l (inl h) = inr h
flip a w i l (inr h) = inl h

-- a body that is none of relocations is there as it was
pub body_kept : (b secs : List ℕ) (t : ℕ) → Base b secs t → (i : ℕ) → i < section_count b → (section_header b i).kind ≢ SHT_RELA
    → body_of (extended (elf_of b) secs) (section_header b i) ≡ body_of b (section_header b i)
body_kept b secs t x i h none =
    let q : List ℕ = extended (elf_of b) secs in
    let d = section_header b i in
    let p = (x.well.bodies i h).placed in
    elim (bool_cases (has_body d)) [
      | inl there ↦
          let within = p.inside there in
          body_range q d there
          ∙ elim (cases_eq d.size 0) [
            | inl empty ↦ rw empty refl
            | inr some ↦
                let low = p.behind there (omega arith) in
                kept b secs t (start b secs t x) d.offset d.size within (inr (omega arith))
                (λ j lt kind js. flip d.offset d.size (section_header b j).offset (section_header b j).size
                (apart_bodies b x.well j i lt h kind there (λ e. none (ap (λ (k : ℕ). (section_header b k).kind) e ∙ kind)) js (omega arith)))
          ]
          ∙ sym (body_range b d there)
      | inr absent ↦ body_none q d absent ∙ sym (body_none b d absent)
    ]

-- so is a string table, with its header
pub strings_kept : (b secs : List ℕ) (t : ℕ) → Base b secs t → (i : ℕ) → i < section_count b → (section_header b i).kind ≡ SHT_STRTAB
    → body_of (extended (elf_of b) secs) (section_header (extended (elf_of b) secs) i) ≡ body_of b (section_header b i)
strings_kept b secs t x i h kind =
    ap (body_of (extended (elf_of b) secs)) (same_header b secs t x i SHT_STRTAB h kind (λ z. omega arith) (λ z. omega arith) (λ z. omega arith))
    ∙ body_kept b secs t x i h (λ z. omega arith)

pub names_kept : (b secs : List ℕ) (t : ℕ) → Base b secs t → body_of (extended (elf_of b) secs) (name_header (extended (elf_of b) secs)) ≡ body_of b (name_header b)
names_kept b secs t x =
    ap (λ (k : ℕ). body_of (extended (elf_of b) secs) (section_header (extended (elf_of b) secs) k)) (table b secs t x)
    ∙ strings_kept b secs t x (name_table b) x.well.table.counts.names (table_kind b x.well)

-- the first section of a type
pub first_same : (b secs : List ℕ) (t kind : ℕ) → Base b secs t → first_of_kind (extended (elf_of b) secs) kind ≡ first_of_kind b kind
first_same b secs t kind x =
    ap (least_below (is_kind (extended (elf_of b) secs) kind)) (count b secs t x)
    ∙ least_below-cong (is_kind (extended (elf_of b) secs) kind) (is_kind b kind) (section_count b)
    (λ k h. ap (λ (n : ℕ). eqb n kind) (keep b secs t x k h).kind)

header_some : (q : List ℕ) (i : ℕ) → header_of q (Some i) ≡ section_header q i
unfolding header_of
header_some q i = refl

-- the symbol table's header
pub symbols_header : (b secs : List ℕ) (t : ℕ) → Base b secs t
    → symbol_header (extended (elf_of b) secs)
    ≡ record (section_header b t) { offset = symbols_place (elf_of b); size = (section_header b t).size + 24 * length secs; info = (section_header b t).info + length secs }
symbols_header b secs t x =
    let q : List ℕ = extended (elf_of b) secs in
    let one = x.symbols.one in
    ap (header_of q) (first_same b secs t SHT_SYMTAB x ∙ x.symbols.found)
    ∙ header_some q t
    ∙ header b secs t x t one.below
    ∙ with_symtab (plan b secs) (section_header b t) one.kind_is

count_of : (q : List ℕ) → symbol_count q ≡ (symbol_header q).size / 24
unfolding symbol_count
count_of q = refl

pub symbols_count : (b secs : List ℕ) (t : ℕ) → Base b secs t → symbol_count (extended (elf_of b) secs) ≡ symbol_count b + length secs
symbols_count b secs t x =
    let size = x.symbols.size in
    count_of (extended (elf_of b) secs)
    ∙ ap (λ (h : SectionHeader). h.size / 24) (symbols_header b secs t x)
    ∙ omega arith

-- the header of the table of section numbers
pub numbers_header : (b secs : List ℕ) (t i : ℕ) → Base b secs t → Numbers b i
    → index_header (extended (elf_of b) secs)
    ≡ record (section_header b i) { offset = numbers_place (elf_of b) secs; size = (section_header b i).size + 4 * length secs }
numbers_header b secs t i x n =
    let q : List ℕ = extended (elf_of b) secs in
    ap (header_of q) (first_same b secs t SHT_SYMTAB_SHNDX x ∙ n.found)
    ∙ header_some q i
    ∙ header b secs t x i n.one.below
    ∙ with_numbers (plan b secs) (section_header b i) n.one.kind_is

-- A piece in a list: what stands before it, within it and behind it.
before : (a w at : ℕ) (piece body : List ℕ) → a + w ≤ at → at ≤ length body → part a w (inserted at piece body) ≡ part a w body
before a w at piece body h inside =
    let l = length-take-le at body inside in
    let m = length-append (take at body) piece in
    part-left a w (take at body ++ piece) (drop at body) (omega arith)
    ∙ part-left a w (take at body) piece (omega arith)
    ∙ part-part a w 0 at body h
    ∙ ap (λ (n : ℕ). part n w body) (omega arith)

within : (c w at : ℕ) (piece body : List ℕ) → c + w ≤ length piece → at ≤ length body → part (at + c) w (inserted at piece body) ≡ part c w piece
within c w at piece body h inside =
    let l = length-take-le at body inside in
    let m = length-append (take at body) piece in
    part-left (at + c) w (take at body ++ piece) (drop at body) (omega arith)
    ∙ part-right (at + c) c w (take at body) piece (omega arith)

behind : (a w at n : ℕ) (piece body : List ℕ) → at ≤ a → length piece ≡ n → at ≤ length body → part (a + n) w (inserted at piece body) ≡ part a w body
behind a w at n piece body h e inside =
    let l = length-take-le at body inside in
    let m = length-append (take at body) piece in
    let z : at + (a - at) ≡ a = omega arith in
    part-right (a + n) (a - at) w (take at body ++ piece) (drop at body) (omega arith)
    ∙ ap (take w) (drop-drop (a - at) at body ∙ ap (λ (k : ℕ). drop k body) z)

-- one of some pieces of one length
piece_at : (f : ℕ → List ℕ) (w : ℕ) → ((s : ℕ) → length (f s) ≡ w) → (xs : List ℕ) (k : ℕ) → k < length xs → part (w * k) w (flat_map f xs) ≡ f (slice_index xs k)
piece_at f w h [] k lt = absurd (omega arith)
piece_at f w h (s ∷ xs) zero lt =
    let z : w * 0 ≡ 0 = grind arith in
    let l = h s in
    ap (λ (n : ℕ). part n w (f s ++ flat_map f xs)) z
    ∙ part-left 0 w (f s) (flat_map f xs) (omega arith)
    ∙ part-whole w (f s) l
piece_at f w h (s ∷ xs) (suc k) lt =
    let z : w * suc k ≡ w + w * k = grind arith in
    let l = h s in
    part-right (w * suc k) (w * k) w (f s) (flat_map f xs) (omega arith)
    ∙ piece_at f w h xs k (omega arith)

-- Which symbol the symbol k is.
pub data Which (first m k : ℕ) : Type 0 where
  local : k < first → Which first m k
  new : (j : ℕ) → j < m → k ≡ first + j → Which first m k
  global : (j : ℕ) → first ≤ j → k ≡ j + m → Which first m k

pub which : (first m k : ℕ) → Which first m k
which first m k = elim (cases_lt k first) [
  | inl lower ↦ local lower
  | inr upper ↦ elim (cases_lt (k - first) m) [
    | inl mid ↦ new (k - first) mid (omega arith)
    | inr past ↦ global (k - m) (omega arith) (omega arith)
  ]
]

-- the symbol's 24 bytes
entry_part : (b secs : List ℕ) (t : ℕ) → Base b secs t → (k : ℕ) → k < symbol_count b + length secs
    → part (symbols_place (elf_of b) + 24 * k) 24 (extended (elf_of b) secs) ≡ part (24 * k) 24 (longer_symbols (elf_of b) secs)
entry_part b secs t x k h =
    sym (part-part (24 * k) 24 (symbols_place (elf_of b)) (24 * (symbol_count b + length secs)) (extended (elf_of b) secs) (omega arith))
    ∙ ap (part (24 * k) 24) (symbols_read b secs t (start b secs t x))

raw_at : (b : List ℕ) (k : ℕ) → raw_symbol b k ≡ raw_symbol_at b ((symbol_header b).offset + 24 * k)
unfolding raw_symbol
raw_at b k = refl

raw_place : (b secs : List ℕ) (t : ℕ) → Base b secs t → (k : ℕ)
    → raw_symbol (extended (elf_of b) secs) k ≡ raw_symbol_at (extended (elf_of b) secs) (symbols_place (elf_of b) + 24 * k)
raw_place b secs t x k =
    raw_at (extended (elf_of b) secs) k
    ∙ ap (λ (h : SectionHeader). raw_symbol_at (extended (elf_of b) secs) (h.offset + 24 * k)) (symbols_header b secs t x)

old_part : (b secs : List ℕ) (t : ℕ) → Base b secs t → (j : ℕ) → j < symbol_count b
    → part (24 * j) 24 (symbol_section (elf_of b)).body ≡ part ((section_header b t).offset + 24 * j) 24 b
old_part b secs t x j h =
    let size = x.symbols.size in
    ap (part (24 * j) 24) (symbols_body b secs t (start b secs t x))
    ∙ part-part (24 * j) 24 (section_header b t).offset (section_header b t).size b (omega arith)

old_raw : (b secs : List ℕ) (t : ℕ) → Base b secs t → (j : ℕ) → raw_symbol b j ≡ raw_symbol_at b ((section_header b t).offset + 24 * j)
old_raw b secs t x j = raw_at b j ∙ ap (λ (h : SectionHeader). raw_symbol_at b (h.offset + 24 * j)) x.symbols.header

body_long : (b secs : List ℕ) (t : ℕ) → Base b secs t → 24 * locals (elf_of b) ≤ length (symbol_section (elf_of b)).body
body_long b secs t x =
    let l = locals_are b t x.symbols in
    let s = x.symbols in
    let e : length (symbol_section (elf_of b)).body ≡ (section_header b t).size =
    ap length (symbols_body b secs t (start b secs t x)) ∙ length-part (section_header b t).offset (section_header b t).size b s.body.inside in
    omega (arith, s.high, s.size)

pub raw_local : (b secs : List ℕ) (t : ℕ) → Base b secs t → (k : ℕ) → k < (section_header b t).info → raw_symbol (extended (elf_of b) secs) k ≡ raw_symbol b k
raw_local b secs t x k h =
    let l = locals_are b t x.symbols in
    let high = x.symbols.high in
    raw_place b secs t x k
    ∙ symbol-same (symbols_place (elf_of b) + 24 * k) ((section_header b t).offset + 24 * k) (extended (elf_of b) secs) b
    (entry_part b secs t x k (omega arith)
    ∙ before (24 * k) 24 (24 * locals (elf_of b)) (flat_map symbol_bytes secs) (symbol_section (elf_of b)).body (omega arith) (body_long b secs t x)
    ∙ old_part b secs t x k (omega arith))
    ∙ sym (old_raw b secs t x k)

pub raw_global : (b secs : List ℕ) (t : ℕ) → Base b secs t → (j : ℕ) → (section_header b t).info ≤ j → j < symbol_count b
    → raw_symbol (extended (elf_of b) secs) (j + length secs) ≡ raw_symbol b j
raw_global b secs t x j h lt =
    let l = locals_are b t x.symbols in
    let e : 24 * (j + length secs) ≡ 24 * j + 24 * length secs = omega arith in
    raw_place b secs t x (j + length secs)
    ∙ symbol-same (symbols_place (elf_of b) + 24 * (j + length secs)) ((section_header b t).offset + 24 * j) (extended (elf_of b) secs) b
    (entry_part b secs t x (j + length secs) (omega arith)
    ∙ ap (λ (n : ℕ). part n 24 (longer_symbols (elf_of b) secs)) e
    ∙ behind (24 * j) 24 (24 * locals (elf_of b)) (24 * length secs) (flat_map symbol_bytes secs) (symbol_section (elf_of b)).body (omega arith) (length-new_symbols secs) (body_long b secs t x)
    ∙ old_part b secs t x j lt)
    ∙ sym (old_raw b secs t x j)

short_fits : (s : ℕ) → short_number s < 2 ^ 16
short_fits s = elim (cases_lt s SHN_LORESERVE) [
  | inl low ↦ grind (arith, nat_tests)
  | inr high ↦ grind (arith, nat_tests)
]

-- what a new symbol's bytes say
abbrev pub raw_for : ℕ → RawSymbol
raw_for s = record { name = 0; info = 3; other = 0; shndx = short_number s; value = 0; size = 0 }

shndx_read : (s : ℕ) → half (symbol_bytes s) 6 ≡ short_number s
unfolding symbol_bytes encoded
shndx_read s = half-encoded (symbol_bytes s) (encoded 8 0 ++ encoded 8 0) 6 (short_number s) refl (short_fits s)

bytes_read : (s : ℕ) (n : ℕ) → half (symbol_bytes s) 6 ≡ n → raw_symbol_at (symbol_bytes s) 0 ≡ record { name = 0; info = 3; other = 0; shndx = n; value = 0; size = 0 }
unfolding raw_symbol_at symbol_bytes encoded word xword
bytes_read s n e = ap (λ (k : ℕ). record { name = 0; info = 3; other = 0; shndx = k; value = 0; size = 0 }) e

pub raw_new : (b secs : List ℕ) (t : ℕ) → Base b secs t → (j : ℕ) → j < length secs
    → raw_symbol (extended (elf_of b) secs) ((section_header b t).info + j) ≡ raw_for (slice_index secs j)
raw_new b secs t x j h =
    let first : ℕ = (section_header b t).info in
    let l = locals_are b t x.symbols in
    let high = x.symbols.high in
    let s : ℕ = slice_index secs j in
    let e : 24 * (first + j) ≡ 24 * locals (elf_of b) + 24 * j = omega arith in
    raw_place b secs t x (first + j)
    ∙ symbol-same (symbols_place (elf_of b) + 24 * (first + j)) 0 (extended (elf_of b) secs) (symbol_bytes s)
    (entry_part b secs t x (first + j) (omega arith)
    ∙ ap (λ (n : ℕ). part n 24 (longer_symbols (elf_of b) secs)) e
    ∙ within (24 * j) 24 (24 * locals (elf_of b)) (flat_map symbol_bytes secs) (symbol_section (elf_of b)).body (omega (arith, length-new_symbols secs)) (body_long b secs t x)
    ∙ piece_at symbol_bytes 24 length-symbol_bytes secs j h
    ∙ sym (part-whole 24 (symbol_bytes s) (length-symbol_bytes s)))
    ∙ bytes_read s (short_number s) (shndx_read s)

-- The entries of the table of section numbers.
number_part : (b secs : List ℕ) (t i : ℕ) → Base b secs t → Numbers b i → (k : ℕ) → k < symbol_count b + length secs
    → part (numbers_place (elf_of b) secs + 4 * k) 4 (extended (elf_of b) secs) ≡ part (4 * k) 4 (longer_numbers (elf_of b) secs (section_at (elf_of b) i).body)
number_part b secs t i x n k h =
    sym (part-part (4 * k) 4 (numbers_place (elf_of b) secs) (4 * (symbol_count b + length secs)) (extended (elf_of b) secs) (omega arith))
    ∙ ap (part (4 * k) 4) (numbers_read b secs t i (start b secs t x) n)

number_at : (b : List ℕ) (k : ℕ) → index_entry b k ≡ word b ((index_header b).offset + 4 * k)
unfolding index_entry
number_at b k = refl

number_place : (b secs : List ℕ) (t i : ℕ) → Base b secs t → Numbers b i → (k : ℕ)
    → index_entry (extended (elf_of b) secs) k ≡ word (extended (elf_of b) secs) (numbers_place (elf_of b) secs + 4 * k)
number_place b secs t i x n k =
    number_at (extended (elf_of b) secs) k
    ∙ ap (λ (h : SectionHeader). word (extended (elf_of b) secs) (h.offset + 4 * k)) (numbers_header b secs t i x n)

number_body : (b : List ℕ) (i : ℕ) → Numbers b i → (section_at (elf_of b) i).body ≡ part (section_header b i).offset (section_header b i).size b
number_body b i n = ap (λ (s : SectionEntry). s.body) (section_is b i n.one.below) ∙ n.body.body

old_number : (b : List ℕ) (i : ℕ) → Numbers b i → (j : ℕ) → j < symbol_count b
    → part (4 * j) 4 (section_at (elf_of b) i).body ≡ part ((section_header b i).offset + 4 * j) 4 b
old_number b i n j h =
    let size = n.size in
    ap (part (4 * j) 4) (number_body b i n)
    ∙ part-part (4 * j) 4 (section_header b i).offset (section_header b i).size b (omega arith)

old_entry : (b : List ℕ) (i : ℕ) → Numbers b i → (j : ℕ) → index_entry b j ≡ word b ((section_header b i).offset + 4 * j)
old_entry b i n j = number_at b j ∙ ap (λ (h : SectionHeader). word b (h.offset + 4 * j)) n.header

numbers_long : (b secs : List ℕ) (t i : ℕ) → Base b secs t → Numbers b i → 4 * locals (elf_of b) ≤ length (section_at (elf_of b) i).body
numbers_long b secs t i x n =
    let l = locals_are b t x.symbols in
    let e : length (section_at (elf_of b) i).body ≡ (section_header b i).size =
    ap length (number_body b i n) ∙ length-part (section_header b i).offset (section_header b i).size b n.body.inside in
    omega (arith, x.symbols.high, n.size)

number_local : (b secs : List ℕ) (t i : ℕ) → Base b secs t → Numbers b i → (k : ℕ) → k < (section_header b t).info → index_entry (extended (elf_of b) secs) k ≡ index_entry b k
number_local b secs t i x n k h =
    let l = locals_are b t x.symbols in
    let high = x.symbols.high in
    number_place b secs t i x n k
    ∙ word-same (numbers_place (elf_of b) secs + 4 * k) ((section_header b i).offset + 4 * k) (extended (elf_of b) secs) b
    (number_part b secs t i x n k (omega arith)
    ∙ before (4 * k) 4 (4 * locals (elf_of b)) (flat_map number_bytes secs) (section_at (elf_of b) i).body (omega arith) (numbers_long b secs t i x n)
    ∙ old_number b i n k (omega arith))
    ∙ sym (old_entry b i n k)

number_global : (b secs : List ℕ) (t i : ℕ) → Base b secs t → Numbers b i → (j : ℕ) → (section_header b t).info ≤ j → j < symbol_count b
    → index_entry (extended (elf_of b) secs) (j + length secs) ≡ index_entry b j
number_global b secs t i x n j h lt =
    let l = locals_are b t x.symbols in
    let e : 4 * (j + length secs) ≡ 4 * j + 4 * length secs = omega arith in
    number_place b secs t i x n (j + length secs)
    ∙ word-same (numbers_place (elf_of b) secs + 4 * (j + length secs)) ((section_header b i).offset + 4 * j) (extended (elf_of b) secs) b
    (number_part b secs t i x n (j + length secs) (omega arith)
    ∙ ap (λ (m : ℕ). part m 4 (longer_numbers (elf_of b) secs (section_at (elf_of b) i).body)) e
    ∙ behind (4 * j) 4 (4 * locals (elf_of b)) (4 * length secs) (flat_map number_bytes secs) (section_at (elf_of b) i).body (omega arith) (length-new_numbers secs) (numbers_long b secs t i x n)
    ∙ old_number b i n j lt)
    ∙ sym (old_entry b i n j)

number_new : (b secs : List ℕ) (t i : ℕ) → Base b secs t → Numbers b i → (j : ℕ) → j < length secs → long_number (slice_index secs j) < 2 ^ 32
    → index_entry (extended (elf_of b) secs) ((section_header b t).info + j) ≡ long_number (slice_index secs j)
number_new b secs t i x n j h small =
    let first : ℕ = (section_header b t).info in
    let l = locals_are b t x.symbols in
    let high = x.symbols.high in
    let s : ℕ = slice_index secs j in
    let e : 4 * (first + j) ≡ 4 * locals (elf_of b) + 4 * j = omega arith in
    number_place b secs t i x n (first + j)
    ∙ word-part (extended (elf_of b) secs) (numbers_place (elf_of b) secs + 4 * (first + j)) (long_number s)
    (number_part b secs t i x n (first + j) (omega arith)
    ∙ ap (λ (m : ℕ). part m 4 (longer_numbers (elf_of b) secs (section_at (elf_of b) i).body)) e
    ∙ within (4 * j) 4 (4 * locals (elf_of b)) (flat_map number_bytes secs) (section_at (elf_of b) i).body (omega (arith, length-new_numbers secs)) (numbers_long b secs t i x n)
    ∙ piece_at number_bytes 4 (λ y. length-encoded 4 (long_number y)) secs j h)
    small

-- Where symbols are defined.
home_at : (b : List ℕ) (k : ℕ) → symbol_home b k ≡ home_of (raw_symbol b k).shndx (index_entry b k)
unfolding symbol_home
home_at b k = refl

home_plain : (shndx y z : ℕ) → shndx < SHN_LORESERVE → home_of shndx y ≡ home_of shndx z
home_plain shndx y z h =
    let a : eqb shndx SHN_ABS ≡ false = ne_eqb shndx SHN_ABS (λ e. omega arith) in
    let c : eqb shndx SHN_COMMON ≡ false = ne_eqb shndx SHN_COMMON (λ e. omega arith) in
    let d : eqb shndx SHN_XINDEX ≡ false = ne_eqb shndx SHN_XINDEX (λ e. omega arith) in
    rw (a, c, d) refl

home_same : (b : List ℕ) (k s y z : ℕ) → (raw_symbol b k).shndx ≡ s → HasHome b k → (IsSome (index_table b) → y ≡ z) → home_of s y ≡ home_of s z
home_same b k s y z e (absolute h) same = rw (sym e ∙ h) refl
home_same b k s y z e (common h) same = rw (sym e ∙ h) refl
home_same b k s y z e (plain h i) same = home_plain s y z (omega arith)
home_same b k s y z e (in_table h i j) same = ap (home_of s) (same i)

-- the table of section numbers, where there is one
numbers_some : (b : List ℕ) → IsWellFormed b → (f : Option ℕ) → index_table b ≡ f → IsSome f → (i : ℕ) × Numbers b i
numbers_some b w None e some = cc
numbers_some b w (Some i) e some = (i, numbers_at b w i e)

pub home_local : (b secs : List ℕ) (t : ℕ) → Base b secs t → (k : ℕ) → k < (section_header b t).info → symbol_home (extended (elf_of b) secs) k ≡ symbol_home b k
home_local b secs t x k h =
    let q : List ℕ = extended (elf_of b) secs in
    let high = x.symbols.high in
    home_at q k
    ∙ ap (λ (s : RawSymbol). home_of s.shndx (index_entry q k)) (raw_local b secs t x k h)
    ∙ home_same b k (raw_symbol b k).shndx (index_entry q k) (index_entry b k) refl (x.well.symbols k (omega arith)).home
    (λ some. (let n = numbers_some b x.well (index_table b) refl some in number_local b secs t n.0 x n.1 k h))
    ∙ sym (home_at b k)

pub home_global : (b secs : List ℕ) (t : ℕ) → Base b secs t → (j : ℕ) → (section_header b t).info ≤ j → j < symbol_count b
    → symbol_home (extended (elf_of b) secs) (j + length secs) ≡ symbol_home b j
home_global b secs t x j h lt =
    let q : List ℕ = extended (elf_of b) secs in
    let k : ℕ = j + length secs in
    home_at q k
    ∙ ap (λ (s : RawSymbol). home_of s.shndx (index_entry q k)) (raw_global b secs t x j h lt)
    ∙ home_same b j (raw_symbol b j).shndx (index_entry q k) (index_entry b j) refl (x.well.symbols j lt).home
    (λ some. (let n = numbers_some b x.well (index_table b) refl some in number_global b secs t n.0 x n.1 j h lt))
    ∙ sym (home_at b j)

-- the section of a new symbol
pub record IsNew (b secs : List ℕ) (j : ℕ) : Type 0 where
  pub low : 1 ≤ slice_index secs j
  pub high : slice_index secs j < section_count b
  pub few : section_count b ≤ 262144
  pub table : SHN_LORESERVE ≤ slice_index secs j → IsSome (index_table b)

pub is_new : (b secs : List ℕ) (t : ℕ) → Base b secs t → (j : ℕ) → j < length secs → IsNew b secs j
is_new b secs t x j h =
    let l = length-sections b in
    let high = x.can.exist j 0 h in
    record {
      low = x.can.some j 0 h;
      high = omega arith;
      few = x.well.table.few;
      table = λ large. subst IsSome (same_numbers b) (x.can.numbers j 0 h large);
    }

section_is_home : (s : ℕ) → 1 ≤ s → section_home s ≡ homes.Section s
section_is_home s h =
    let e : eqb s 0 ≡ false = ne_eqb s 0 (λ z. omega arith) in
    rw e refl

small_home : (s y : ℕ) → 1 ≤ s → s < SHN_LORESERVE → home_of (short_number s) y ≡ homes.Section s
small_home s y low h =
    let e : short_number s ≡ s = grind (arith, nat_tests) in
    let a : eqb s SHN_ABS ≡ false = ne_eqb s SHN_ABS (λ z. omega arith) in
    let c : eqb s SHN_COMMON ≡ false = ne_eqb s SHN_COMMON (λ z. omega arith) in
    let d : eqb s SHN_XINDEX ≡ false = ne_eqb s SHN_XINDEX (λ z. omega arith) in
    ap (λ (n : ℕ). home_of n y) e ∙ rw (a, c, d) (section_is_home s low)

large_home : (s y : ℕ) → 1 ≤ s → SHN_LORESERVE ≤ s → y ≡ s → home_of (short_number s) y ≡ homes.Section s
large_home s y low h is =
    let e : short_number s ≡ SHN_XINDEX = grind (arith, nat_tests) in
    ap (λ (n : ℕ). home_of n y) e ∙ ap (home_of SHN_XINDEX) is ∙ section_is_home s low

pub home_new : (b secs : List ℕ) (t : ℕ) → Base b secs t → (j : ℕ) → j < length secs
    → symbol_home (extended (elf_of b) secs) ((section_header b t).info + j) ≡ homes.Section (slice_index secs j)
home_new b secs t x j h =
    let q : List ℕ = extended (elf_of b) secs in
    let k : ℕ = (section_header b t).info + j in
    let s : ℕ = slice_index secs j in
    let n = is_new b secs t x j h in
    home_at q k
    ∙ ap (λ (r : RawSymbol). home_of r.shndx (index_entry q k)) (raw_new b secs t x j h)
    ∙ elim (cases_lt s SHN_LORESERVE) [
      | inl small ↦ small_home s (index_entry q k) n.low small
      | inr large ↦
          let table = numbers_some b x.well (index_table b) refl (n.table large) in
          let long : long_number s ≡ s = grind (arith, nat_tests) in
          large_home s (index_entry q k) n.low large (number_new b secs t table.0 x table.1 j h (omega (arith, n.high, n.few)) ∙ long)
    ]

-- the entries of the symbols in the table of section numbers, where there is one
pub index_local : (b secs : List ℕ) (t : ℕ) → Base b secs t → (k : ℕ) → k < (section_header b t).info → IsSome (index_table b) → index_entry (extended (elf_of b) secs) k ≡ index_entry b k
index_local b secs t x k h some = (let n = numbers_some b x.well (index_table b) refl some in number_local b secs t n.0 x n.1 k h)

pub index_global : (b secs : List ℕ) (t : ℕ) → Base b secs t → (j : ℕ) → (section_header b t).info ≤ j → j < symbol_count b → IsSome (index_table b)
    → index_entry (extended (elf_of b) secs) (j + length secs) ≡ index_entry b j
index_global b secs t x j h lt some = (let n = numbers_some b x.well (index_table b) refl some in number_global b secs t n.0 x n.1 j h lt)

pub index_new : (b secs : List ℕ) (t : ℕ) → Base b secs t → (j : ℕ) → j < length secs → SHN_LORESERVE ≤ slice_index secs j → IsSome (index_table b)
    → index_entry (extended (elf_of b) secs) ((section_header b t).info + j) ≡ slice_index secs j
index_new b secs t x j h large some =
    let n = is_new b secs t x j h in
    let table = numbers_some b x.well (index_table b) refl some in
    let s : ℕ = slice_index secs j in
    let long : long_number s ≡ s = grind (arith, nat_tests) in
    number_new b secs t table.0 x table.1 j h (omega (arith, n.high, n.few)) ∙ long
