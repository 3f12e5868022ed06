-- The object of functions one after the other can be made.
use Rattle.std.proofs.Common.{◌≡◌, ◌≢◌, ℕ, zero, suc, ◌+◌, ◌-◌, ◌*◌, ◌/◌, ◌%◌, ◌^◌, ◌<◌, ◌≤◌, Bool, true, false, List, [], ◌∷◌, ◌++◌, length, map, get_or, refl, sym, ap, subst, ◌∙◌, arith, length-append, slice_index}
use Rattle.std.specs.Prelude.{All, IsTrue, bit_and, codes, filter, ◌↔◌, ◌==◌, if◌then◌else◌}
use Rattle.std.specs.Fmt.{decimal}
use Rattle.std.specs.List.{flat_map, range_with_len, sum_by}
use Rattle.std.proofs.lemmas.Bool.Decides.{nat_tests}
use Rattle.std.proofs.lemmas.Fmt.{decimal_by_steps, length-decimal-le}
use Rattle.std.proofs.lemmas.List.{append_assoc, append-nil, get_or_at, map-id}
use Rattle.std.proofs.lemmas.List.Concat.{flat_map-append}
use Rattle.std.proofs.lemmas.List.Elements.{All-append}
use Rattle.std.proofs.lemmas.List.FromFn.{get_or-map-range_with_len, length-map-range_with_len, map-range_with_len_more}
use Rattle.elf_objects.specs.Below.{AllBelow}
use Rattle.elf_objects.specs.File.{name_table, section_count, section_header}
use Rattle.elf_objects.specs.Header.{is_text_header}
use Rattle.elf_objects.specs.Sections.{HasForm, HasLinks, HasLittleText, IsPlain, IsStringTable, file_text_bytes, text_size}
use Rattle.elf_objects.specs.Symbols.{IsSymbol}
use Rattle.elf_objects.specs.Symbols.HasHome.{plain}
use Rattle.elf_objects.specs.Table.{raw_symbol, string_header, symbol_count, symbol_header}
use Rattle.elf_objects.specs.declared.TheConstants.{SHF_COMPRESSED, SHT_RELA, SHT_STRTAB, SHT_SYMTAB}
use Rattle.elf_objects.specs.declared.header.SectionHeader.{SectionHeader}
use Rattle.elf_objects.specs.declared.symbol.RawSymbol.{RawSymbol}
use Rattle.elf_write.specs.Added.{HasFields}
use Rattle.elf_write.specs.Layout.{NewEntry, header_for}
use Rattle.elf_write.proofs.Numbers.{index-same}
use Rattle.elf_write.proofs.Parts.{part, part-part}
use Rattle.demo_objects.specs.CanMake.{CanLayOut, CanMake, HasValues, HaveHomes, IsHome, IsNewSymbol, IsSection}
use Rattle.demo_objects.specs.Demo.{branch_code, call_code, demo_code, demo_spec, demo_symbol, demo_symbols, demo_text, frame_code, text_section, text_symbol}
use Rattle.demo_objects.specs.Layout.{bodies_end, file_of, first_header, headers_place, names_entry, next_multiple, with_names}
use Rattle.demo_objects.specs.Made.{all_sections, indices_entry, is_local, made, name_text, needs_indices, strings_body, strings_entry, strings_number, symbols_entry}
use Rattle.demo_objects.specs.Spec.{NewSymbol, Spec}
use Rattle.demo_objects.proofs.Can.{length-symbols_body}
use Rattle.demo_objects.proofs.Items.{all-only}
use Rattle.demo_objects.proofs.SaysSections.{nonzero}
use Rattle.demo_objects.proofs.SaysSymbols.{ReadsSymbols, name-back, null_raw, raw-first, raw-other, raw_of, reads-symbols, some-text, symbol_name}
use Rattle.demo_objects.proofs.Placed.{name_at, place_at}
use Rattle.demo_objects.proofs.ReadBack.{HasSpace, Reads, reads}
use Rattle.demo_objects.proofs.Sizes.{AreAligned, length-file_of}
use Rattle.demo_objects.proofs.WellFormed.{space}

-- How long the parts are.

code-short : (i : ℕ) → length (demo_code i) ≤ 16
code-short i = by (i % 3 == 0) (i % 3 == 1)
  where
    by : (a b : Bool) → length (if a then frame_code else if b then call_code else branch_code) ≤ 16
    by true b = omega arith
    by false true = omega arith
    by false false = omega arith

range-more : (n : ℕ) → range_with_len 0 (n + 1) ≡ range_with_len 0 n ++ n ∷ []
range-more n =
    sym (map-id (range_with_len 0 (n + 1)))
    ∙ map-range_with_len_more (λ (x : ℕ). x) 0 n n (omega arith)
    ∙ ap (λ (xs : List ℕ). xs ++ n ∷ []) (map-id (range_with_len 0 n))

pub text-more : (n : ℕ) → demo_text (n + 1) ≡ demo_text n ++ demo_code n
text-more n =
    ap (flat_map demo_code) (range-more n)
    ∙ flat_map-append demo_code (range_with_len 0 n) (n ∷ [])
    ∙ ap (λ (xs : List ℕ). demo_text n ++ xs) (append-nil (demo_code n))

pub symbols-more : (n : ℕ) → demo_symbols (n + 1) ≡ demo_symbols n ++ demo_symbol n ∷ []
symbols-more n = ap (λ (xs : List NewSymbol). text_symbol ∷ xs) (map-range_with_len_more demo_symbol 0 n n (omega arith))

text-short : (n : ℕ) → length (demo_text n) ≤ 16 * n
text-short zero = omega arith
text-short (suc n) =
    let e : suc n ≡ n + 1 = omega arith in
    let more : demo_text (suc n) ≡ demo_text n ++ demo_code n = ap demo_text e ∙ text-more n in
    let ih = text-short n in
    let one = code-short n in
    let l : length (demo_text (suc n)) ≡ length (demo_text n ++ demo_code n) = ap length more in
    omega (arith, length-append (demo_text n) (demo_code n))

-- the names of the functions
abbrev texts_of : List NewSymbol → List ℕ
texts_of xs = flat_map (λ x. name_text x.name) xs

abbrev functions : ℕ → List NewSymbol
functions n = map demo_symbol (range_with_len 0 n)

texts-more : (n : ℕ) → texts_of (functions (suc n)) ≡ texts_of (functions n) ++ ((codes "f" ++ decimal n) ++ 0 ∷ [])
texts-more n =
    let e : suc n ≡ n + 1 = omega arith in
    ap (λ (m : ℕ). texts_of (functions m)) e
    ∙ ap texts_of (map-range_with_len_more demo_symbol 0 n n (omega arith))
    ∙ flat_map-append (λ (x : NewSymbol). name_text x.name) (functions n) (demo_symbol n ∷ [])
    ∙ ap (λ (xs : List ℕ). texts_of (functions n) ++ xs) (append-nil (name_text (demo_symbol n).name) ∙ some-text 102 (decimal n))

texts-short : (n : ℕ) → n ≤ 100000 → length (texts_of (functions n)) ≤ 7 * n
texts-short zero h = omega arith
texts-short (suc n) h =
    let ih = texts-short n (omega arith) in
    let digits : length (decimal n) ≤ 5 = length-decimal-le 5 n (omega arith) (omega arith) (omega arith) in
    let l : length (texts_of (functions (suc n))) ≡ length (texts_of (functions n) ++ ((codes "f" ++ decimal n) ++ 0 ∷ [])) = ap length (texts-more n) in
    omega (arith, length-append (texts_of (functions n)) ((codes "f" ++ decimal n) ++ 0 ∷ []), length-append (codes "f" ++ decimal n) (0 ∷ []), length-append (codes "f") (decimal n))

-- they end in a zero byte
strings-last : (n : ℕ) → get_or (strings_body (demo_symbols n)) (length (strings_body (demo_symbols n)) - 1) 0 ≡ 0
strings-last zero = refl
strings-last (suc n) =
    let front : List ℕ = 0 ∷ (texts_of (functions n) ++ (codes "f" ++ decimal n)) in
    let shape : strings_body (demo_symbols (suc n)) ≡ front ++ 0 ∷ [] =
    ap (λ (xs : List ℕ). 0 ∷ xs) (texts-more n ∙ sym (append_assoc (texts_of (functions n)) (codes "f" ++ decimal n) (0 ∷ []))) in
    let l : length (front ++ 0 ∷ []) - 1 ≡ length front = omega (arith, length-append front (0 ∷ [])) in
    ap (λ (xs : List ℕ). get_or xs (length xs - 1) 0) shape
    ∙ ap (λ (k : ℕ). get_or (front ++ 0 ∷ []) k 0) l
    ∙ get_or_at front 0 [] 0 (length front) refl

-- The sections: the code, the symbol table, its string table, the names.

none-wide : (xs : List ℕ) → needs_indices (map demo_symbol xs) ≡ false
none-wide [] = refl
none-wide (x ∷ xs) = none-wide xs

none-local : (xs : List ℕ) → filter is_local (map demo_symbol xs) ≡ []
none-local [] = refl
none-local (x ∷ xs) = none-local xs

pub narrow : (n : ℕ) → needs_indices (demo_symbols n) ≡ false
narrow n = none-wide (range_with_len 0 n)

pub one-local : (n : ℕ) → length (filter is_local (demo_symbols n)) ≡ 1
one-local n = ap (λ (xs : List NewSymbol). length (text_symbol ∷ xs)) (none-local (range_with_len 0 n))

abbrev pub demo_front : ℕ → List NewEntry
demo_front n = text_section n ∷ symbols_entry (demo_spec n) ∷ strings_entry (demo_spec n) ∷ []

pub sections-are : (n : ℕ) → all_sections (demo_spec n) ≡ with_names (demo_front n)
sections-are n =
    ap (λ (b : Bool). with_names (((text_section n ∷ []) ++ (if b then symbols_entry (demo_spec n) ∷ indices_entry (demo_spec n) ∷ [] else symbols_entry (demo_spec n) ∷ [])) ++ strings_entry (demo_spec n) ∷ [])) (narrow n)

pub strings-number : (n : ℕ) → strings_number (demo_spec n) ≡ 3
strings-number n = ap (λ (b : Bool). 2 + (if b then 2 else 1)) (narrow n)

aligned : (n : ℕ) → AreAligned (with_names (demo_front n))
aligned n zero d h = omega arith
aligned n (suc zero) d h = omega arith
aligned n (suc (suc zero)) d h = omega arith
aligned n (suc (suc (suc zero))) d h = omega arith
aligned n (suc (suc (suc (suc k)))) d h = absurd (omega arith)

next-most : (a n : ℕ) → 1 ≤ a → next_multiple a n ≤ n + a
next-most a n h = grind (arith, nat_tests)

file-short : (n : ℕ) → n ≤ 100000 → length (made (demo_spec n)) < 2 ^ 32
file-short n h =
    let s : Spec = demo_spec n in
    let es : List NewEntry = with_names (demo_front n) in
    let text = text-short n in
    let strings = texts-short n h in
    let symbols = length-symbols_body (demo_symbols n) in
    let count : length (demo_symbols n) ≡ suc n = ap (λ (m : ℕ). suc m) (length-map-range_with_len demo_symbol 0 n) in
    let e1 : ℕ = next_multiple 1 64 + length (demo_text n) in
    let e2 : ℕ = next_multiple 8 e1 + length (symbols_entry s).body in
    let e3 : ℕ = next_multiple 1 e2 + length (strings_entry s).body in
    let e4 : ℕ = next_multiple 1 e3 + length (names_entry (demo_front n)).body in
    let m1 = next-most 1 64 (omega arith) in
    let m2 = next-most 8 e1 (omega arith) in
    let m3 = next-most 1 e2 (omega arith) in
    let m4 = next-most 1 e3 (omega arith) in
    let m5 = next-most 8 e4 (omega arith) in
    let names : length (names_entry (demo_front n)).body ≡ 33 = refl in
    let end : bodies_end 64 es ≡ e4 = refl in
    let place : headers_place es ≡ next_multiple 8 e4 = refl in
    let all : length (file_of es) ≡ headers_place es + 64 * (length es + 1) = length-file_of es (aligned n) in
    let made' : length (made (demo_spec n)) ≡ length (file_of es) = ap (λ (xs : List NewEntry). length (file_of xs)) (sections-are n) in
    omega arith

-- The symbols by themselves.

digits-some : (n : ℕ) → n < 2 ^ 64 → All (λ (c : ℕ). c ≢ 0) (decimal n)
digits-some n h = decimal_by_steps (λ _ ds. All (λ (c : ℕ). c ≢ 0) ds) one more n h
  where
    one : (k : ℕ) → k < 10 → All (λ (c : ℕ). c ≢ 0) ((48 + k) ∷ [])
    one k lt = all-only (λ (c : ℕ). c ≢ 0) (48 + k) (λ e. omega arith)

    more : (k : ℕ) (ds : List ℕ) → 10 ≤ k → All (λ (c : ℕ). c ≢ 0) ds → All (λ (c : ℕ). c ≢ 0) (ds ++ ((48 + k % 10) ∷ []))
    more k ds low ok = All-append (λ (c : ℕ). c ≢ 0) ds ((48 + k % 10) ∷ []) ok (all-only (λ (c : ℕ). c ≢ 0) (48 + k % 10) (λ e. omega arith))

symbol-right : (i : ℕ) → i < 100000 → IsNewSymbol (demo_symbol i)
symbol-right i h =
    record {
      name = All-append (λ (c : ℕ). c ≢ 0) (codes "f") (decimal i) (all-only (λ (c : ℕ). c ≢ 0) 102 (λ e. omega arith)) (digits-some i (omega arith));
      bind = omega arith;
      kind = omega arith;
    }

values-right : (i : ℕ) → i < 100000 → HasValues (demo_symbol i)
values-right i h =
    let text = text-short i in
    let code = code-short i in
    record { value = omega arith; size = omega arith }

all-values-right : (n : ℕ) → n ≤ 100000 → All HasValues (demo_symbols n)
all-values-right n h zero d g = record { value = omega arith; size = omega arith }
all-values-right n h (suc k) d g =
    let l = length-map-range_with_len demo_symbol 0 n in
    subst HasValues (sym (get_or-map-range_with_len demo_symbol 0 n k k d (omega arith) (omega arith))) (values-right k (omega arith))

symbols-right : (n : ℕ) → n ≤ 100000 → All IsNewSymbol (demo_symbols n)
symbols-right n h zero d g = record { name = λ k e l. absurd (omega arith); bind = omega arith; kind = omega arith }
symbols-right n h (suc k) d g =
    let l = length-map-range_with_len demo_symbol 0 n in
    subst IsNewSymbol (sym (get_or-map-range_with_len demo_symbol 0 n k k d (omega arith) (omega arith))) (symbol-right k (omega arith))

homes-right : (n : ℕ) → HaveHomes 5 (demo_symbols n)
homes-right n zero d g = (omega arith, omega arith)
homes-right n (suc k) d g =
    let l = length-map-range_with_len demo_symbol 0 n in
    subst (λ (x : NewSymbol). IsHome 5 x.home) (sym (get_or-map-range_with_len demo_symbol 0 n k k d (omega arith) (omega arith))) (omega arith, omega arith)

name-right : All (λ (c : ℕ). c ≢ 0) (codes ".text")
name-right = nonzero (codes ".text") refl

pub can-lay-out-demo : (n : ℕ) → n ≤ 100000 → CanLayOut (demo_spec n)
can-lay-out-demo n h =
    let count : length (all_sections (demo_spec n)) ≡ 4 = ap length (sections-are n) in
    record {
      parts = record {
        sections = all-only IsSection (text_section n) (record {
          name = name-right;
          align = omega arith;
          no_null = λ e. absurd (omega arith);
          no_bits = λ e. absurd (omega arith);
        });
        symbols = symbols-right n h;
        relocs = λ k d g. absurd (omega arith);
      };
      numbers = record {
        sections = all-only HasFields (text_section n) (record { kind = omega arith; flags = omega arith; link = omega arith; info = omega arith; align = omega arith; entsize = omega arith });
        symbols = all-values-right n h;
      };
      few = omega arith;
      homes = subst (λ (m : ℕ). HaveHomes (m + 1) (demo_symbols n)) (sym count) (homes-right n);
      short = file-short n h;
    }

-- The headers as they are read.

record ReadsDemo (n : ℕ) (b : List ℕ) : Type 0 where
  pub count : section_count b ≡ 5
  pub table : name_table b ≡ 4
  pub first : section_header b 0 ≡ first_header 5
  pub text : (name place : ℕ) × (section_header b 1 ≡ header_for name place (text_section n))
  pub symbols : (name place : ℕ) × (section_header b 2 ≡ header_for name place (symbols_entry (demo_spec n)))
  pub strings : (name place : ℕ) × (section_header b 3 ≡ header_for name place (strings_entry (demo_spec n))) × (part place (length (strings_body (demo_symbols n))) b ≡ strings_body (demo_symbols n))
  pub names : (name place : ℕ) × (section_header b 4 ≡ header_for name place (names_entry (demo_front n))) × (part place (length (names_entry (demo_front n)).body) b ≡ (names_entry (demo_front n)).body)

reads-demo : (n : ℕ) → CanLayOut (demo_spec n) → ReadsDemo n (made (demo_spec n))
reads-demo n can =
    let es : List NewEntry = with_names (demo_front n) in
    let space' : HasSpace es = subst HasSpace (sections-are n) (space (demo_spec n) can) in
    let o : Reads es (made (demo_spec n)) = subst (Reads es) (ap file_of (sym (sections-are n))) (reads es space') in
    record {
      count = o.count;
      table = o.table;
      first = o.first;
      text = (name_at es 0, place_at es 0, o.others 0 (omega arith));
      symbols = (name_at es 1, place_at es 1, o.others 1 (omega arith));
      strings = (name_at es 2, place_at es 2, o.others 2 (omega arith), o.body_part 2 (omega arith));
      names = (name_at es 3, place_at es 3, o.others 3 (omega arith), o.body_part 3 (omega arith));
    }

-- a section of another type than those of tables
plain-form : (b : List ℕ) (i : ℕ) (h : SectionHeader) → section_header b i ≡ h → h.kind ≤ 1 → IsPlain h → i ≢ name_table b → HasForm b i
plain-form b i h is low flat other =
    let kind : (section_header b i).kind ≡ h.kind = ap (λ (g : SectionHeader). g.kind) is in
    record {
      form = record {
        symbols = λ e. absurd (omega arith);
        indices = λ e. absurd (omega arith);
        relocs = λ e. absurd (omega arith);
        strings = λ e. absurd (omega arith);
        no_rel = λ e. absurd (omega arith);
        text = λ t. subst IsPlain (sym is) flat;
      };
      names = λ e. absurd (other e);
    }

-- a string table
string-form : (b : List ℕ) (i name place : ℕ) (e : NewEntry) → section_header b i ≡ header_for name place e → e.kind ≡ SHT_STRTAB → e.flags ≡ 0 → 1 ≤ length e.body
    → part place (length e.body) b ≡ e.body → get_or e.body (length e.body - 1) 0 ≡ 0 → HasForm b i
string-form b i name place e is k f some body last =
    let kind : (section_header b i).kind ≡ 3 = ap (λ (g : SectionHeader). g.kind) is ∙ k in
    let z : ℕ = length e.body - 1 in
    let at : place + length e.body - 1 ≡ place + z = omega arith in
    let byte : slice_index b (place + length e.body - 1) ≡ 0 =
    ap (slice_index b) at
    ∙ index-same (place + z) z b e.body (sym (part-part z 1 place (length e.body) b (omega arith)) ∙ ap (part z 1) body)
    ∙ last in
    record {
      form = record {
        symbols = λ g. absurd (omega arith);
        indices = λ g. absurd (omega arith);
        relocs = λ g. absurd (omega arith);
        strings = λ _. subst (IsStringTable b) (sym is) (record { some = λ none. omega arith; ends = byte; plain = ap (λ (x : ℕ). bit_and x SHF_COMPRESSED) f });
        no_rel = λ g. absurd (omega arith);
        text = λ t. (let t' = subst (λ (g : SectionHeader). IsTrue (is_text_header g)) is t in absurd (grind (arith, nat_tests)));
      };
      names = λ _. kind;
    }

-- the symbol table
symbols-form : (n : ℕ) (b : List ℕ) → ReadsDemo n b → HasForm b 2
symbols-form n b o =
    let is = o.symbols.2 in
    let kind : (section_header b 2).kind ≡ 2 = ap (λ (g : SectionHeader). g.kind) is in
    let l = length-symbols_body (demo_symbols n) in
    let table = o.table in
    record {
      form = record {
        symbols = λ _. record {
          entries = (ap (λ (g : SectionHeader). g.entsize) is, ap (λ (g : SectionHeader). g.size % 24) is ∙ omega arith);
          only = λ k h. before k h;
          plain = ap (λ (g : SectionHeader). bit_and g.flags SHF_COMPRESSED) is;
        };
        indices = λ g. absurd (omega arith);
        relocs = λ g. absurd (omega arith);
        strings = λ g. absurd (omega arith);
        no_rel = λ g. absurd (omega arith);
        text = λ t. (let t' = subst (λ (g : SectionHeader). IsTrue (is_text_header g)) is t in absurd cc);
      };
      names = λ e. absurd (omega arith);
    }
  where
    before : (k : ℕ) → k < 2 → (section_header b k).kind ≢ SHT_SYMTAB
    before zero h e = let g = ap (λ (x : SectionHeader). x.kind) o.first in absurd (omega arith)
    before (suc zero) h e = let g = ap (λ (x : SectionHeader). x.kind) o.text.2 in absurd (omega arith)
    before (suc (suc k)) h e = absurd (omega arith)

forms-demo : (n : ℕ) (b : List ℕ) → ReadsDemo n b → (i : ℕ) → i < 5 → HasForm b i
forms-demo n b o zero h = let t = o.table in plain-form b 0 (first_header 5) o.first (omega arith) refl (λ e. omega arith)
forms-demo n b o (suc zero) h = let t = o.table in plain-form b 1 (header_for o.text.0 o.text.1 (text_section n)) o.text.2 (omega arith) refl (λ e. omega arith)
forms-demo n b o (suc (suc zero)) h = symbols-form n b o
forms-demo n b o (suc (suc (suc zero))) h = string-form b 3 o.strings.0 o.strings.1 (strings_entry (demo_spec n)) o.strings.2 refl refl (omega arith) o.strings.3 (strings-last n)
forms-demo n b o (suc (suc (suc (suc zero)))) h = string-form b 4 o.names.0 o.names.1 (names_entry (demo_front n)) o.names.2 refl refl (omega arith) o.names.3 refl
forms-demo n b o (suc (suc (suc (suc (suc k))))) h = absurd (omega arith)

-- a section that names none
plain-links : (b : List ℕ) (i : ℕ) (k : ℕ) → (section_header b i).kind ≡ k → k ≢ 2 → k ≢ 18 → k ≢ 4 → k ≢ 17 → HasLinks b i
plain-links b i k is p q r t = record {
  symbols = λ e. absurd (p (sym is ∙ e));
  indices = λ e. absurd (q (sym is ∙ e));
  relocs = λ e. absurd (r (sym is ∙ e));
  group = λ e. absurd (t (sym is ∙ e));
}

links-demo : (n : ℕ) (b : List ℕ) → ReadsDemo n b → symbol_count b ≡ n + 2 → (i : ℕ) → i < 5 → HasLinks b i
links-demo n b o c zero h = plain-links b 0 0 (ap (λ (g : SectionHeader). g.kind) o.first) (λ e. omega arith) (λ e. omega arith) (λ e. omega arith) (λ e. omega arith)
links-demo n b o c (suc zero) h = plain-links b 1 1 (ap (λ (g : SectionHeader). g.kind) o.text.2) (λ e. omega arith) (λ e. omega arith) (λ e. omega arith) (λ e. omega arith)
links-demo n b o c (suc (suc zero)) h =
    let is = o.symbols.2 in
    let kind : (section_header b 2).kind ≡ 2 = ap (λ (g : SectionHeader). g.kind) is in
    let link : (section_header b 2).link ≡ 3 = ap (λ (g : SectionHeader). g.link) is ∙ strings-number n in
    let info : (section_header b 2).info ≡ 2 = ap (λ (g : SectionHeader). g.info) is ∙ ap (λ (m : ℕ). m + 1) (one-local n) in
    let count = o.count in
    record {
      symbols = λ _. record {
        strings = (omega arith, ap (λ (k : ℕ). (section_header b k).kind) link ∙ ap (λ (g : SectionHeader). g.kind) o.strings.2);
        boundary = record { none = λ e. absurd (omega arith); above = λ _. omega arith; within = omega arith };
      };
      indices = λ e. absurd (omega arith);
      relocs = λ e. absurd (omega arith);
      group = λ e. absurd (omega arith);
    }
links-demo n b o c (suc (suc (suc zero))) h = plain-links b 3 3 (ap (λ (g : SectionHeader). g.kind) o.strings.2) (λ e. omega arith) (λ e. omega arith) (λ e. omega arith) (λ e. omega arith)
links-demo n b o c (suc (suc (suc (suc zero)))) h = plain-links b 4 3 (ap (λ (g : SectionHeader). g.kind) o.names.2) (λ e. omega arith) (λ e. omega arith) (λ e. omega arith) (λ e. omega arith)
links-demo n b o c (suc (suc (suc (suc (suc k))))) h = absurd (omega arith)

no-relas : (n : ℕ) (b : List ℕ) → ReadsDemo n b → (i : ℕ) → i < 5 → (section_header b i).kind ≢ SHT_RELA
no-relas n b o zero h e = let k = ap (λ (g : SectionHeader). g.kind) o.first in omega arith
no-relas n b o (suc zero) h e = let k = ap (λ (g : SectionHeader). g.kind) o.text.2 in omega arith
no-relas n b o (suc (suc zero)) h e = let k = ap (λ (g : SectionHeader). g.kind) o.symbols.2 in omega arith
no-relas n b o (suc (suc (suc zero))) h e = let k = ap (λ (g : SectionHeader). g.kind) o.strings.2 in omega arith
no-relas n b o (suc (suc (suc (suc zero)))) h e = let k = ap (λ (g : SectionHeader). g.kind) o.names.2 in omega arith
no-relas n b o (suc (suc (suc (suc (suc k))))) h e = absurd (omega arith)

-- Symbols.

symbol-is : (b : List ℕ) (k : ℕ) (r : RawSymbol) → raw_symbol b k ≡ r → r.name < (string_header b).size → r.shndx < 5 → section_count b ≡ 5 → ((r.info / 16 ≡ 0) ↔ (k < (symbol_header b).info)) → IsSymbol b k
symbol-is b k r is name home count side = record {
  name = subst (λ (x : RawSymbol). x.name < (string_header b).size) (sym is) name;
  home = plain (subst (λ (x : RawSymbol). x.shndx < 0xFF00) (sym is) (omega arith)) (subst (λ (x : RawSymbol). x.shndx < section_count b) (sym is) (omega arith));
  side = subst (λ (x : RawSymbol). (x.info / 16 ≡ 0) ↔ (k < (symbol_header b).info)) (sym is) side;
}

symbols-demo : (n : ℕ) → n ≤ 100000 → (b : List ℕ) → ReadsDemo n b → ReadsSymbols (demo_spec n) b → CanLayOut (demo_spec n) → (k : ℕ) → k < n + 2 → IsSymbol b k
symbols-demo n few b o r can zero h =
    let info : (symbol_header b).info ≡ 2 = r.locals ∙ ap (λ (m : ℕ). m + 1) (one-local n) in
    let room = r.room in
    symbol-is b 0 null_raw (raw-first (demo_spec n) b r) (omega arith) (omega arith) o.count (λ _. omega arith, λ _. refl)
symbols-demo n few b o r can (suc zero) h =
    let info : (symbol_header b).info ≡ 2 = r.locals ∙ ap (λ (m : ℕ). m + 1) (one-local n) in
    let room = r.room in
    symbol-is b 1 (raw_of 0 text_symbol) (raw-other (demo_spec n) can b r 0 text_symbol (omega arith)) (omega arith) (omega arith) o.count (λ _. omega arith, λ _. refl)
symbols-demo n few b o r can (suc (suc k)) h =
    let info : (symbol_header b).info ≡ 2 = r.locals ∙ ap (λ (m : ℕ). m + 1) (one-local n) in
    let l = length-map-range_with_len demo_symbol 0 n in
    let inside : suc k < length (demo_symbols n) = omega arith in
    let at : get_or (demo_symbols n) (suc k) text_symbol ≡ demo_symbol k = get_or-map-range_with_len demo_symbol 0 n k k text_symbol (omega arith) (omega arith) in
    let name : ℕ = symbol_name (demo_symbols n) (suc k) text_symbol in
    let names = (name-back (demo_symbols n) (suc k) text_symbol inside (can.parts.symbols (suc k) text_symbol inside).name).0 in
    let room = r.room in
    symbol-is b (suc (suc k)) (raw_of name (demo_symbol k))
    (raw-other (demo_spec n) can b r (suc k) text_symbol inside ∙ ap (raw_of name) at)
    (omega arith) (omega arith) o.count (λ e. absurd (omega arith), λ e. absurd (omega arith))

little-text : (n : ℕ) → n ≤ 100000 → (b : List ℕ) → ReadsDemo n b → HasLittleText b
unfolding file_text_bytes
little-text n h b o =
    let t = text-short n in
    let t0 : text_size (section_header b 0) ≡ 0 = ap text_size o.first in
    let t1 : text_size (section_header b 1) ≡ length (demo_text n) = ap text_size o.text.2 in
    let t2 : text_size (section_header b 2) ≡ 0 = ap text_size o.symbols.2 in
    let t3 : text_size (section_header b 3) ≡ 0 = ap text_size o.strings.2 in
    let t4 : text_size (section_header b 4) ≡ 0 = ap text_size o.names.2 in
    let all : sum_by text_size (map (section_header b) (range_with_len 0 (section_count b)))
    ≡ 0 + text_size (section_header b 0) + text_size (section_header b 1) + text_size (section_header b 2) + text_size (section_header b 3) + text_size (section_header b 4)
    = ap (λ (m : ℕ). sum_by text_size (map (section_header b) (range_with_len 0 m))) o.count in
    omega arith

-- so it can be made
pub can-make-demo : (n : ℕ) → n ≤ 100000 → CanMake (demo_spec n)
can-make-demo n h =
    let s : Spec = demo_spec n in
    let b : List ℕ = made s in
    let can : CanLayOut s = can-lay-out-demo n h in
    let o : ReadsDemo n b = reads-demo n can in
    let count = o.count in
    let forms : AllBelow (HasForm b) (section_count b) = λ i g. forms-demo n b o i (omega arith) in
    let r : ReadsSymbols s b = reads-symbols s can forms in
    let l = length-map-range_with_len demo_symbol 0 n in
    let symbols : symbol_count b ≡ n + 2 = r.count ∙ omega arith in
    record {
      laid_out = can;
      forms = forms;
      links = λ i g. links-demo n b o symbols i (omega arith);
      few_symbols = omega arith;
      all_symbols = λ k g. symbols-demo n h b o r can k (omega arith);
      all_relocs = λ i g kind. absurd (no-relas n b o i (omega arith) kind);
      little_text = little-text n h b o;
    }
