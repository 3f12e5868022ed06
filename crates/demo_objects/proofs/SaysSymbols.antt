-- What the object that is made says of symbols.
use Rattle.std.proofs.Common.{◌≡◌, ◌≢◌, ℕ, zero, suc, ◌+◌, ◌*◌, ◌/◌, ◌%◌, ◌^◌, ◌<◌, ◌≤◌, Bool, true, false, not, List, [], ◌∷◌, ◌++◌, Some, length, map, take, drop, get_or, replicate, eqb, refl, sym, ap, ◌∙◌, arith, length-append, slice_index}
use Rattle.std.specs.Prelude.{All, filter, ◌==◌, if◌then◌else◌}
use Rattle.std.specs.List.{flat_map, range_with_len}
use Rattle.std.proofs.lemmas.Bool.{ne_eqb}
use Rattle.std.proofs.lemmas.Bool.Decides.{nat_tests}
use Rattle.std.proofs.lemmas.List.{append_assoc, append-nil, drop_at, get_or-map, get_or_at, length-map, length-take-le}
use Rattle.std.proofs.lemmas.List.Concat.{flat_map-append}
use Rattle.std.proofs.lemmas.List.Elements.{All-head, All-tail}
use Rattle.std.proofs.lemmas.List.Folds.{list_any_at}
use Rattle.std.proofs.lemmas.List.FromFn.{fill_by_all}
use Rattle.std.proofs.lemmas.List.Sums.{take_while-cons}
use Rattle.elf_objects.specs.Below.{AllBelow}
use Rattle.elf_objects.specs.Contents.{no_symbol, symbol_entry}
use Rattle.elf_objects.specs.Elf.{SymbolEntry}
use Rattle.elf_objects.specs.File.{section_count, section_header}
use Rattle.elf_objects.specs.Number.{half, word, xword}
use Rattle.elf_objects.specs.Sections.{HasForm}
use Rattle.elf_objects.specs.Strings.{up_to_zero}
use Rattle.elf_objects.specs.Table.{body_of, first_of_kind, header_of, home_of, index_entry, index_header, index_table, is_kind, raw_symbol, raw_symbol_at, string_at, string_header, symbol_count, symbol_header, symbol_home, symbol_table}
use Rattle.elf_objects.specs.declared.header.SectionHeader.{SectionHeader}
use Rattle.elf_objects.specs.declared.symbol.Home.{Home}
use Rattle.elf_objects.specs.declared.symbol.Home.TheVariants as home
use Rattle.elf_objects.specs.declared.symbol.RawSymbol.{RawSymbol}
use Rattle.elf_write.specs.Layout.{NewEntry, encoded, header_for}
use Rattle.elf_write.proofs.Facts.{split_at}
use Rattle.elf_write.proofs.Lists.{length-encoded}
use Rattle.elf_write.proofs.Numbers.{half-encoded, symbol-same, word-encoded, word-same, xword-encoded}
use Rattle.elf_write.proofs.Parts.{part, part-left, part-part, part-right, part-whole}
use Rattle.elf_write.proofs.Special.{body_range}
use Rattle.demo_objects.specs.CanMake.{CanLayOut, CanMake, HasValues, IsHome, IsNewSymbol}
use Rattle.demo_objects.specs.Layout.{names_entry}
use Rattle.demo_objects.specs.Made.{all_sections, index_of, indices_body, indices_entry, is_local, is_wide, made, name_place, name_text, needs_indices, no_entry, shndx_of, strings_body, strings_entry, strings_number, symbol_bytes, symbol_tables, symbols_body, symbols_entry, symbols_from, symbols_number, targets, rela_entry}
use Rattle.demo_objects.specs.Object.{said_symbol}
use Rattle.demo_objects.specs.Spec.{NewSymbol, Spec}
use Rattle.demo_objects.proofs.Can.{front_part, given_part, length-symbol_bytes, length-symbols_body, room, tables-first}
use Rattle.demo_objects.proofs.FileHeader.{next}
use Rattle.demo_objects.proofs.Placed.{entry_at, name_at, place_at}
use Rattle.demo_objects.proofs.ReadBack.{Reads, reads}
use Rattle.demo_objects.proofs.Pieces.{header-some, least-is, part-piece}
use Rattle.demo_objects.proofs.SaysSections.{empty-name}
use Rattle.demo_objects.proofs.WellFormed.{space}

-- A symbol is read back from its bytes.

-- a home whose section is one of so many
home-shndx : (count : ℕ) (h : Home) → IsHome count h → shndx_of h < 2 ^ 16
home-shndx count (home.Section i) ok = grind (arith, nat_tests)
home-shndx count home.Undefined ok = omega arith
home-shndx count home.Absolute ok = omega arith
home-shndx count home.Common ok = omega arith

home-index : (count : ℕ) (h : Home) → count ≤ 262144 → IsHome count h → index_of h < 2 ^ 32
home-index count (home.Section i) few ok = let high = ok.1 in grind (arith, nat_tests)
home-index count home.Undefined few ok = omega arith
home-index count home.Absolute few ok = omega arith
home-index count home.Common few ok = omega arith

home-back : (count : ℕ) (h : Home) (entry : ℕ) → IsHome count h → (is_wide h ≡ true → entry ≡ index_of h) → home_of (shndx_of h) entry ≡ h
home-back count (home.Section i) entry ok wide = let low = ok.0 in grind (arith, nat_tests)
home-back count home.Undefined entry ok wide = refl
home-back count home.Absolute entry ok wide = refl
home-back count home.Common entry ok wide = refl

-- a symbol as it stands in the table
abbrev pub raw_of : ℕ → NewSymbol → RawSymbol
raw_of name x = record { name = name; info = x.bind * 16 + x.kind; other = 0; shndx = shndx_of x.home; value = x.value; size = x.size }

raw-back : (count name : ℕ) (x : NewSymbol) → name < 2 ^ 32 → HasValues x → IsHome count x.home → raw_symbol_at (symbol_bytes name x) 0 ≡ raw_of name x
unfolding raw_symbol_at
raw-back count name x fits ok home =
    let b : List ℕ = symbol_bytes name x in
    let info : ℕ = x.bind * 16 + x.kind in
    let r4 : List ℕ = encoded 8 x.size ++ [] in
    let r3 : List ℕ = encoded 8 x.value ++ r4 in
    let r2 : List ℕ = encoded 2 (shndx_of x.home) ++ r3 in
    let r1 : List ℕ = info ∷ (0 ∷ r2) in
    let d0 : drop 0 b ≡ encoded 4 name ++ r1 = simp (append_assoc, append-nil) refl in
    let d4 : drop 4 b ≡ r1 = next 0 4 name b r1 d0 in
    let l4 : length (encoded 4 name) ≡ 4 = length-encoded 4 name in
    let l5 : length (encoded 4 name ++ info ∷ []) ≡ 5 = omega (arith, length-append (encoded 4 name) (info ∷ [])) in
    let e5 : b ≡ (encoded 4 name ++ info ∷ []) ++ 0 ∷ r2 = simp (append_assoc, append-nil) refl in
    let e6 : b ≡ (encoded 4 name ++ info ∷ 0 ∷ []) ++ r2 = simp (append_assoc, append-nil) refl in
    let d6 : drop 6 b ≡ r2 = ap (drop 6) e6 ∙ drop_at (encoded 4 name ++ info ∷ 0 ∷ []) r2 6 (omega (arith, length-append (encoded 4 name) (info ∷ 0 ∷ []))) in
    let d8 : drop 8 b ≡ r3 = next 6 2 (shndx_of x.home) b r3 d6 in
    let d16 : drop 16 b ≡ r4 = next 8 8 x.value b r4 d8 in
    let f0 = word-encoded b r1 0 name d0 fits in
    let f1 : slice_index b 4 ≡ info = ap (λ (xs : List ℕ). slice_index xs 4) d0 ∙ get_or_at (encoded 4 name) info (0 ∷ r2) 0 4 l4 in
    let f2 : slice_index b 5 ≡ 0 = ap (λ (xs : List ℕ). slice_index xs 5) e5 ∙ get_or_at (encoded 4 name ++ info ∷ []) 0 r2 0 5 l5 in
    let f3 = half-encoded b r3 6 (shndx_of x.home) d6 (home-shndx count x.home home) in
    let f4 = xword-encoded b r4 8 x.value d8 ok.value in
    let f5 = xword-encoded b [] 16 x.size d16 ok.size in
    rw (f0, f1, f2, f3, f4, f5) refl

zeros-back : raw_symbol_at (replicate 24 0) 0 ≡ record { name = 0; info = 0; other = 0; shndx = 0; value = 0; size = 0 }
unfolding raw_symbol_at half word xword
zeros-back = refl

-- the bytes of a symbol in the table
part-symbols : (at : ℕ) (xs : List NewSymbol) (k : ℕ) (d : NewSymbol) → k < length xs
    → part (24 * k) 24 (symbols_from at xs) ≡ symbol_bytes (name_place (at + length (flat_map (λ s. name_text s.name) (take k xs))) (get_or xs k d).name) (get_or xs k d)
part-symbols at [] k d h = absurd (omega arith)
part-symbols at (x ∷ xs) zero d h =
    let one : List ℕ = symbol_bytes (name_place at x.name) x in
    let l = length-symbol_bytes (name_place at x.name) x in
    let z : at + 0 ≡ at = omega arith in
    part-left 0 24 one (symbols_from (at + length (name_text x.name)) xs) (omega arith) ∙ part-whole 24 one l ∙ ap (λ (n : ℕ). symbol_bytes (name_place n x.name) x) (sym z)
part-symbols at (x ∷ xs) (suc k) d h =
    let one : List ℕ = symbol_bytes (name_place at x.name) x in
    let l = length-symbol_bytes (name_place at x.name) x in
    let y : NewSymbol = get_or xs k d in
    let names : List ℕ = flat_map (λ (s : NewSymbol). name_text s.name) (take k xs) in
    let e : at + length (name_text x.name) + length names ≡ at + length (name_text x.name ++ names) = omega (arith, length-append (name_text x.name) names) in
    part-right (24 * suc k) (24 * k) 24 one (symbols_from (at + length (name_text x.name)) xs) (omega arith)
    ∙ part-symbols (at + length (name_text x.name)) xs k d (omega arith)
    ∙ ap (λ (n : ℕ). symbol_bytes (name_place n y.name) y) e

-- Names.

up-whole : (xs rest : List ℕ) → All (λ (c : ℕ). c ≢ 0) xs → up_to_zero (xs ++ 0 ∷ rest) ≡ xs
unfolding up_to_zero
up-whole [] rest all = take_while-cons (λ c. not (c == 0)) 0 rest
up-whole (x ∷ xs) rest all =
    let head : x ≢ 0 = All-head (λ (c : ℕ). c ≢ 0) x xs all in
    let yes : not (x == 0) ≡ true = grind (arith, nat_tests) in
    take_while-cons (λ c. not (c == 0)) x (xs ++ 0 ∷ rest)
    ∙ rw yes (ap (λ (r : List ℕ). x ∷ r) (up-whole xs rest (All-tail (λ (c : ℕ). c ≢ 0) x xs all)))

-- where the name of a symbol begins
abbrev pub symbol_name : List NewSymbol → ℕ → NewSymbol → ℕ
symbol_name xs k d = name_place (1 + length (flat_map (λ s. name_text s.name) (take k xs))) (get_or xs k d).name

pub some-text : (c : ℕ) (cs : List ℕ) → name_text (c ∷ cs) ≡ (c ∷ cs) ++ 0 ∷ []
some-text c cs = let t : eqb (length (c ∷ cs)) 0 ≡ false = ne_eqb (length (c ∷ cs)) 0 (λ e. omega arith) in rw t refl

some-place : (at c : ℕ) (cs : List ℕ) → name_place at (c ∷ cs) ≡ at
some-place at c cs = let t : eqb (length (c ∷ cs)) 0 ≡ false = ne_eqb (length (c ∷ cs)) 0 (λ e. omega arith) in rw t refl

pub name-back : (xs : List NewSymbol) (k : ℕ) (d : NewSymbol) → k < length xs → All (λ (c : ℕ). c ≢ 0) (get_or xs k d).name
    → (symbol_name xs k d < length (strings_body xs)) × (string_at (strings_body xs) (symbol_name xs k d) ≡ (get_or xs k d).name)
unfolding string_at
name-back xs k d h all = by (get_or xs k d).name refl all
  where
    by : (name : List ℕ) → (get_or xs k d).name ≡ name → All (λ (c : ℕ). c ≢ 0) name
        → (name_place (1 + length (flat_map (λ s. name_text s.name) (take k xs))) name < length (strings_body xs))
        × (up_to_zero (drop (name_place (1 + length (flat_map (λ s. name_text s.name) (take k xs))) name) (strings_body xs)) ≡ name)
    by [] is ok = (omega arith, up-whole [] (flat_map (λ s. name_text s.name) xs) ok)
    by (c ∷ cs) is ok =
        let before : List ℕ = flat_map (λ (s : NewSymbol). name_text s.name) (take k xs) in
        let after : List ℕ = flat_map (λ (s : NewSymbol). name_text s.name) (drop (k + 1) xs) in
        let text : name_text (get_or xs k d).name ≡ (c ∷ cs) ++ 0 ∷ [] = ap name_text is ∙ some-text c cs in
        let place : name_place (1 + length before) (c ∷ cs) ≡ 1 + length before = some-place (1 + length before) c cs in
        let cut : strings_body xs ≡ (0 ∷ before) ++ ((c ∷ cs) ++ 0 ∷ after) =
        ap (λ (r : List ℕ). 0 ∷ r) (ap (flat_map (λ (s : NewSymbol). name_text s.name)) (split_at xs k d h)
        ∙ flat_map-append (λ (s : NewSymbol). name_text s.name) (take k xs) (get_or xs k d ∷ drop (k + 1) xs)
        ∙ ap (λ (t : List ℕ). before ++ (t ++ after)) text
        ∙ ap (λ (t : List ℕ). before ++ t) (append_assoc (c ∷ cs) (0 ∷ []) after)) in
        let l = ap length cut ∙ length-append (0 ∷ before) ((c ∷ cs) ++ 0 ∷ after) in
        let m = length-append (c ∷ cs) (0 ∷ after) in (
          omega arith,
          ap (λ (n : ℕ). up_to_zero (drop n (strings_body xs))) place
              ∙ ap (λ (b : List ℕ). up_to_zero (drop (1 + length before) b)) cut
              ∙ ap up_to_zero (drop_at (0 ∷ before) ((c ∷ cs) ++ 0 ∷ after) (1 + length before) (omega arith))
              ∙ up-whole (c ∷ cs) after ok,
        )

-- The tables.

-- where they stand: the symbol table behind the sections given and those of relocations
record StandsAt (es : List NewEntry) (n number : ℕ) (e : NewEntry) : Type 0 where
  pub inside : n < length es
  pub is : entry_at es n ≡ e
  pub follows : number ≡ suc n

stands : (es pre post : List NewEntry) (e : NewEntry) (number : ℕ) → es ≡ pre ++ e ∷ post → number ≡ suc (length pre) → StandsAt es (length pre) number e
stands es pre post e number shape n =
    let l = ap length shape in
    record {
      inside = omega (arith, length-append pre (e ∷ post));
      is = ap (λ (xs : List NewEntry). entry_at xs (length pre)) shape ∙ get_or_at pre e post no_entry (length pre) refl;
      follows = n;
    }

given-length : (s : Spec) → length (given_part s) ≡ length s.sections + length (targets s)
given-length s = length-append s.sections (map (rela_entry s) (targets s)) ∙ ap (λ (n : ℕ). length s.sections + n) (length-map (targets s) (rela_entry s))

symbols-stand : (s : Spec) → StandsAt (all_sections s) (length (given_part s)) (symbols_number s) (symbols_entry s)
symbols-stand s =
    let es : List NewEntry = front_part s ++ strings_entry s ∷ [] in
    let first = tables-first s in
    let l = given-length s in
    stands (all_sections s) (given_part s) (first.0 ++ strings_entry s ∷ names_entry es ∷ []) (symbols_entry s) (symbols_number s)
    (ap (λ (xs : List NewEntry). ((given_part s ++ xs) ++ strings_entry s ∷ []) ++ names_entry es ∷ []) first.1 ∙ simp append_assoc refl)
    (omega arith)

strings-stand : (s : Spec) → StandsAt (all_sections s) (length (front_part s)) (strings_number s) (strings_entry s)
strings-stand s =
    let es : List NewEntry = front_part s ++ strings_entry s ∷ [] in
    let l = given-length s in
    let t = tables-length (needs_indices s.symbols) in
    stands (all_sections s) (front_part s) (names_entry es ∷ []) (strings_entry s) (strings_number s)
    (append_assoc (front_part s) (strings_entry s ∷ []) (names_entry es ∷ []))
    (omega (arith, length-append (given_part s) (symbol_tables s)))
  where
    tables-length : (b : Bool) → (if b then 2 else 1) ≡ length (if b then symbols_entry s ∷ indices_entry s ∷ [] else symbols_entry s ∷ [])
    tables-length true = refl
    tables-length false = refl

indices-stand : (s : Spec) → needs_indices s.symbols ≡ true → StandsAt (all_sections s) (length (given_part s ++ symbols_entry s ∷ [])) (symbols_number s + 1) (indices_entry s)
indices-stand s needed =
    let es : List NewEntry = front_part s ++ strings_entry s ∷ [] in
    let l = given-length s in
    let both : symbol_tables s ≡ symbols_entry s ∷ indices_entry s ∷ [] = ap (λ (b : Bool). if b then symbols_entry s ∷ indices_entry s ∷ [] else symbols_entry s ∷ []) needed in
    stands (all_sections s) (given_part s ++ symbols_entry s ∷ []) (strings_entry s ∷ names_entry es ∷ []) (indices_entry s) (symbols_number s + 1)
    (ap (λ (xs : List NewEntry). ((given_part s ++ xs) ++ strings_entry s ∷ []) ++ names_entry es ∷ []) both ∙ simp append_assoc refl)
    (omega (arith, length-append (given_part s) (symbols_entry s ∷ [])))

-- the header of one that stands there
header-at : (es : List NewEntry) (b : List ℕ) → Reads es b → (n number : ℕ) (e : NewEntry) → StandsAt es n number e
    → section_header b number ≡ header_for (name_at es n) (place_at es n) e
header-at es b o n number e st = ap (section_header b) st.follows ∙ o.others n st.inside ∙ ap (header_for (name_at es n) (place_at es n)) st.is

-- and a part of its body
part-at : (es : List NewEntry) (b : List ℕ) → Reads es b → (n number : ℕ) (e : NewEntry) → StandsAt es n number e → (a w : ℕ) → a + w ≤ length e.body
    → part (place_at es n + a) w b ≡ part a w e.body
part-at es b o n number e st a w h =
    let body : part (place_at es n) (length e.body) b ≡ e.body =
    ap (λ (x : NewEntry). part (place_at es n) (length x.body) b) (sym st.is) ∙ o.body_part n st.inside ∙ ap (λ (x : NewEntry). x.body) st.is in
    sym (part-part a w (place_at es n) (length e.body) b h) ∙ ap (part a w) body

-- it is the first of its type where no earlier one has the type
first-at : (es : List NewEntry) (b : List ℕ) → Reads es b → (n number : ℕ) (e : NewEntry) → StandsAt es n number e
    → ((j : ℕ) → j < number → (section_header b j).kind ≢ e.kind) → first_of_kind b e.kind ≡ Some number
first-at es b o n number e st lower =
    let count = o.count in
    let i = st.inside in
    let m = st.follows in
    let kind : (section_header b number).kind ≡ e.kind = ap (λ (g : SectionHeader). g.kind) (header-at es b o n number e st) in
    least-is (is_kind b e.kind) (section_count b) number (omega arith) (grind (arith, nat_tests))
    (λ j h. ne_eqb (section_header b j).kind e.kind (lower j h))

-- what is read by them
pub record ReadsSymbols (s : Spec) (b : List ℕ) : Type 0 where
  pub table : symbol_table b ≡ Some (symbols_number s)
  pub count : symbol_count b ≡ length s.symbols + 1
  pub symbol : (k : ℕ) → k < length s.symbols + 1 → raw_symbol b k ≡ raw_symbol_at (symbols_body s.symbols) (24 * k)
  pub locals : (symbol_header b).info ≡ length (filter is_local s.symbols) + 1
  pub room : (string_header b).size ≡ length (strings_body s.symbols)
  pub strings : body_of b (string_header b) ≡ strings_body s.symbols
  pub index : needs_indices s.symbols ≡ true → (k : ℕ) → k < length s.symbols + 1 → index_entry b k ≡ word (indices_body s.symbols) (4 * k)

length-indices : (xs : List NewSymbol) → length (flat_map (λ s. encoded 4 (index_of s.home)) xs) ≡ 4 * length xs
length-indices [] = refl
length-indices (x ∷ xs) =
    let ih = length-indices xs in
    let l = length-encoded 4 (index_of x.home) in
    omega (arith, length-append (encoded 4 (index_of x.home)) (flat_map (λ (s : NewSymbol). encoded 4 (index_of s.home)) xs))

symbol-read : (b : List ℕ) (k : ℕ) → raw_symbol b k ≡ raw_symbol_at b ((symbol_header b).offset + 24 * k)
unfolding raw_symbol
symbol-read b k = refl

index-read : (b : List ℕ) (k : ℕ) → index_entry b k ≡ word b ((index_header b).offset + 4 * k)
unfolding index_entry
index-read b k = refl

count-read : (b : List ℕ) → symbol_count b ≡ (symbol_header b).size / 24
unfolding symbol_count
count-read b = refl

pub reads-symbols : (s : Spec) → CanLayOut s → AllBelow (HasForm (made s)) (section_count (made s)) → ReadsSymbols s (made s)
reads-symbols s can forms =
    let es : List NewEntry = all_sections s in
    let b : List ℕ = made s in
    let o : Reads es b = reads es (space s can) in
    let count = o.count in
    let g : ℕ = length (given_part s) in
    let f : ℕ = length (front_part s) in
    let st = symbols-stand s in
    let inside = st.inside in
    let number = st.follows in
    let own : section_header b (symbols_number s) ≡ header_for (name_at es g) (place_at es g) (symbols_entry s) = header-at es b o g (symbols_number s) (symbols_entry s) st in
    let form : HasForm b (symbols_number s) = forms (symbols_number s) (omega arith) in
    let table : symbol_table b ≡ Some (symbols_number s) = first-at es b o g (symbols_number s) (symbols_entry s) st (form.form.symbols (ap (λ (h : SectionHeader). h.kind) own)).only in
    let header : symbol_header b ≡ header_for (name_at es g) (place_at es g) (symbols_entry s) = ap (header_of b) table ∙ header-some b (symbols_number s) ∙ own in
    let l = length-symbols_body s.symbols in
    let sst = strings-stand s in
    let strings : string_header b ≡ header_for (name_at es f) (place_at es f) (strings_entry s) =
    ap (λ (h : SectionHeader). section_header b h.link) header ∙ header-at es b o f (strings_number s) (strings_entry s) sst in
    record {
      table = table;
      count = count-read b ∙ ap (λ (h : SectionHeader). h.size / 24) header ∙ omega arith;
      symbol = λ k h.
          symbol-read b k
          ∙ ap (λ (x : SectionHeader). raw_symbol_at b (x.offset + 24 * k)) header
          ∙ symbol-same (place_at es g + 24 * k) (24 * k) b (symbols_body s.symbols) (part-at es b o g (symbols_number s) (symbols_entry s) st (24 * k) 24 (omega arith));
      locals = ap (λ (h : SectionHeader). h.info) header;
      room = ap (λ (h : SectionHeader). h.size) strings;
      strings =
          ap (body_of b) strings
          ∙ body_range b (header_for (name_at es f) (place_at es f) (strings_entry s)) refl
          ∙ ap (λ (n : ℕ). part n (length (strings_body s.symbols)) b) (omega arith)
          ∙ part-at es b o f (strings_number s) (strings_entry s) sst 0 (length (strings_body s.symbols)) (omega arith)
          ∙ part-whole (length (strings_body s.symbols)) (strings_body s.symbols) refl;
      index = λ needed k h. by needed k h;
    }
  where
    by : needs_indices s.symbols ≡ true → (k : ℕ) → k < length s.symbols + 1 → index_entry (made s) k ≡ word (indices_body s.symbols) (4 * k)
    by needed k h =
        let es : List NewEntry = all_sections s in
        let b : List ℕ = made s in
        let o : Reads es b = reads es (space s can) in
        let count = o.count in
        let n : ℕ = length (given_part s ++ symbols_entry s ∷ []) in
        let st = indices-stand s needed in
        let inside = st.inside in
        let number = st.follows in
        let own : section_header b (symbols_number s + 1) ≡ header_for (name_at es n) (place_at es n) (indices_entry s) = header-at es b o n (symbols_number s + 1) (indices_entry s) st in
        let form : HasForm b (symbols_number s + 1) = forms (symbols_number s + 1) (omega arith) in
        let table : index_table b ≡ Some (symbols_number s + 1) = first-at es b o n (symbols_number s + 1) (indices_entry s) st (form.form.indices (ap (λ (h : SectionHeader). h.kind) own)).only in
        let header : index_header b ≡ header_for (name_at es n) (place_at es n) (indices_entry s) = ap (header_of b) table ∙ header-some b (symbols_number s + 1) ∙ own in
        let l = length-indices s.symbols in
        let l4 = length-encoded 4 0 in
        let all = length-append (encoded 4 0) (flat_map (λ (x : NewSymbol). encoded 4 (index_of x.home)) s.symbols) in
        index-read b k
        ∙ ap (λ (x : SectionHeader). word b (x.offset + 4 * k)) header
        ∙ word-same (place_at es n + 4 * k) (4 * k) b (indices_body s.symbols) (part-at es b o n (symbols_number s + 1) (indices_entry s) st (4 * k) 4 (omega arith))

-- a number in the table of section numbers
index-back : (xs : List NewSymbol) (k : ℕ) (d : NewSymbol) → k < length xs → index_of (get_or xs k d).home < 2 ^ 32 → word (indices_body xs) (4 * suc k) ≡ index_of (get_or xs k d).home
index-back xs k d h fits =
    let f : NewSymbol → List ℕ = λ x. encoded 4 (index_of x.home) in
    let i : ℕ = index_of (get_or xs k d).home in
    let l4 = length-encoded 4 0 in
    let w : length (f (get_or xs k d)) ≡ 4 = length-encoded 4 i in
    let t : length (flat_map f (take k xs)) ≡ 4 * k = length-indices (take k xs) ∙ ap (λ (n : ℕ). 4 * n) (length-take-le k xs (omega arith)) in
    let piece : part (4 * k) 4 (flat_map f xs) ≡ encoded 4 i =
    ap (λ (n : ℕ). part n 4 (flat_map f xs)) (sym t)
    ∙ ap (λ (n : ℕ). part (length (flat_map f (take k xs))) n (flat_map f xs)) (sym w)
    ∙ part-piece f xs k d h in
    word-same (4 * suc k) 0 (indices_body xs) (encoded 4 i)
    (part-right (4 * suc k) (4 * k) 4 (encoded 4 0) (flat_map f xs) (omega arith) ∙ piece ∙ sym (part-whole 4 (encoded 4 i) w))
    ∙ word-encoded (encoded 4 i) [] 0 i (sym (append-nil (encoded 4 i))) fits

-- The symbols.

entry-is : (b : List ℕ) (k : ℕ) (r : RawSymbol) (h : Home) (name : List ℕ) → raw_symbol b k ≡ r → home_of r.shndx (index_entry b k) ≡ h → string_at (body_of b (string_header b)) r.name ≡ name
    → symbol_entry b k ≡ record { name = name; bind = r.info / 16; kind = r.info % 16; other = r.other; home = h; value = r.value; size = r.size }
unfolding symbol_entry symbol_home
entry-is b k r h name raw home title = rw (raw, home, title) refl

-- the null symbol, and the others, as they stand there
abbrev pub null_raw : RawSymbol
null_raw = record { name = 0; info = 0; other = 0; shndx = 0; value = 0; size = 0 }

pub raw-first : (s : Spec) (b : List ℕ) → ReadsSymbols s b → raw_symbol b 0 ≡ null_raw
raw-first s b o =
    o.symbol 0 (omega arith)
    ∙ symbol-same 0 0 (symbols_body s.symbols) (replicate 24 0) (part-left 0 24 (replicate 24 0) (symbols_from 1 s.symbols) (omega arith))
    ∙ zeros-back

pub raw-other : (s : Spec) → CanLayOut s → (b : List ℕ) → ReadsSymbols s b → (k : ℕ) (d : NewSymbol) → k < length s.symbols
    → raw_symbol b (suc k) ≡ raw_of (symbol_name s.symbols k d) (get_or s.symbols k d)
raw-other s can b o k d h =
    let x : NewSymbol = get_or s.symbols k d in
    let ok : IsNewSymbol x = can.parts.symbols k d h in
    let name : ℕ = symbol_name s.symbols k d in
    let inside = (name-back s.symbols k d h ok.name).0 in
    let strings = (room s can).strings in
    o.symbol (suc k) (omega arith)
    ∙ symbol-same (24 * suc k) 0 (symbols_body s.symbols) (symbol_bytes name x)
    (part-right (24 * suc k) (24 * k) 24 (replicate 24 0) (symbols_from 1 s.symbols) (omega arith) ∙ part-symbols 1 s.symbols k d h ∙ sym (part-whole 24 (symbol_bytes name x) (length-symbol_bytes name x)))
    ∙ raw-back (length (all_sections s) + 1) name x (omega arith) (can.numbers.symbols k d h) (can.homes k d h)

symbol-first : (s : Spec) (b : List ℕ) → ReadsSymbols s b → symbol_entry b 0 ≡ no_symbol
symbol-first s b o =
    entry-is b 0 null_raw home.Undefined [] (raw-first s b o) refl
    (ap (λ (xs : List ℕ). string_at xs 0) o.strings ∙ empty-name (flat_map (λ x. name_text x.name) s.symbols))

bind-back : (bind kind : ℕ) → kind < 16 → (bind * 16 + kind) / 16 ≡ bind
bind-back bind kind h = omega arith

kind-back : (bind kind : ℕ) → kind < 16 → (bind * 16 + kind) % 16 ≡ kind
kind-back bind kind h = omega arith

symbol-other : (s : Spec) → CanMake s → (k : ℕ) (d : NewSymbol) → k < length s.symbols → symbol_entry (made s) (suc k) ≡ said_symbol (get_or s.symbols k d)
symbol-other s can k d h =
    let b : List ℕ = made s in
    let o : ReadsSymbols s b = reads-symbols s can.laid_out can.forms in
    let x : NewSymbol = get_or s.symbols k d in
    let ok : IsNewSymbol x = can.laid_out.parts.symbols k d h in
    let count : ℕ = length (all_sections s) + 1 in
    let home : IsHome count x.home = can.laid_out.homes k d h in
    let few = can.laid_out.few in
    let names = name-back s.symbols k d h ok.name in
    let name : ℕ = symbol_name s.symbols k d in
    let raw : raw_symbol b (suc k) ≡ raw_of name x = raw-other s can.laid_out b o k d h in
    let entry : is_wide x.home ≡ true → index_entry b (suc k) ≡ index_of x.home =
    λ wide. (let needed : needs_indices s.symbols ≡ true = list_any_at (λ y. is_wide y.home) s.symbols k d h wide in
    o.index needed (suc k) (omega arith) ∙ index-back s.symbols k d h (home-index count x.home (omega arith) home)) in
    let e = bind-back x.bind x.kind ok.kind in
    let f = kind-back x.bind x.kind ok.kind in
    entry-is b (suc k) (raw_of name x) x.home x.name raw (home-back count x.home (index_entry b (suc k)) home entry)
    (ap (λ (xs : List ℕ). string_at xs name) o.strings ∙ names.1)
    ∙ rw (e, f) refl

-- so the symbols are those that are told, behind the null symbol
pub says-symbols : (s : Spec) → CanMake s → (symbol_table (made s) ≡ Some (symbols_number s)) × (map (symbol_entry (made s)) (range_with_len 0 (symbol_count (made s))) ≡ no_symbol ∷ map said_symbol s.symbols)
says-symbols s can =
    let b : List ℕ = made s in
    let o : ReadsSymbols s b = reads-symbols s can.laid_out can.forms in
    let all : List SymbolEntry = no_symbol ∷ map said_symbol s.symbols in
    let n : length all ≡ length s.symbols + 1 = ap (λ (m : ℕ). suc m) (length-map s.symbols said_symbol) ∙ omega arith in (
      o.table,
      ap (λ (m : ℕ). map (symbol_entry b) (range_with_len 0 m)) o.count
          ∙ sym (fill_by_all (symbol_entry b) all (length s.symbols + 1) (symbol_entry b 0) n (λ k h. each o k h)),
    )
  where
    each : ReadsSymbols s (made s) → (k : ℕ) → k < length s.symbols + 1 → get_or (no_symbol ∷ map said_symbol s.symbols) k (symbol_entry (made s) 0) ≡ symbol_entry (made s) k
    each o zero h = sym (symbol-first s (made s) o)
    each o (suc k) h =
        let d : NewSymbol = record { name = []; bind = 0; kind = 0; home = home.Undefined; value = 0; size = 0 } in
        get_or-map said_symbol s.symbols k d (symbol_entry (made s) 0) (omega arith) ∙ sym (symbol-other s can k d (omega arith))
