-- The object with the new sections is read as the object and the new sections.
use Rattle.std.proofs.Common.{◌≡◌, ◌≢◌, inl, inr, ℕ, suc, ◌+◌, ◌-◌, ◌*◌, ◌/◌, ◌<◌, ◌≤◌, List, [], ◌∷◌, ◌++◌, length, get_or, map, Bool, true, false, Option, Some, None, eqb, refl, sym, ap, ◌∙◌, arith, length-append}
use Rattle.std.specs.Prelude.{All, ◌==◌, ◌&&◌}
use Rattle.std.specs.List.{enumerate_from, find, position_or_len, range_with_len}
use Rattle.std.proofs.lemmas.Bool.{cases_eq, cases_lt, ne_eqb}
use Rattle.std.proofs.lemmas.Bool.Decides.{nat_tests}
use Rattle.std.proofs.lemmas.List.{get_or-append_right, get_or-map, get_or_append_left, get_or_past, length-map}
use Rattle.std.proofs.lemmas.List.Folds.{find_at}
use Rattle.std.proofs.lemmas.List.FromFn.{fill_by_all, get_or-enumerate_from, get_or-map-range_with_len, length-enumerate_from, length-map-range_with_len}
use Rattle.std.proofs.lemmas.List.Sums.{fails_before_first, passes_at_first}
use Rattle.std.proofs.lemmas.Option.{slice_get-get_or, slice_get_past}
use Rattle.elf_objects.specs.Below.{least_below}
use Rattle.elf_objects.specs.Contents.{elf_of, entry_of_symbol, relocs_at, relocs_of, section_entry, symbol_entry}
use Rattle.elf_objects.specs.Elf.{Elf, SectionEntry, SymbolEntry}
use Rattle.elf_objects.specs.File.{headers_at, name_table, section_count, section_header}
use Rattle.elf_objects.specs.declared.TheConstants.{SHT_RELA}
use Rattle.elf_objects.specs.Object.{IsWellFormed}
use Rattle.elf_objects.specs.Table.{body_of, header_of, is_rela_of, raw_symbol, rela_of, reloc_at, reloc_of, string_at, string_header, symbol_count, symbol_header, symbol_home, symbol_table}
use Rattle.elf_objects.specs.declared.header.SectionHeader.{SectionHeader}
use Rattle.elf_objects.specs.declared.symbol.RawSymbol.{RawSymbol}
use Rattle.elf_objects.specs.declared.symbol.Reloc.{Reloc}
use Rattle.elf_objects.proofs.LeastBelow.{least_below-some, least_below-stays, least_below-suc, none-least_below}
use Rattle.elf_write.specs.Added.{IsAddable, extended_as, new_sections, old_section, relocs_in, relocs_with}
use Rattle.elf_write.specs.Layout.{NewEntry, Input, all_names, end_of, extended, header_for, headers_place, long_count, names_place}
use Rattle.elf_write.proofs.Cases.{keeps}
use Rattle.elf_write.proofs.Contents.{raw_symbol-output, string-output, symbol_home-output, symbol_names}
use Rattle.elf_write.proofs.Facts.{Output, name_of, no_entry, place_of}
use Rattle.elf_write.proofs.Forms.{relocs_of_new}
use Rattle.elf_write.proofs.Links.{length-sections, section-at, symbol_count-output, symbol_header-output, symbol_table-output}
use Rattle.elf_write.proofs.Output.{input_at}
use Rattle.elf_write.proofs.Relocations.{reloc-new, reloc-output}
use Rattle.elf_write.proofs.Says.{entry_first, entry_names, entry_new, entry_old, get_or-new_sections, length-new_sections, map-same}
use Rattle.elf_write.proofs.Special.{least_below-further, plain-output}

-- the sections
old_section-first : (i : Input) (count : ℕ) (new : List NewEntry) (s : SectionEntry) → old_section i count new (0, s) ≡ record s { size = long_count count }
old_section-first i count new s = refl

old_section-names : (i : Input) (count : ℕ) (new : List NewEntry) (k : ℕ) (s : SectionEntry) → k ≢ 0 → k ≡ i.name_table
    → old_section i count new (k, s) ≡ record s { offset = names_place i; size = length (all_names i new); body = all_names i new }
old_section-names i count new k s x e =
    let a : eqb k 0 ≡ false = ne_eqb k 0 x in
    let c : eqb k i.name_table ≡ true = grind (arith, nat_tests) in
    rw (a, c) refl

pub old_section-other : (i : Input) (count : ℕ) (new : List NewEntry) (k : ℕ) (s : SectionEntry) → k ≢ 0 → k ≢ i.name_table
    → old_section i count new (k, s) ≡ s
old_section-other i count new k s x y =
    let a : eqb k 0 ≡ false = ne_eqb k 0 x in
    let c : eqb k i.name_table ≡ false = ne_eqb k i.name_table y in
    rw (a, c) refl

pub old_entry : (b : List ℕ) (new : List NewEntry) (q : List ℕ) (hp : ℕ) (place name : ℕ → ℕ)
    → Output b new q hp (names_place (input_at b)) (all_names (input_at b) new) place name → IsWellFormed b → (k : ℕ) → k < section_count b
    → old_section (input_at b) (section_count b + length new) new (k, section_entry b k) ≡ section_entry q k
old_entry b new q hp place name o w k h = elim (cases_eq k 0) [
  | inl zeroth ↦
      rw zeroth (sym (entry_first b new q hp (names_place (input_at b)) (all_names (input_at b) new) place name o w))
  | inr some ↦ elim (cases_eq k (name_table b)) [
    | inl names ↦
        old_section-names (input_at b) (section_count b + length new) new k (section_entry b k) some names
        ∙ rw names (sym (entry_names b new q hp (names_place (input_at b)) (all_names (input_at b) new) place name o w))
    | inr other ↦
        old_section-other (input_at b) (section_count b + length new) new k (section_entry b k) some other
        ∙ sym (entry_old b new q hp (names_place (input_at b)) (all_names (input_at b) new) place name o w k h some other)
  ]
]

sections-output : (b : List ℕ) (new : List NewEntry) (q : List ℕ) (hp : ℕ)
    → Output b new q hp (names_place (input_at b)) (all_names (input_at b) new) (place_of (input_at b) new) (name_of (input_at b) new) → IsWellFormed b
    → All (IsAddable (elf_of b) new) new
    → map (section_entry q) (range_with_len 0 (section_count b + length new))
    ≡ map (old_section (input_at b) (length (elf_of b).sections + length new) new) (enumerate_from 0 (elf_of b).sections)
    ++ new_sections (end_of (length b) (all_names (input_at b) new ∷ [])) new
sections-output b new q hp o w ok =
    let i : Input = input_at b in
    let n : ℕ = section_count b in
    let l : length (elf_of b).sections ≡ n = length-sections b in
    let d : SectionEntry = section_entry b 0 in
    let olds : List SectionEntry = map (old_section i (n + length new) new) (enumerate_from 0 (elf_of b).sections) in
    let news : List SectionEntry = new_sections (end_of (length b) (all_names i new ∷ [])) new in
    let lo : length olds ≡ n = length-map (enumerate_from 0 (elf_of b).sections) (old_section i (n + length new) new) ∙ length-enumerate_from 0 (elf_of b).sections ∙ l in
    let ln : length news ≡ length new = length-new_sections (end_of (length b) (all_names i new ∷ [])) new in
    let at : (k : ℕ) → k < n + length new → get_or (olds ++ news) k d ≡ section_entry q k =
    λ k h. elim (cases_lt k n) [
      | inl lower ↦
          let z : 0 + k ≡ k = omega arith in
          get_or_append_left olds news d k (omega arith)
          ∙ get_or-map (old_section i (n + length new) new) (enumerate_from 0 (elf_of b).sections) k (0, d) d (omega (arith, length-enumerate_from 0 (elf_of b).sections))
          ∙ ap (old_section i (n + length new) new) (get_or-enumerate_from 0 (elf_of b).sections k (0, d) (omega arith))
          ∙ ap (λ (s : SectionEntry). old_section i (n + length new) new (0 + k, s)) (section-at b k d lower)
          ∙ ap (λ (x : ℕ). old_section i (n + length new) new (x, section_entry b k)) z
          ∙ old_entry b new q hp (place_of i new) (name_of i new) o w k lower
      | inr upper ↦
          let m : ℕ = k - n in
          let split : n + m ≡ k = omega arith in
          get_or-append_right olds news n k d lo upper
          ∙ get_or-new_sections (end_of (length b) (all_names i new ∷ [])) new m d (omega arith)
          ∙ sym (entry_new b new q hp (names_place i) (all_names i new) (place_of i new) (name_of i new) o w ok m (omega arith))
          ∙ ap (section_entry q) split
    ] in
    sym (fill_by_all (section_entry q) (olds ++ news) (n + length new) d (length-append olds news ∙ omega arith) at)
    ∙ ap (λ (x : ℕ). map (old_section i (x + length new) new) (enumerate_from 0 (elf_of b).sections) ++ news) (sym l)

-- the symbols
symbol_is : (b : List ℕ) (k : ℕ) → symbol_entry b k ≡ entry_of_symbol b (raw_symbol b k) (symbol_home b k)
unfolding symbol_entry
symbol_is b k = refl

symbol_same : (b : List ℕ) (new : List NewEntry) (q : List ℕ) (hp np : ℕ) (nm : List ℕ) (place name : ℕ → ℕ)
    → Output b new q hp np nm place name → IsWellFormed b → All (IsAddable (elf_of b) new) new → (k : ℕ) → k < symbol_count b
    → symbol_entry q k ≡ symbol_entry b k
symbol_same b new q hp np nm place name o w ok k h =
    let r = raw_symbol-output b new q hp np nm place name o w ok k h in
    let home = symbol_home-output b new q hp np nm place name o w ok k h in
    let sh = symbol_header-output b new q hp np nm place name o w ok in
    let ns = symbol_names b w k h in
    let s = w.symbols k h in
    let title : string_at (body_of q (string_header q)) (raw_symbol b k).name ≡ string_at (body_of b (string_header b)) (raw_symbol b k).name =
    ap (λ (x : SectionHeader). string_at (body_of q (section_header q x.link)) (raw_symbol b k).name) sh
    ∙ string-output b new q hp np nm place name o w (symbol_header b).link (raw_symbol b k).name ns.inside ns.kind s.name in
    symbol_is q k
    ∙ ap (λ (x : RawSymbol). entry_of_symbol q x (symbol_home q k)) r
    ∙ ap (entry_of_symbol q (raw_symbol b k)) home
    ∙ rw title refl
    ∙ sym (symbol_is b k)

symbols-same : (b : List ℕ) (new : List NewEntry) (q : List ℕ) (hp np : ℕ) (nm : List ℕ) (place name : ℕ → ℕ)
    → Output b new q hp np nm place name → IsWellFormed b → All (IsAddable (elf_of b) new) new
    → map (symbol_entry q) (range_with_len 0 (symbol_count q)) ≡ map (symbol_entry b) (range_with_len 0 (symbol_count b))
symbols-same b new q hp np nm place name o w ok =
    ap (λ (n : ℕ). map (symbol_entry q) (range_with_len 0 n)) (symbol_count-output b new q hp np nm place name o w ok)
    ∙ map-same (symbol_entry q) (symbol_entry b) (symbol_count b) (symbol_entry b 0) (λ k h. symbol_same b new q hp np nm place name o w ok k h)

-- the relocations

relocs_is : (b : List ℕ) (s : ℕ) (f : Option ℕ) → rela_of b s ≡ f
    → relocs_of b s ≡ map (reloc_of b (header_of b f)) (range_with_len 0 ((header_of b f).size / 24))
unfolding relocs_of
relocs_is b s f e = rw e refl

rela_is : (b : List ℕ) (s : ℕ) → rela_of b s ≡ least_below (is_rela_of b s) (section_count b)
unfolding rela_of
rela_is b s = refl

-- the least number is the one that passes where none before does
least_below-is : (p : ℕ → Bool) (n k : ℕ) → k < n → p k ≡ true → ((j : ℕ) → j < k → p j ≡ false) → least_below p n ≡ Some k
least_below-is p n k h passes none =
    let before : least_below p k ≡ None = none-least_below p k none in
    let here : least_below p (suc k) ≡ Some k = rw (least_below-suc p k, before, passes) refl in
    let e : n - suc k + suc k ≡ n = omega arith in
    ap (least_below p) (sym e) ∙ least_below-stays p (suc k) k (n - suc k) here

-- the new section has relocations for the section with a number
abbrev pub for_section : ℕ → NewEntry → Bool
for_section s e = (e.kind == SHT_RELA) && (e.info == s)

-- no new section has any for it: they are those that it had
relocs_found : (b : List ℕ) (new : List NewEntry) (q : List ℕ) (hp np : ℕ) (nm : List ℕ) (place name : ℕ → ℕ)
    → Output b new q hp np nm place name → IsWellFormed b → (s : ℕ) → (f : Option ℕ) → rela_of b s ≡ f
    → map (reloc_of q (header_of q f)) (range_with_len 0 ((header_of q f).size / 24)) ≡ map (reloc_of b (header_of b f)) (range_with_len 0 ((header_of b f).size / 24))
unfolding header_of
relocs_found b new q hp np nm place name o w s None e = refl
relocs_found b new q hp np nm place name o w s (Some i) e =
    let l = least_below-some (is_rela_of b s) (section_count b) i (sym (rela_is b s) ∙ e) in
    let kind : (section_header b i).kind ≡ SHT_RELA = (let t = l.passes in grind (arith, nat_tests)) in
    let is : section_header q i ≡ section_header b i = plain-output b new q hp np nm place name o w i SHT_RELA l.below kind (λ x. omega arith) (λ x. omega arith) in
    ap (λ (g : SectionHeader). map (reloc_of q g) (range_with_len 0 (g.size / 24))) is
    ∙ map-same (reloc_of q (section_header b i)) (reloc_of b (section_header b i)) ((section_header b i).size / 24) (reloc_of b (section_header b i) 0)
    (λ k h. reloc-output b new q hp np nm place name o w i k l.below kind h)

is_rela_old : (b : List ℕ) (new : List NewEntry) (q : List ℕ) (hp np : ℕ) (nm : List ℕ) (place name : ℕ → ℕ)
    → Output b new q hp np nm place name → (s k : ℕ) → k < section_count b → is_rela_of q s k ≡ is_rela_of b s k
is_rela_old b new q hp np nm place name o s k h =
    let kp = keeps b new q hp np nm place name o k h in
    rw (kp.kind, kp.info) refl

is_rela_new : (b : List ℕ) (new : List NewEntry) (q : List ℕ) (hp np : ℕ) (nm : List ℕ) (place name : ℕ → ℕ)
    → Output b new q hp np nm place name → (s k : ℕ) → k < length new → is_rela_of q s (section_count b + k) ≡ for_section s (get_or new k no_entry)
is_rela_new b new q hp np nm place name o s k h =
    ap (λ (g : SectionHeader). (g.kind == SHT_RELA) && (g.info == s)) (o.added k no_entry h)

relocs_none : (b : List ℕ) (new : List NewEntry) (q : List ℕ) (hp np : ℕ) (nm : List ℕ) (place name : ℕ → ℕ)
    → Output b new q hp np nm place name → IsWellFormed b → (s : ℕ) → ((k : ℕ) → k < length new → for_section s (get_or new k no_entry) ≡ false)
    → relocs_of q s ≡ relocs_of b s
relocs_none b new q hp np nm place name o w s none =
    let same : rela_of q s ≡ rela_of b s =
    rela_is q s ∙ ap (least_below (is_rela_of q s)) o.count
    ∙ least_below-further (is_rela_of b s) (is_rela_of q s) (section_count b) (length new)
    (λ k h. is_rela_old b new q hp np nm place name o s k h)
    (λ k h. is_rela_new b new q hp np nm place name o s k h ∙ none k h)
    ∙ sym (rela_is b s) in
    relocs_is q s (rela_of b s) same
    ∙ relocs_found b new q hp np nm place name o w s (rela_of b s) refl
    ∙ sym (relocs_is b s (rela_of b s) refl)

header_some : (q : List ℕ) (i : ℕ) → header_of q (Some i) ≡ section_header q i
unfolding header_of
header_some q i = refl

entry_kind : (b : List ℕ) (k : ℕ) → (section_entry b k).kind ≡ (section_header b k).kind
unfolding section_entry
entry_kind b k = refl

entry_info : (b : List ℕ) (k : ℕ) → (section_entry b k).info ≡ (section_header b k).info
unfolding section_entry
entry_info b k = refl

no_rela : (b : List ℕ) (s j : ℕ) → ((section_header b j).kind ≡ SHT_RELA → (section_header b j).info ≢ s) → is_rela_of b s j ≡ false
no_rela b s j none = grind (arith, nat_tests)

-- a new section has them
relocs_new : (b : List ℕ) (new : List NewEntry) (q : List ℕ) (hp np : ℕ) (nm : List ℕ) (place name : ℕ → ℕ)
    → Output b new q hp np nm place name → IsWellFormed b → All (IsAddable (elf_of b) new) new → (s k : ℕ) → k < length new
    → for_section s (get_or new k no_entry) ≡ true → ((j : ℕ) → j < k → for_section s (get_or new j no_entry) ≡ false)
    → relocs_of q s ≡ relocs_in (get_or new k no_entry).body
relocs_new b new q hp np nm place name o w ok s k h passes none =
    let one : NewEntry = get_or new k no_entry in
    let g : SectionHeader = header_for (name k) (place k) one in
    let kind : one.kind ≡ SHT_RELA = grind (arith, nat_tests) in
    let info : one.info ≡ s = grind (arith, nat_tests) in
    let r = relocs_of_new (elf_of b) new one (ok k no_entry h) kind in
    let c = o.count in
    let no_old : (j : ℕ) → j < section_count b → is_rela_of b s j ≡ false = λ j lt.
    (let at : get_or (elf_of b).sections j (section_entry b 0) ≡ section_entry b j = section-at b j (section_entry b 0) lt in
    let free = r.free j (section_entry b 0) (omega (arith, length-sections b)) in
    let ek : (get_or (elf_of b).sections j (section_entry b 0)).kind ≡ (section_header b j).kind = ap (λ (x : SectionEntry). x.kind) at ∙ entry_kind b j in
    let ei : (get_or (elf_of b).sections j (section_entry b 0)).info ≡ (section_header b j).info = ap (λ (x : SectionEntry). x.info) at ∙ entry_info b j in
    no_rela b s j (λ p z. free (ek ∙ p) (ei ∙ z ∙ sym info))) in
    let found : rela_of q s ≡ Some (section_count b + k) =
    rela_is q s
    ∙ least_below-is (is_rela_of q s) (section_count q) (section_count b + k) (omega arith)
    (is_rela_new b new q hp np nm place name o s k h ∙ passes)
    (λ j lt. elim (cases_lt j (section_count b)) [
      | inl lower ↦ is_rela_old b new q hp np nm place name o s j lower ∙ no_old j lower
      | inr upper ↦
          let m : ℕ = j - section_count b in
          let split : section_count b + m ≡ j = omega arith in
          ap (is_rela_of q s) (sym split) ∙ is_rela_new b new q hp np nm place name o s m (omega arith) ∙ none m (omega arith)
    ]) in
    let hd : header_of q (Some (section_count b + k)) ≡ g = header_some q (section_count b + k) ∙ o.added k no_entry h in
    relocs_is q s (Some (section_count b + k)) found
    ∙ ap (λ (x : SectionHeader). map (reloc_of q x) (range_with_len 0 (x.size / 24))) hd
    ∙ map-same (reloc_of q g) (λ (j : ℕ). reloc_at one.body (24 * j)) (length one.body / 24) (reloc_at one.body 0)
    (λ j lt. reloc-new b new q hp np nm place name o k j h lt)

nothing : (b : List ℕ) → map (reloc_of b (header_of b None)) (range_with_len 0 ((header_of b None).size / 24)) ≡ []
unfolding header_of
nothing b = refl

-- a section that the object did not have had none
relocs_past : (b : List ℕ) → IsWellFormed b → (s : ℕ) → section_count b ≤ s → relocs_of b s ≡ []
relocs_past b w s h =
    let none : rela_of b s ≡ None =
    rela_is b s ∙ none-least_below (is_rela_of b s) (section_count b)
    (λ k lt. no_rela b s k (λ kind info. (let e = ((w.links k lt).relocs kind).exists in omega arith))) in
    relocs_is b s None none ∙ nothing b

relocs_same : (b : List ℕ) (new : List NewEntry) (q : List ℕ) (hp np : ℕ) (nm : List ℕ) (place name : ℕ → ℕ)
    → Output b new q hp np nm place name → IsWellFormed b → All (IsAddable (elf_of b) new) new → (s : ℕ)
    → relocs_of q s ≡ relocs_with (elf_of b) new s
relocs_same b new q hp np nm place name o w ok s =
    let p : ℕ = position_or_len (for_section s) new in
    elim (cases_lt p (length new)) [
      | inl inside ↦
          let found : find (for_section s) new ≡ Some (get_or new p no_entry) = find_at (for_section s) new ∙ slice_get-get_or new p no_entry inside in
          relocs_new b new q hp np nm place name o w ok s p inside
          (passes_at_first (for_section s) new no_entry inside)
          (λ j h. fails_before_first (for_section s) new j no_entry h)
          ∙ rw found refl
      | inr past ↦
          let found : find (for_section s) new ≡ None = find_at (for_section s) new ∙ slice_get_past new p past in
          let kept = relocs_none b new q hp np nm place name o w s (λ k h. fails_before_first (for_section s) new k no_entry (omega arith)) in
          let l : length (elf_of b).relocs ≡ section_count b = length-map-range_with_len (relocs_of b) 0 (section_count b) in
          elim (cases_lt s (section_count b)) [
            | inl lower ↦
                let had : relocs_at (elf_of b) s ≡ relocs_of b s = get_or-map-range_with_len (relocs_of b) 0 (section_count b) s s [] lower (omega arith) in
                kept ∙ rw (found, had) refl
            | inr upper ↦
                let had : relocs_at (elf_of b) s ≡ [] = get_or_past (elf_of b).relocs s [] (omega arith) in
                kept ∙ relocs_past b w s upper ∙ rw (found, had) refl
          ]
    ]

abbrev record_of : List ℕ → ℕ → ℕ → List SectionEntry → Option ℕ → List SymbolEntry → List (List Reloc) → Elf
record_of bytes h t ss st sy rs = record {
  bytes = bytes;
  headers_at = h;
  name_table = t;
  sections = ss;
  symbol_table = st;
  symbols = sy;
  relocs = rs;
}

same_elf : (bytes : List ℕ) (h h' t t' : ℕ) (ss ss' : List SectionEntry) (st st' : Option ℕ) (sy sy' : List SymbolEntry) (rs rs' : List (List Reloc))
    → h ≡ h' → t ≡ t' → ss ≡ ss' → st ≡ st' → sy ≡ sy' → rs ≡ rs'
    → record_of bytes h t ss st sy rs ≡ record_of bytes h' t' ss' st' sy' rs'
same_elf bytes h h' t t' ss ss' st st' sy sy' rs rs' a c d e f g = rw (a, c, d, e, f, g) refl

-- all that it says
pub says : (b : List ℕ) (new : List NewEntry)
    → Output b new (extended (input_at b) new) (headers_place (input_at b) new) (names_place (input_at b)) (all_names (input_at b) new) (place_of (input_at b) new) (name_of (input_at b) new)
    → IsWellFormed b → All (IsAddable (elf_of b) new) new
    → extended_as (input_at b) (elf_of b) new ≡ elf_of (extended (input_at b) new)
says b new o w ok =
    let i : Input = input_at b in
    let q : List ℕ = extended i new in
    let n : ℕ = section_count b + length new in
    let l : length (elf_of b).sections ≡ section_count b = length-sections b in
    let sections : map (section_entry q) (range_with_len 0 (section_count q)) ≡ (extended_as i (elf_of b) new).sections =
    ap (λ (x : ℕ). map (section_entry q) (range_with_len 0 x)) o.count
    ∙ sections-output b new q (headers_place i new) o w ok in
    let table = symbol_table-output b new q (headers_place i new) (names_place i) (all_names i new) (place_of i new) (name_of i new) o ok in
    let symbols = symbols-same b new q (headers_place i new) (names_place i) (all_names i new) (place_of i new) (name_of i new) o w ok in
    let relocs : map (relocs_of q) (range_with_len 0 (section_count q)) ≡ map (relocs_with (elf_of b) new) (range_with_len 0 (length (elf_of b).sections + length new)) =
    ap (λ (x : ℕ). map (relocs_of q) (range_with_len 0 x)) (o.count ∙ ap (λ (x : ℕ). x + length new) (sym l))
    ∙ map-same (relocs_of q) (relocs_with (elf_of b) new) (length (elf_of b).sections + length new) (relocs_of q 0)
    (λ k h. relocs_same b new q (headers_place i new) (names_place i) (all_names i new) (place_of i new) (name_of i new) o w ok k) in
    sym (same_elf q (headers_at q) (headers_place i new) (name_table q) (name_table b) _ _ (symbol_table q) (symbol_table b) _ _ _ _ o.headers o.table sections table symbols relocs)
