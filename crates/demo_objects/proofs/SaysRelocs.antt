-- What the object that is made says of relocations.
use Rattle.std.proofs.Common.{◌≡◌, ◌≢◌, inl, inr, ℕ, zero, suc, ◌+◌, ◌-◌, ◌*◌, ◌/◌, ◌<◌, ◌≤◌, Bool, true, false, List, [], ◌∷◌, ◌++◌, Option, Some, None, length, map, take, get_or, cond, refl, sym, ap, subst, ◌∙◌, arith, length-append}
use Rattle.std.specs.Prelude.{All, filter, ◌==◌, ◌&&◌, if◌then◌else◌}
use Rattle.std.specs.List.{find, flat_map, position_or_len, range_with_len}
use Rattle.std.proofs.lemmas.Bool.{cases_lt}
use Rattle.std.proofs.lemmas.Bool.Decides.{nat_tests}
use Rattle.std.proofs.lemmas.List.{append_assoc, get_or-append_right, get_or-map, get_or_append_left, get_or_at, length-map, length-take-le}
use Rattle.std.proofs.lemmas.List.Elements.{All-append, All-filter, All-head, All-tail}
use Rattle.std.proofs.lemmas.List.Folds.{find_at}
use Rattle.std.proofs.lemmas.List.FromFn.{fill_by_all}
use Rattle.std.proofs.lemmas.List.Sums.{fails_before_first, passes_at_first}
use Rattle.std.proofs.lemmas.Option.{slice_get-get_or, slice_get_past}
use Rattle.elf_objects.specs.Below.{least_below}
use Rattle.elf_objects.specs.Contents.{relocs_of}
use Rattle.elf_objects.specs.File.{section_count, section_header}
use Rattle.elf_objects.specs.Sections.{HasLinks}
use Rattle.elf_objects.specs.Table.{header_of, is_rela_of, rela_of, reloc_at, reloc_of}
use Rattle.elf_objects.specs.declared.TheConstants.{SHT_RELA}
use Rattle.elf_objects.specs.declared.header.SectionHeader.{SectionHeader}
use Rattle.elf_objects.specs.declared.symbol.Reloc.{Reloc}
use Rattle.elf_objects.proofs.LeastBelow.{none-least_below}
use Rattle.elf_write.specs.Added.{relocs_in}
use Rattle.elf_write.specs.Layout.{NewEntry, header_for}
use Rattle.elf_write.proofs.Numbers.{reloc-same}
use Rattle.elf_write.proofs.Parts.{part, part-part, part-whole}
use Rattle.elf_write.proofs.Relocations.{reloc_is}
use Rattle.elf_write.proofs.Says.{map-same}
use Rattle.demo_objects.specs.declared.spec.RelSpec.{RelSpec}
use Rattle.demo_objects.specs.CanMake.{CanMake, IsNewReloc}
use Rattle.demo_objects.specs.Layout.{names_entry}
use Rattle.demo_objects.specs.Made.{all_sections, has_relocs, indices_entry, made, needs_indices, no_entry, rela_entry, reloc_bytes, relocs_for, strings_entry, symbol_tables, symbols_entry, targets}
use Rattle.demo_objects.specs.Object.{held_relocs, said_relocs}
use Rattle.demo_objects.specs.Spec.{Spec}
use Rattle.demo_objects.proofs.Can.{front_part, given_part}
use Rattle.demo_objects.proofs.Items.{all-only}
use Rattle.demo_objects.proofs.Placed.{entry_at, name_at, place_at}
use Rattle.demo_objects.proofs.ReadBack.{Reads, reads}
use Rattle.demo_objects.proofs.Pieces.{header-some, least-is, part-piece, reloc-back}
use Rattle.demo_objects.proofs.Targets.{filter-more, length-reloc_bytes, length-relocs_body}
use Rattle.demo_objects.proofs.WellFormed.{space}

-- Relocations by the section that holds them.

-- a section holds the relocations of the section with a number
abbrev for_section : ℕ → NewEntry → Bool
for_section sec e = (e.kind == SHT_RELA) && (e.info == sec)

rela-is : (b : List ℕ) (sec : ℕ) → rela_of b sec ≡ least_below (is_rela_of b sec) (section_count b)
unfolding rela_of
rela-is b sec = refl

relocs-is : (b : List ℕ) (sec : ℕ) (f : Option ℕ) → rela_of b sec ≡ f → relocs_of b sec ≡ map (reloc_of b (header_of b f)) (range_with_len 0 ((header_of b f).size / 24))
unfolding relocs_of
relocs-is b sec f e = rw e refl

nothing : (b : List ℕ) → map (reloc_of b (header_of b None)) (range_with_len 0 ((header_of b None).size / 24)) ≡ []
unfolding header_of
nothing b = refl

rela-first : (es : List NewEntry) (b : List ℕ) → Reads es b → (sec : ℕ) → is_rela_of b sec 0 ≡ false
rela-first es b o sec = ap (λ (g : SectionHeader). (g.kind == SHT_RELA) && (g.info == sec)) o.first

rela-other : (es : List NewEntry) (b : List ℕ) → Reads es b → (sec k : ℕ) → k < length es → is_rela_of b sec (suc k) ≡ for_section sec (entry_at es k)
rela-other es b o sec k h = ap (λ (g : SectionHeader). (g.kind == SHT_RELA) && (g.info == sec)) (o.others k h)

-- a relocation of a section is that in its body
reloc-in : (es : List NewEntry) (b : List ℕ) → Reads es b → (n k : ℕ) → n < length es → k < length (entry_at es n).body / 24
    → reloc_of b (header_for (name_at es n) (place_at es n) (entry_at es n)) k ≡ reloc_at (entry_at es n).body (24 * k)
reloc-in es b o n k h lt =
    let one : NewEntry = entry_at es n in
    reloc_is b (header_for (name_at es n) (place_at es n) one) k
    ∙ reloc-same (place_at es n + 24 * k) (24 * k) b one.body
    (sym (part-part (24 * k) 24 (place_at es n) (length one.body) b (omega arith)) ∙ ap (part (24 * k) 24) (o.body_part n h))

-- where a section is the first that holds those of a section, they are those in its body
relocs-found : (es : List NewEntry) (b : List ℕ) → Reads es b → (sec n : ℕ) → n < length es → for_section sec (entry_at es n) ≡ true
    → ((j : ℕ) → j < n → for_section sec (entry_at es j) ≡ false) → relocs_of b sec ≡ relocs_in (entry_at es n).body
relocs-found es b o sec n h passes lower =
    let one : NewEntry = entry_at es n in
    let g : SectionHeader = header_for (name_at es n) (place_at es n) one in
    let count = o.count in
    let none : (i : ℕ) → i < suc n → is_rela_of b sec i ≡ false = λ i lt. fails es b o sec n h lower i lt in
    let found : rela_of b sec ≡ Some (suc n) = rela-is b sec ∙ least-is (is_rela_of b sec) (section_count b) (suc n) (omega arith) (rela-other es b o sec n h ∙ passes) none in
    let hd : header_of b (Some (suc n)) ≡ g = header-some b (suc n) ∙ o.others n h in
    relocs-is b sec (Some (suc n)) found
    ∙ ap (λ (x : SectionHeader). map (reloc_of b x) (range_with_len 0 (x.size / 24))) hd
    ∙ map-same (reloc_of b g) (λ (k : ℕ). reloc_at one.body (24 * k)) (length one.body / 24) (reloc_at one.body 0) (λ k lt. reloc-in es b o n k h lt)
  where
    fails : (es : List NewEntry) (b : List ℕ) → Reads es b → (sec n : ℕ) → n < length es → ((j : ℕ) → j < n → for_section sec (entry_at es j) ≡ false)
        → (i : ℕ) → i < suc n → is_rela_of b sec i ≡ false
    fails es b o sec n h lower zero lt = rela-first es b o sec
    fails es b o sec n h lower (suc j) lt = rela-other es b o sec j (omega arith) ∙ lower j (omega arith)

-- where no section holds any, there are none
relocs-none : (es : List NewEntry) (b : List ℕ) → Reads es b → (sec : ℕ) → All (λ e. for_section sec e ≡ false) es → relocs_of b sec ≡ []
relocs-none es b o sec none =
    let count = o.count in
    relocs-is b sec None (rela-is b sec ∙ none-least_below (is_rela_of b sec) (section_count b) (λ i lt. fails es b o sec none i (omega arith))) ∙ nothing b
  where
    fails : (es : List NewEntry) (b : List ℕ) → Reads es b → (sec : ℕ) → All (λ e. for_section sec e ≡ false) es → (i : ℕ) → i < length es + 1 → is_rela_of b sec i ≡ false
    fails es b o sec none zero lt = rela-first es b o sec
    fails es b o sec none (suc j) lt = rela-other es b o sec j (omega arith) ∙ none j no_entry (omega arith)

-- The relocations that the spec has.

-- those of a body are those that it was made of
relocs-back : (count : ℕ) (rels : List RelSpec) (rs : List Reloc) → All (IsNewReloc count) rels → rs ≡ map (λ r. r.reloc) rels → relocs_in (flat_map reloc_bytes rs) ≡ rs
relocs-back count rels rs ok is =
    let body : List ℕ = flat_map reloc_bytes rs in
    let l = length-relocs_body rs in
    let n : length body / 24 ≡ length rs = omega arith in
    let d : Reloc = reloc_at body 0 in
    ap (λ (m : ℕ). map (λ k. reloc_at body (24 * k)) (range_with_len 0 m)) n
    ∙ sym (fill_by_all (λ (k : ℕ). reloc_at body (24 * k)) rs (length rs) d refl (λ k h. one-back k d h))
  where
    one-back : (k : ℕ) (d : Reloc) → k < length rs → get_or rs k d ≡ reloc_at (flat_map reloc_bytes rs) (24 * k)
    one-back k d h =
        let x : Reloc = get_or rs k d in
        let r : RelSpec = record { sec = 0; reloc = d } in
        let m : length rs ≡ length rels = ap length is ∙ length-map rels (λ r. r.reloc) in
        let at : x ≡ (get_or rels k r).reloc = ap (λ (xs : List Reloc). get_or xs k d) is ∙ get_or-map (λ (r : RelSpec). r.reloc) rels k r d (omega arith) in
        let t : length (flat_map reloc_bytes (take k rs)) ≡ 24 * k = length-relocs_body (take k rs) ∙ ap (λ (n : ℕ). 24 * n) (length-take-le k rs (omega arith)) in
        let w : length (reloc_bytes x) ≡ 24 = length-reloc_bytes x in
        let piece : part (24 * k) 24 (flat_map reloc_bytes rs) ≡ reloc_bytes x =
        ap (λ (n : ℕ). part n 24 (flat_map reloc_bytes rs)) (sym t)
        ∙ ap (λ (n : ℕ). part (length (flat_map reloc_bytes (take k rs))) n (flat_map reloc_bytes rs)) (sym w)
        ∙ part-piece reloc_bytes rs k d h in
        at
        ∙ sym (reloc-back count (get_or rels k r) (ok k r (omega arith)))
        ∙ ap (λ (y : Reloc). reloc_at (reloc_bytes y) 0) (sym at)
        ∙ sym (reloc-same (24 * k) 0 (flat_map reloc_bytes rs) (reloc_bytes x) (piece ∙ sym (part-whole 24 (reloc_bytes x) w)))

-- a number that passes is in the list of those that do
record IsAmong (xs : List ℕ) (x : ℕ) : Type 0 where
  pub index : ℕ
  pub inside : index < length xs
  pub is : get_or xs index 0 ≡ x

among-more : (xs ys : List ℕ) (x : ℕ) → IsAmong xs x → IsAmong (xs ++ ys) x
among-more xs ys x a =
    let i = a.inside in
    record { index = a.index; inside = omega (arith, length-append xs ys); is = get_or_append_left xs ys 0 a.index i ∙ a.is }

among : (p : ℕ → Bool) (n x : ℕ) → 1 ≤ x → x ≤ n → p x ≡ true → IsAmong (filter p (range_with_len 1 n)) x
among p zero x low high passes = absurd (omega arith)
among p (suc n) x low high passes =
    let before : List ℕ = filter p (range_with_len 1 n) in
    let e : suc n ≡ n + 1 = omega arith in
    let more : filter p (range_with_len 1 (suc n)) ≡ before ++ cond (p (1 + n)) ((1 + n) ∷ []) [] = ap (λ (m : ℕ). filter p (range_with_len 1 m)) e ∙ filter-more p n (1 + n) refl in
    subst (λ (xs : List ℕ). IsAmong xs x) (sym more) (elim (cases_lt x (1 + n)) [
      | inl lower ↦ among-more before (cond (p (1 + n)) ((1 + n) ∷ []) []) x (among p n x low (omega arith) passes)
      | inr upper ↦
          let last : 1 + n ≡ x = omega arith in
          let there : p (1 + n) ≡ true = ap p last ∙ passes in
          subst (λ (c : Bool). IsAmong (before ++ cond c ((1 + n) ∷ []) []) x) (sym there)
          (record { index = length before; inside = omega (arith, length-append before ((1 + n) ∷ [])); is = get_or_at before (1 + n) [] 0 (length before) refl ∙ last })
    ])

-- the section with the relocations of a section stands behind those given
rela-at : (s : Spec) (sec : ℕ) (a : IsAmong (targets s) sec) → entry_at (all_sections s) (length s.sections + a.index) ≡ rela_entry s sec
rela-at s sec a =
    let i = a.inside in
    let relas : List NewEntry = map (rela_entry s) (targets s) in
    let tail : List NewEntry = symbol_tables s ++ strings_entry s ∷ names_entry (front_part s ++ strings_entry s ∷ []) ∷ [] in
    let shape : all_sections s ≡ s.sections ++ (relas ++ tail) = simp append_assoc refl in
    let l : length relas ≡ length (targets s) = length-map (targets s) (rela_entry s) in
    let e : length s.sections + a.index - length s.sections ≡ a.index = omega arith in
    ap (λ (xs : List NewEntry). entry_at xs (length s.sections + a.index)) shape
    ∙ get_or-append_right s.sections (relas ++ tail) (length s.sections) (length s.sections + a.index) no_entry refl (omega arith)
    ∙ ap (λ (n : ℕ). get_or (relas ++ tail) n no_entry) e
    ∙ get_or_append_left relas tail no_entry a.index (omega arith)
    ∙ get_or-map (rela_entry s) (targets s) a.index 0 no_entry i
    ∙ ap (rela_entry s) a.is

is-for : (s : Spec) (sec : ℕ) → for_section sec (rela_entry s sec) ≡ true
is-for s sec = grind (arith, nat_tests)

is-other : (sec : ℕ) (e : NewEntry) → (e.kind ≡ SHT_RELA → e.info ≢ sec) → for_section sec e ≡ false
is-other sec e none = grind (arith, nat_tests)

-- a relocation is of a section that is given
has-known : (count : ℕ) (relocs : List RelSpec) (sec : ℕ) → All (IsNewReloc count) relocs → has_relocs relocs sec ≡ true → (1 ≤ sec) × (sec ≤ count)
has-known count [] sec ok has = absurd cc
has-known count (r ∷ rs) sec ok has = by (has-known count rs sec (All-tail (IsNewReloc count) r rs ok)) (r.sec == sec) refl
  where
    by : (has_relocs rs sec ≡ true → (1 ≤ sec) × (sec ≤ count)) → (t : Bool) → (r.sec == sec) ≡ t → (1 ≤ sec) × (sec ≤ count)
    by rest true is =
        let one : IsNewReloc count r = All-head (IsNewReloc count) r rs ok in
        let same : r.sec ≡ sec = grind (arith, nat_tests) in
        let low = one.some in
        let high = one.known in
        (omega arith, omega arith)
    by rest false other = rest (grind (arith, nat_tests))

relocs-had : (s : Spec) → CanMake s → (sec : ℕ) → has_relocs s.relocs sec ≡ true → relocs_of (made s) sec ≡ relocs_for s.relocs sec
relocs-had s can sec has =
    let es : List NewEntry = all_sections s in
    let b : List ℕ = made s in
    let o : Reads es b = reads es (space s can.laid_out) in
    let count = o.count in
    let known = has-known (length s.sections) s.relocs sec can.laid_out.parts.relocs has in
    let a : IsAmong (targets s) sec = among (has_relocs s.relocs) (length s.sections) sec known.0 known.1 has in
    let n : ℕ = length s.sections + a.index in
    let at : entry_at es n ≡ rela_entry s sec = rela-at s sec a in
    let inside : n < length es = rela-inside s sec a in
    let header : section_header b (suc n) ≡ header_for (name_at es n) (place_at es n) (rela_entry s sec) = o.others n inside ∙ ap (header_for (name_at es n) (place_at es n)) at in
    let kind : (section_header b (suc n)).kind ≡ SHT_RELA = ap (λ (g : SectionHeader). g.kind) header in
    let info : (section_header b (suc n)).info ≡ sec = ap (λ (g : SectionHeader). g.info) header in
    let links : HasLinks b (suc n) = can.links (suc n) (omega arith) in
    let only = (links.relocs kind).only in
    let lower : (j : ℕ) → j < n → for_section sec (entry_at es j) ≡ false = λ j lt.
    (let other : section_header b (suc j) ≡ header_for (name_at es j) (place_at es j) (entry_at es j) = o.others j (omega arith) in
    is-other sec (entry_at es j) (λ k same. only (suc j) (omega arith) (ap (λ (g : SectionHeader). g.kind) other ∙ k) (ap (λ (g : SectionHeader). g.info) other ∙ same ∙ sym info))) in
    relocs-found es b o sec n inside (ap (for_section sec) at ∙ is-for s sec) lower
    ∙ ap (λ (e : NewEntry). relocs_in e.body) at
    ∙ relocs-back (length s.sections) (filter (λ r. r.sec == sec) s.relocs) (relocs_for s.relocs sec) (All-filter (λ r. r.sec == sec) (IsNewReloc (length s.sections)) s.relocs can.laid_out.parts.relocs) refl
  where
    rela-inside : (s : Spec) (sec : ℕ) (a : IsAmong (targets s) sec) → length s.sections + a.index < length (all_sections s)
    rela-inside s sec a =
        let i = a.inside in
        let l = length-map (targets s) (rela_entry s) in
        omega (arith, length-append s.sections (map (rela_entry s) (targets s)), length-append (given_part s) (symbol_tables s), length-append (front_part s) (strings_entry s ∷ []), length-append (front_part s ++ strings_entry s ∷ []) (names_entry (front_part s ++ strings_entry s ∷ []) ∷ []))

-- Relocations that the spec has not.

-- those of a section given
relocs-held : (s : Spec) → CanMake s → (sec : ℕ) → position_or_len (for_section sec) s.sections < length s.sections
    → relocs_of (made s) sec ≡ relocs_in (entry_at s.sections (position_or_len (for_section sec) s.sections)).body
relocs-held s can sec h =
    let es : List NewEntry = all_sections s in
    let b : List ℕ = made s in
    let o : Reads es b = reads es (space s can.laid_out) in
    let n : ℕ = position_or_len (for_section sec) s.sections in
    let tail : List NewEntry = map (rela_entry s) (targets s) ++ (symbol_tables s ++ strings_entry s ∷ names_entry (front_part s ++ strings_entry s ∷ []) ∷ []) in
    let shape : es ≡ s.sections ++ tail = simp append_assoc refl in
    let l : length es ≡ length s.sections + length tail = ap length shape ∙ length-append s.sections tail in
    let at : (k : ℕ) → k < length s.sections → entry_at es k ≡ entry_at s.sections k = λ k lt. ap (λ (xs : List NewEntry). entry_at xs k) shape ∙ get_or_append_left s.sections tail no_entry k lt in
    relocs-found es b o sec n (omega arith) (ap (for_section sec) (at n h) ∙ passes_at_first (for_section sec) s.sections no_entry h)
    (λ j lt. ap (for_section sec) (at j (omega arith)) ∙ fails_before_first (for_section sec) s.sections j no_entry lt)
    ∙ ap (λ (e : NewEntry). relocs_in e.body) (at n h)

relas-other : (s : Spec) (sec : ℕ) → has_relocs s.relocs sec ≡ false → (xs : List ℕ) → All (λ e. for_section sec e ≡ false) (map (rela_entry s) (filter (has_relocs s.relocs) xs))
relas-other s sec without [] = λ k d h. absurd (omega arith)
relas-other s sec without (x ∷ xs) = by (relas-other s sec without xs) (has_relocs s.relocs x) refl
  where
    P : NewEntry → Type 0
    P = λ e. for_section sec e ≡ false

    by : All P (map (rela_entry s) (filter (has_relocs s.relocs) xs)) → (t : Bool) → has_relocs s.relocs x ≡ t → All P (map (rela_entry s) (cond t (x ∷ filter (has_relocs s.relocs) xs) (filter (has_relocs s.relocs) xs)))
    by rest true has =
        let differs : x ≢ sec = λ same. (let e = ap (has_relocs s.relocs) same in absurd cc) in
        All-append P (rela_entry s x ∷ []) (map (rela_entry s) (filter (has_relocs s.relocs) xs))
        (all-only P (rela_entry s x) (is-other sec (rela_entry s x) (λ _. differs))) rest
    by rest false none = rest

tables-other : (s : Spec) (sec : ℕ) → All (λ e. for_section sec e ≡ false) (symbol_tables s)
tables-other s sec = by (needs_indices s.symbols)
  where
    P : NewEntry → Type 0
    P = λ e. for_section sec e ≡ false

    by : (t : Bool) → All P (if t then symbols_entry s ∷ indices_entry s ∷ [] else symbols_entry s ∷ [])
    by true = All-append P (symbols_entry s ∷ []) (indices_entry s ∷ []) (all-only P (symbols_entry s) refl) (all-only P (indices_entry s) refl)
    by false = all-only P (symbols_entry s) refl

-- and none where none of them has any
relocs-absent : (s : Spec) → CanMake s → (sec : ℕ) → has_relocs s.relocs sec ≡ false → All (λ e. for_section sec e ≡ false) s.sections → relocs_of (made s) sec ≡ []
relocs-absent s can sec without none =
    let P : NewEntry → Type 0 = λ e. for_section sec e ≡ false in
    let init : List NewEntry = front_part s ++ strings_entry s ∷ [] in
    relocs-none (all_sections s) (made s) (reads (all_sections s) (space s can.laid_out)) sec
    (All-append P init (names_entry init ∷ [])
    (All-append P (front_part s) (strings_entry s ∷ [])
    (All-append P (given_part s) (symbol_tables s)
    (All-append P s.sections (map (rela_entry s) (targets s)) none (relas-other s sec without (range_with_len 1 (length s.sections))))
    (tables-other s sec))
    (all-only P (strings_entry s) refl))
    (all-only P (names_entry init) refl))

relocs-given : (s : Spec) → CanMake s → (sec : ℕ) → has_relocs s.relocs sec ≡ false → relocs_of (made s) sec ≡ held_relocs s.sections sec
relocs-given s can sec without =
    let p : ℕ = position_or_len (for_section sec) s.sections in
    elim (cases_lt p (length s.sections)) [
      | inl inside ↦
          let found : find (for_section sec) s.sections ≡ Some (entry_at s.sections p) = find_at (for_section sec) s.sections ∙ slice_get-get_or s.sections p no_entry inside in
          relocs-held s can sec inside ∙ rw found refl
      | inr past ↦
          let found : find (for_section sec) s.sections ≡ None = find_at (for_section sec) s.sections ∙ slice_get_past s.sections p past in
          relocs-absent s can sec without (λ k d h. fails_before_first (for_section sec) s.sections k d (omega arith)) ∙ rw found refl
    ]

-- so the relocations of a section are those that are told
pub says-relocs : (s : Spec) → CanMake s → (sec : ℕ) → relocs_of (made s) sec ≡ said_relocs s sec
says-relocs s can sec = by (has_relocs s.relocs sec) refl
  where
    by : (t : Bool) → has_relocs s.relocs sec ≡ t → relocs_of (made s) sec ≡ cond t (relocs_for s.relocs sec) (held_relocs s.sections sec)
    by true has = relocs-had s can sec has
    by false without = relocs-given s can sec without
