-- What stands where in the object with the new symbols.
use Rattle.std.proofs.Common.{◌≡◌, ◌≢◌, inl, inr, ℕ, zero, suc, ◌+◌, ◌*◌, ◌/◌, ◌<◌, ◌≤◌, ◌^◌, List, [], length, map, true, refl, sym, ap, subst, ◌∙◌, arith}
use Rattle.std.specs.Prelude.{All}
use Rattle.std.specs.List.{flat_map, range_with_len}
use Rattle.std.proofs.lemmas.Bool.{cases_eq, cases_lt}
use Rattle.std.proofs.lemmas.Bool.Decides.{nat_tests}
use Rattle.std.proofs.lemmas.List.Elements.{All-cons, All-map, All-nil, All-weaker}
use Rattle.elf_objects.specs.Contents.{elf_of, entry_of_header, section_at}
use Rattle.elf_objects.specs.Elf.{SectionEntry}
use Rattle.elf_objects.specs.File.{headers_at, section_count, section_header}
use Rattle.elf_objects.specs.Header.{has_body}
use Rattle.elf_objects.specs.Number.{xword}
use Rattle.elf_objects.specs.declared.TheConstants.{SHT_SYMTAB, SHT_RELA, SHT_GROUP, SHT_SYMTAB_SHNDX}
use Rattle.elf_objects.specs.Object.{IsWellFormed}
use Rattle.elf_objects.specs.Table.{body_of, symbol_count}
use Rattle.elf_write.specs.Layout.{encoded, written}
use Rattle.elf_write.proofs.Links.{length-sections}
use Rattle.elf_write.proofs.Lists.{length-encoded, length-written}
use Rattle.elf_write.proofs.Output.{Outside, part-outside, xword-part}
use Rattle.elf_write.proofs.Parts.{part, part-inside, part-whole}
use Rattle.elf_write.specs.declared.plan.Plan.{Plan}
use Rattle.elf_write.specs.SymbolLayout.{Change, changed, changes_of, extended, group_changes, header_changes, headers_place, joined, longer_numbers, longer_symbols, moved, number_changes, numbers_place, plan_of, reloc_change, reloc_changes, symbol_changes, symbols_place}
use Rattle.elf_write.proofs.ChangesOf.{at_header, at_rela, header_group, header_numbers, header_other, header_symtab, of}
use Rattle.elf_write.proofs.Edits.{Avoids, Fits, all-flat, length-changed, part-avoid, part-moved, part-one}
use Rattle.elf_write.proofs.Joined.{Start, joined_front, joined_header, joined_numbers, joined_symbols, length-joined, length-numbers_with, length-symbols_with, places}
use Rattle.elf_write.proofs.Known.{Lies, Numbers, lies, section_is}

-- the change is made within n bytes from `low` on
abbrev pub Within : ℕ → ℕ → Change → Type 0
Within low n c = (low ≤ c.at) × (c.at + c.width ≤ low + n)

avoid_within : (a w low n : ℕ) (c : Change) → Outside a w low n → Within low n c → Avoids a w c
avoid_within a w low n c (inl h) k = inl (omega (arith, k.0))
avoid_within a w low n c (inr h) k = inr (omega (arith, k.1))

all_avoid : (a w low n : ℕ) (cs : List Change) → Outside a w low n → All (Within low n) cs → All (Avoids a w) cs
all_avoid a w low n cs o h = All-weaker (Within low n) (Avoids a w) (λ c k. avoid_within a w low n c o k) cs h

all_fit : (low n m : ℕ) (cs : List Change) → low + n ≤ m → All (Within low n) cs → All (Fits m) cs
all_fit low n m cs h k = All-weaker (Within low n) (Fits m) (λ c x. omega (arith, x.1)) cs k

moved_within : (low n : ℕ) (cs : List Change) → All (Fits n) cs → All (Within low n) (map (moved low) cs)
moved_within low n cs h = All-map (Within low n) (moved low) cs (All-weaker (Fits n) (λ c. Within low n (moved low c)) (λ c k. (omega arith, omega arith)) cs h)

-- the changes of the relocations lie in their body
row_fits : (p : Plan) (body : List ℕ) (n a k : ℕ) → 24 * (a + k) ≤ n → All (Fits n) (map (reloc_change p body) (range_with_len a k))
row_fits p body n a zero h = All-nil (Fits n)
row_fits p body n a (suc k) h =
    let ih = row_fits p body n (a + 1) k (omega arith) in
    let one : Fits n (reloc_change p body a) = omega arith in
    All-cons (Fits n) (reloc_change p body a) (map (reloc_change p body) (range_with_len (a + 1) k)) one ih

pub relocs_fit : (p : Plan) (body : List ℕ) → All (Fits (length body)) (reloc_changes p body)
relocs_fit p body = row_fits p body (length body) 0 (length body / 24) (omega arith)

-- and those in a header in its 64 bytes
pub symbols_fit : (p : Plan) (s : SectionEntry) → All (Fits 64) (symbol_changes p s)
symbols_fit p s zero d lt = omega arith
symbols_fit p s (suc zero) d lt = omega arith
symbols_fit p s (suc (suc zero)) d lt = omega arith
symbols_fit p s (suc (suc (suc k))) d lt = absurd (omega arith)

pub numbers_fit : (p : Plan) (s : SectionEntry) → All (Fits 64) (number_changes p s)
numbers_fit p s zero d lt = omega arith
numbers_fit p s (suc zero) d lt = omega arith
numbers_fit p s (suc (suc k)) d lt = absurd (omega arith)

pub group_fits : (p : Plan) (s : SectionEntry) → All (Fits 64) (group_changes p s)
group_fits p s zero d lt = omega arith
group_fits p s (suc k) d lt = absurd (omega arith)

pub header_fits : (p : Plan) (s : SectionEntry) → All (Fits 64) (header_changes p s)
header_fits p s = elim (cases_eq s.kind SHT_SYMTAB) [
  | inl symtab ↦ rw (header_symtab p s symtab) (symbols_fit p s)
  | inr no_symtab ↦ elim (cases_eq s.kind SHT_SYMTAB_SHNDX) [
    | inl numbers ↦ rw (header_numbers p s numbers) (numbers_fit p s)
    | inr no_numbers ↦ elim (cases_eq s.kind SHT_GROUP) [
      | inl group ↦ rw (header_group p s group) (group_fits p s)
      | inr no_group ↦ rw (header_other p s no_symtab no_numbers no_group) (All-nil (Fits 64))
    ]
  ]
]

-- the record's section, with its header
abbrev pub entry : List ℕ → ℕ → SectionEntry
entry b i = entry_of_header b (section_header b i)

abbrev pub plan : List ℕ → List ℕ → Plan
plan b secs = plan_of (elf_of b) secs

pub changes_are : (b secs : List ℕ) (i : ℕ) → i < section_count b → (section_header b i).kind ≡ SHT_RELA
    → changes_of (elf_of b) (plan b secs) i ≡ map (moved (section_header b i).offset) (reloc_changes (plan b secs) (body_of b (section_header b i)))
changes_are b secs i h kind =
    of (elf_of b) (plan b secs) i (entry b i) (section_is b i h) ∙ at_rela (plan b secs) (headers_place (elf_of b) secs + 64 * i) (entry b i) kind

pub changes_in : (b secs : List ℕ) (i : ℕ) → i < section_count b → (section_header b i).kind ≢ SHT_RELA
    → changes_of (elf_of b) (plan b secs) i ≡ map (moved (headers_place (elf_of b) secs + 64 * i)) (header_changes (plan b secs) (entry b i))
changes_in b secs i h kind =
    of (elf_of b) (plan b secs) i (entry b i) (section_is b i h) ∙ at_header (plan b secs) (headers_place (elf_of b) secs + 64 * i) (entry b i) kind

-- where relocations stand
rela_lies : (b : List ℕ) → IsWellFormed b → (i : ℕ) → i < section_count b → (section_header b i).kind ≡ SHT_RELA → Lies b (section_header b i)
rela_lies b w i h kind = lies b w i h (λ z. omega arith) (λ z. omega arith)

rela_within : (b secs : List ℕ) → IsWellFormed b → (i : ℕ) → i < section_count b → (section_header b i).kind ≡ SHT_RELA
    → All (Within (section_header b i).offset (section_header b i).size) (changes_of (elf_of b) (plan b secs) i)
rela_within b secs w i h kind =
    let d = section_header b i in
    let l = rela_lies b w i h kind in
    let fit : All (Fits d.size) (reloc_changes (plan b secs) (body_of b d)) =
    subst (λ (n : ℕ). All (Fits n) (reloc_changes (plan b secs) (body_of b d))) l.size (relocs_fit (plan b secs) (body_of b d)) in
    rw (changes_are b secs i h kind) (moved_within d.offset d.size (reloc_changes (plan b secs) (body_of b d)) fit)

header_within : (b secs : List ℕ) (i : ℕ) → i < section_count b → (section_header b i).kind ≢ SHT_RELA
    → All (Within (headers_place (elf_of b) secs + 64 * i) 64) (changes_of (elf_of b) (plan b secs) i)
header_within b secs i h kind =
    rw (changes_in b secs i h kind) (moved_within (headers_place (elf_of b) secs + 64 * i) 64 (header_changes (plan b secs) (entry b i)) (header_fits (plan b secs) (entry b i)))

-- an empty body has no relocations to change
none_within : (b secs : List ℕ) → IsWellFormed b → (i : ℕ) → i < section_count b → (section_header b i).kind ≡ SHT_RELA → (section_header b i).size ≡ 0
    → changes_of (elf_of b) (plan b secs) i ≡ []
none_within b secs w i h kind none =
    let d = section_header b i in
    let l = rela_lies b w i h kind in
    let n : length (body_of b d) / 24 ≡ 0 = omega (arith, l.size, none) in
    changes_are b secs i h kind
    ∙ ap (λ (k : ℕ). map (moved d.offset) (map (reloc_change (plan b secs) (body_of b d)) (range_with_len 0 k))) n

-- w bytes from a on are those of no relocation of the section, and not in its header
pub record IsClear (b secs : List ℕ) (a w i : ℕ) : Type 0 where
  pub relocs : (section_header b i).kind ≡ SHT_RELA → 0 < (section_header b i).size → Outside a w (section_header b i).offset (section_header b i).size
  pub header : (section_header b i).kind ≢ SHT_RELA → Outside a w (headers_place (elf_of b) secs + 64 * i) 64

avoids : (b secs : List ℕ) → IsWellFormed b → (a w i : ℕ) → i < section_count b → IsClear b secs a w i
    → All (Avoids a w) (changes_of (elf_of b) (plan b secs) i)
avoids b secs well a w i h clear = elim (cases_eq (section_header b i).kind SHT_RELA) [
  | inl rela ↦ elim (cases_eq (section_header b i).size 0) [
    | inl none ↦ rw (none_within b secs well i h rela none) (All-nil (Avoids a w))
    | inr some ↦ all_avoid a w (section_header b i).offset (section_header b i).size (changes_of (elf_of b) (plan b secs) i)
        (clear.relocs rela (omega arith)) (rela_within b secs well i h rela)
  ]
  | inr other ↦ all_avoid a w (headers_place (elf_of b) secs + 64 * i) 64 (changes_of (elf_of b) (plan b secs) i)
      (clear.header other) (header_within b secs i h other)
]

-- how long the whole is
abbrev pub whole : List ℕ → List ℕ → ℕ
whole b secs = headers_place (elf_of b) secs + 64 * section_count b

fit : (b secs : List ℕ) (t : ℕ) → Start b secs t → (i : ℕ) → i < section_count b → All (Fits (whole b secs)) (changes_of (elf_of b) (plan b secs) i)
fit b secs t x i h =
    let ps = places b secs t x in
    elim (cases_eq (section_header b i).kind SHT_RELA) [
      | inl rela ↦ (let l = rela_lies b x.well i h rela in
          all_fit (section_header b i).offset (section_header b i).size (whole b secs) (changes_of (elf_of b) (plan b secs) i) (omega (arith, l.inside, ps.behind, ps.symbols)) (rela_within b secs x.well i h rela))
      | inr other ↦ all_fit (headers_place (elf_of b) secs + 64 * i) 64 (whole b secs) (changes_of (elf_of b) (plan b secs) i) (omega arith) (header_within b secs i h other)
    ]

-- the file before the sections' changes: e_shoff has been written
abbrev begun : List ℕ → List ℕ → List ℕ
begun b secs = written 40 (encoded 8 (headers_place (elf_of b) secs)) (joined (elf_of b) secs)

long : (b secs : List ℕ) (t : ℕ) → Start b secs t → 64 ≤ length b
long b secs t x = x.well.table.file_header

length-begun : (b secs : List ℕ) (t : ℕ) → Start b secs t → length (begun b secs) ≡ whole b secs
length-begun b secs t x =
    let l = length-joined b secs x.well in
    let ps = places b secs t x in
    let e = length-encoded 8 (headers_place (elf_of b) secs) in
    let file = long b secs t x in
    length-written 40 (encoded 8 (headers_place (elf_of b) secs)) (joined (elf_of b) secs) (omega (arith, ps.behind, ps.symbols)) ∙ l

abbrev steps : List ℕ → List ℕ → ℕ → List Change
steps b secs i = changes_of (elf_of b) (plan b secs) i

pub extended_is : (b secs : List ℕ)
    → extended (elf_of b) secs ≡ changed (flat_map (changes_of (elf_of b) (plan b secs)) (range_with_len 0 (section_count b))) (begun b secs)
extended_is b secs =
    ap (λ (n : ℕ). changed (flat_map (changes_of (elf_of b) (plan b secs)) (range_with_len 0 n)) (begun b secs)) (length-sections b)

pub length-extended : (b secs : List ℕ) (t : ℕ) → Start b secs t → length (extended (elf_of b) secs) ≡ whole b secs
length-extended b secs t x =
    ap length (extended_is b secs)
    ∙ length-changed (flat_map (changes_of (elf_of b) (plan b secs)) (range_with_len 0 (section_count b))) (begun b secs) (whole b secs) (length-begun b secs t x)
    (all-flat (Fits (whole b secs)) (changes_of (elf_of b) (plan b secs)) 0 (section_count b) (λ i low high. fit b secs t x i (omega arith)))

begun_part : (b secs : List ℕ) (t : ℕ) → Start b secs t → (a w : ℕ) → Outside a w 40 8 → part a w (begun b secs) ≡ part a w (joined (elf_of b) secs)
begun_part b secs t x a w o =
    let e = length-encoded 8 (headers_place (elf_of b) secs) in
    let l = length-joined b secs x.well in
    let ps = places b secs t x in
    let file = long b secs t x in
    part-outside a w 40 (encoded 8 (headers_place (elf_of b) secs)) (joined (elf_of b) secs) (subst (Outside a w 40) (sym e) o) (omega (arith, ps.behind, ps.symbols))

-- bytes that no change touches
pub untouched : (b secs : List ℕ) (t : ℕ) → Start b secs t → (a w : ℕ) → ((i : ℕ) → i < section_count b → IsClear b secs a w i)
    → part a w (extended (elf_of b) secs) ≡ part a w (begun b secs)
untouched b secs t x a w clear =
    ap (part a w) (extended_is b secs)
    ∙ part-avoid (flat_map (changes_of (elf_of b) (plan b secs)) (range_with_len 0 (section_count b))) (begun b secs) (whole b secs) a w (length-begun b secs t x)
    (all-flat (Fits (whole b secs)) (changes_of (elf_of b) (plan b secs)) 0 (section_count b) (λ i low high. fit b secs t x i (omega arith)))
    (all-flat (Avoids a w) (changes_of (elf_of b) (plan b secs)) 0 (section_count b) (λ i low high. avoids b secs x.well a w i (omega arith) (clear i (omega arith))))

-- the bytes of the input but for e_shoff and relocations are as they were
pub kept : (b secs : List ℕ) (t : ℕ) → Start b secs t → (a w : ℕ) → a + w ≤ length b → Outside a w 40 8
    → ((i : ℕ) → i < section_count b → (section_header b i).kind ≡ SHT_RELA → 0 < (section_header b i).size → Outside a w (section_header b i).offset (section_header b i).size)
    → part a w (extended (elf_of b) secs) ≡ part a w b
kept b secs t x a w h o apart =
    let ps = places b secs t x in
    untouched b secs t x a w (λ i lt. record { relocs = apart i lt; header = λ _. inl (omega (arith, ps.behind, ps.symbols)) })
    ∙ begun_part b secs t x a w o
    ∙ joined_front b secs a w h

-- e_shoff
pub place_read : (b secs : List ℕ) (t : ℕ) → Start b secs t → headers_place (elf_of b) secs < 2 ^ 32 → xword (extended (elf_of b) secs) 40 ≡ headers_place (elf_of b) secs
place_read b secs t x short =
    let e = length-encoded 8 (headers_place (elf_of b) secs) in
    let l = length-joined b secs x.well in
    let ps = places b secs t x in
    let file = long b secs t x in
    xword-part (extended (elf_of b) secs) 40 (headers_place (elf_of b) secs)
    (untouched b secs t x 40 8 (λ i lt. record {
      relocs = λ kind some. inl (let l = rela_lies b x.well i lt kind in omega (arith, l.behind some));
      header = λ _. inl (omega (arith, ps.behind, ps.symbols));
    })
    ∙ part-inside 40 0 8 40 (encoded 8 (headers_place (elf_of b) secs)) (joined (elf_of b) secs) (omega arith) (omega arith) (omega (arith, ps.behind, ps.symbols))
    ∙ part-whole 8 (encoded 8 (headers_place (elf_of b) secs)) e)
    (omega arith)

-- what stands behind the input, before the headers
table_kept : (b secs : List ℕ) (t : ℕ) → Start b secs t → (a w : ℕ) → length b ≤ a → a + w ≤ headers_place (elf_of b) secs
    → part a w (extended (elf_of b) secs) ≡ part a w (joined (elf_of b) secs)
table_kept b secs t x a w low high =
    let file = long b secs t x in
    untouched b secs t x a w (λ i lt. record {
      relocs = λ kind some. inr (let l = rela_lies b x.well i lt kind in omega (arith, l.inside));
      header = λ _. inl (omega arith);
    })
    ∙ begun_part b secs t x a w (inr (omega arith))

pub symbols_read : (b secs : List ℕ) (t : ℕ) → Start b secs t
    → part (symbols_place (elf_of b)) (24 * (symbol_count b + length secs)) (extended (elf_of b) secs) ≡ longer_symbols (elf_of b) secs
symbols_read b secs t x =
    let ps = places b secs t x in
    let l = length-symbols_with b secs t x in
    table_kept b secs t x (symbols_place (elf_of b)) (24 * (symbol_count b + length secs)) ps.behind ps.symbols
    ∙ ap (λ (n : ℕ). part (symbols_place (elf_of b)) n (joined (elf_of b) secs)) (sym l)
    ∙ joined_symbols b secs

pub numbers_read : (b secs : List ℕ) (t i : ℕ) → Start b secs t → Numbers b i
    → part (numbers_place (elf_of b) secs) (4 * (symbol_count b + length secs)) (extended (elf_of b) secs)
    ≡ longer_numbers (elf_of b) secs (section_at (elf_of b) i).body
numbers_read b secs t i x n =
    let ps = places b secs t x in
    let l = length-numbers_with b secs t i x n in
    table_kept b secs t x (numbers_place (elf_of b) secs) (4 * (symbol_count b + length secs)) (omega (arith, ps.behind, ps.further)) (ps.numbers i n)
    ∙ ap (λ (k : ℕ). part (numbers_place (elf_of b) secs) k (joined (elf_of b) secs)) (sym l)
    ∙ joined_numbers b secs i n

-- two bodies of which one is that of relocations share no byte
pub apart_bodies : (b : List ℕ) → IsWellFormed b → (i j : ℕ) → i < section_count b → j < section_count b → (section_header b i).kind ≡ SHT_RELA
    → has_body (section_header b j) ≡ true → (j ≡ i → ⊥) → 0 < (section_header b i).size → 0 < (section_header b j).size
    → Outside (section_header b i).offset (section_header b i).size (section_header b j).offset (section_header b j).size
apart_bodies b w i j h lt kind there ne si sj =
    let d = section_header b i in
    let e = section_header b j in
    let here : has_body d ≡ true = grind (arith, nat_tests) in
    let alone = ((w.bodies i h).alone kind).apart j lt ne in
    elim (cases_lt d.offset e.offset) [
      | inl lower ↦ elim (cases_lt e.offset (d.offset + d.size)) [
        | inl meets ↦ absurd (alone (e.offset, (here, omega arith, meets), (there, omega arith, omega arith)))
        | inr clear ↦ inl clear
      ]
      | inr upper ↦ elim (cases_lt d.offset (e.offset + e.size)) [
        | inl meets ↦ absurd (alone (d.offset, (here, omega arith, omega arith), (there, upper, meets)))
        | inr clear ↦ inr clear
      ]
    ]

apart_of : (b : List ℕ) → IsWellFormed b → (i j : ℕ) → i < section_count b → j < section_count b → (section_header b i).kind ≡ SHT_RELA
    → (section_header b j).kind ≡ SHT_RELA → (j ≡ i → ⊥) → 0 < (section_header b i).size → 0 < (section_header b j).size
    → Outside (section_header b i).offset (section_header b i).size (section_header b j).offset (section_header b j).size
apart_of b w i j h lt ki kj ne si sj =
    let there : has_body (section_header b j) ≡ true = grind (arith, nat_tests) in
    apart_bodies b w i j h lt ki there ne si sj

other_header : (hp i j : ℕ) → (j ≡ i → ⊥) → Outside (hp + 64 * i) 64 (hp + 64 * j) 64
other_header hp i j ne = elim (cases_lt i j) [
  | inl lower ↦ inl (omega arith)
  | inr upper ↦ elim (cases_lt j i) [
    | inl higher ↦ inr (omega arith)
    | inr same ↦ absurd (ne (omega arith))
  ]
]

-- the body of a section of relocations
pub relocs_read : (b secs : List ℕ) (t : ℕ) → Start b secs t → (i : ℕ) → i < section_count b → (section_header b i).kind ≡ SHT_RELA
    → part (section_header b i).offset (section_header b i).size (extended (elf_of b) secs)
    ≡ changed (reloc_changes (plan b secs) (body_of b (section_header b i))) (body_of b (section_header b i))
relocs_read b secs t x i h kind = elim (cases_eq (section_header b i).size 0) [
  | inl none ↦
      let d = section_header b i in
      let l = rela_lies b x.well i h kind in
      let z : body_of b d ≡ [] = l.body ∙ ap (λ (n : ℕ). part d.offset n b) none in
      ap (λ (n : ℕ). part d.offset n (extended (elf_of b) secs)) none ∙ rw z refl
  | inr some ↦
      let d = section_header b i in
      let l = rela_lies b x.well i h kind in
      let inside = l.inside in
      let ps = places b secs t x in
      let body : List ℕ = body_of b d in
      let cs : List Change = reloc_changes (plan b secs) body in
      let low = l.behind (omega arith) in
      let was : part d.offset d.size (begun b secs) ≡ body = begun_part b secs t x d.offset d.size (inr (omega arith)) ∙ joined_front b secs d.offset d.size inside ∙ sym l.body in
      let fits : All (Fits d.size) cs = subst (λ (n : ℕ). All (Fits n) cs) l.size (relocs_fit (plan b secs) body) in
      ap (part d.offset d.size) (extended_is b secs)
      ∙ part-one (changes_of (elf_of b) (plan b secs)) (begun b secs) (whole b secs) (section_count b) i d.offset d.size (length-begun b secs t x) h
      (λ j lt. fit b secs t x j lt)
      (λ j lt ne. avoids b secs x.well d.offset d.size j lt (record {
        relocs = λ jk js. apart_of b x.well i j h lt kind jk ne (omega arith) js;
        header = λ _. inl (omega (arith, ps.behind, ps.symbols));
      }))
      (changed cs body)
      (λ zs lz same. ap (λ (es : List Change). part d.offset d.size (changed es zs)) (changes_are b secs i h kind)
      ∙ part-moved cs zs (whole b secs) d.offset d.size lz (omega (arith, ps.behind, ps.symbols)) fits
      ∙ ap (changed cs) (same ∙ was))
]

-- a header
pub header_read : (b secs : List ℕ) (t : ℕ) → Start b secs t → (i : ℕ) → i < section_count b
    → part (headers_place (elf_of b) secs + 64 * i) 64 (extended (elf_of b) secs)
    ≡ changed (header_changes (plan b secs) (entry b i)) (part (headers_at b + 64 * i) 64 b)
header_read b secs t x i h =
    let hp : ℕ = headers_place (elf_of b) secs in
    let a : ℕ = hp + 64 * i in
    let ps = places b secs t x in
    let file = long b secs t x in
    let cs : List Change = header_changes (plan b secs) (entry b i) in
    let was : part a 64 (begun b secs) ≡ part (headers_at b + 64 * i) 64 b =
    begun_part b secs t x a 64 (inr (omega (arith, ps.behind, ps.symbols))) ∙ joined_header b secs (64 * i) 64 (omega arith) in
    ap (part a 64) (extended_is b secs)
    ∙ part-one (changes_of (elf_of b) (plan b secs)) (begun b secs) (whole b secs) (section_count b) i a 64 (length-begun b secs t x) h
    (λ j lt. fit b secs t x j lt)
    (λ j lt ne. avoids b secs x.well a 64 j lt (record {
      relocs = λ jk js. inr (let l = rela_lies b x.well j lt jk in omega (arith, l.inside, ps.behind, ps.symbols));
      header = λ _. other_header hp i j ne;
    }))
    (changed cs (part (headers_at b + 64 * i) 64 b))
    (λ zs lz same. elim (cases_eq (section_header b i).kind SHT_RELA) [
      | inl rela ↦
          let l = rela_lies b x.well i h rela in
          let none : cs ≡ [] = header_other (plan b secs) (entry b i) (λ z. omega arith) (λ z. omega arith) (λ z. omega arith) in
          part-avoid (changes_of (elf_of b) (plan b secs) i) zs (whole b secs) a 64 lz (fit b secs t x i h)
          (avoids b secs x.well a 64 i h (record {
            relocs = λ jk js. inr (omega (arith, l.inside, ps.behind, ps.symbols));
            header = λ no. absurd (no rela);
          }))
          ∙ same ∙ was ∙ rw none refl
      | inr other ↦ ap (λ (es : List Change). part a 64 (changed es zs)) (changes_in b secs i h other)
          ∙ part-moved cs zs (whole b secs) a 64 lz (omega arith) (header_fits (plan b secs) (entry b i))
          ∙ ap (changed cs) (same ∙ was)
    ])
