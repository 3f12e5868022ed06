-- All that the later proofs take of the bytes of the object with the new symbols.
use Rattle.std.proofs.Common.{◌≡◌, ◌≢◌, inl, inr, ℕ, ◌+◌, ◌*◌, ◌^◌, ◌<◌, ◌≤◌, List, [], ◌∷◌, length, Option, Some, None, refl, sym, ap, subst, ◌∙◌, arith}
use Rattle.std.specs.Prelude.{slice_index}
use Rattle.std.proofs.lemmas.Bool.{cases_lt}
use Rattle.std.proofs.lemmas.Bool.Decides.{nat_tests}
use Rattle.elf_objects.specs.Contents.{elf_of}
use Rattle.elf_objects.specs.File.{HasTable, headers_at, name_table, section_count, section_header, wrong_field}
use Rattle.elf_objects.specs.Header.{header_at}
use Rattle.elf_objects.specs.Number.{half, word}
use Rattle.elf_objects.specs.declared.TheConstants.{SHT_NULL, SHT_SYMTAB, SHT_GROUP, SHT_SYMTAB_SHNDX}
use Rattle.elf_objects.specs.declared.header.SectionHeader.{SectionHeader}
use Rattle.elf_objects.specs.Object.{IsWellFormed}
use Rattle.elf_objects.specs.Table.{index_table, is_kind, symbol_count}
use Rattle.elf_objects.proofs.LeastBelow.{least_below-none}
use Rattle.elf_write.proofs.Cases.{first_kind}
use Rattle.elf_write.proofs.Numbers.{half-same, header-same, index-same, word-same}
use Rattle.elf_write.proofs.Output.{Outside}
use Rattle.elf_write.proofs.Parts.{part, part-whole}
use Rattle.elf_write.specs.SymbolLayout.{changed, extended, header_changes, headers_place, renumbered, symbols_inserted}
use Rattle.elf_write.proofs.ChangesOf.{header_group, header_numbers, header_other, header_symtab}
use Rattle.elf_write.proofs.Fields.{Case, Keeps, case_of, group, header_with, keeps, numbers, other, read_group, read_numbers, read_symbols, symtab, with_group, with_numbers, with_other, with_symtab}
use Rattle.elf_write.proofs.Joined.{Base, start, Places, places}
use Rattle.elf_write.proofs.Known.{Numbers, lies, length-part, numbers_at}
use Rattle.elf_write.proofs.Regions.{entry, header_read, kept, length-extended, place_read, plan}

pub inserted_some : (b secs : List ℕ) → 0 < length secs → symbols_inserted (elf_of b) secs ≡ extended (elf_of b) secs
inserted_some b [] h = absurd (omega arith)
inserted_some b (s ∷ secs) h = refl

pub short : (b secs : List ℕ) (t : ℕ) → Base b secs t → length (extended (elf_of b) secs) < 2 ^ 32
short b secs t x = subst (λ (q : List ℕ). length q < 2 ^ 32) (inserted_some b secs x.some) x.can.short

-- a table of section numbers is the one
numbers_found : (b : List ℕ) → IsWellFormed b → (i : ℕ) → i < section_count b → (section_header b i).kind ≡ SHT_SYMTAB_SHNDX → (f : Option ℕ) → index_table b ≡ f → Numbers b i
numbers_found b w i h kind None e = (let z = least_below-none (is_kind b SHT_SYMTAB_SHNDX) (section_count b) e i h in absurd (grind (arith, nat_tests)))
numbers_found b w i h kind (Some j) e =
    let n = numbers_at b w j e in
    subst (Numbers b) (sym (n.one.only i h kind)) n

pub numbers_of_kind : (b : List ℕ) → IsWellFormed b → (i : ℕ) → i < section_count b → (section_header b i).kind ≡ SHT_SYMTAB_SHNDX → Numbers b i
numbers_of_kind b w i h kind = numbers_found b w i h kind (index_table b) refl

-- a new number is at most that much larger
pub renumbered_below : (first count k n : ℕ) → k < n → renumbered first count k < n + count
renumbered_below first count k n h = elim (cases_lt k first) [
  | inl lower ↦ grind (arith, nat_tests)
  | inr upper ↦ grind (arith, nat_tests)
]

-- the sizes on the way
pub record Sizes (b secs : List ℕ) (t : ℕ) : Type 0 where
  pub places : Places b secs t
  pub end : length (extended (elf_of b) secs) ≡ headers_place (elf_of b) secs + 64 * section_count b
  pub total : headers_place (elf_of b) secs + 64 * section_count b < 2 ^ 32
  pub few : symbol_count b + length secs < 2 ^ 32
  pub file : 64 ≤ length b

pub sizes : (b secs : List ℕ) (t : ℕ) → Base b secs t → Sizes b secs t
sizes b secs t x =
    let ps = places b secs t (start b secs t x) in
    let e = length-extended b secs t (start b secs t x) in
    let s = short b secs t x in
    record {
      places = ps;
      end = e;
      total = omega arith;
      few = omega (arith, ps.symbols);
      file = x.well.table.file_header;
    }

pub headers_read : (b secs : List ℕ) (t : ℕ) → Base b secs t → headers_at (extended (elf_of b) secs) ≡ headers_place (elf_of b) secs
headers_read b secs t x = (let s = sizes b secs t x in place_read b secs t (start b secs t x) (omega (arith, s.total)))

header_of_part : (b : List ℕ) (i : ℕ) → headers_at b + 64 * section_count b ≤ length b → i < section_count b
    → section_header b i ≡ header_at (part (headers_at b + 64 * i) 64 b) 0
unfolding section_header
header_of_part b i h lt =
    header-same (headers_at b + 64 * i) 0 b (part (headers_at b + 64 * i) 64 b)
    (sym (part-whole 64 (part (headers_at b + 64 * i) 64 b) (length-part (headers_at b + 64 * i) 64 b (omega arith))))

at_place : (b secs : List ℕ) (t : ℕ) → Base b secs t → (i : ℕ) → i < section_count b
    → section_header (extended (elf_of b) secs) i ≡ header_at (part (headers_place (elf_of b) secs + 64 * i) 64 (extended (elf_of b) secs)) 0
unfolding section_header
at_place b secs t x i h =
    let q : List ℕ = extended (elf_of b) secs in
    let hp : ℕ = headers_place (elf_of b) secs in
    let s = sizes b secs t x in
    ap (λ (a : ℕ). header_at q (a + 64 * i)) (headers_read b secs t x)
    ∙ header-same (hp + 64 * i) 0 q (part (hp + 64 * i) 64 q)
    (sym (part-whole 64 (part (hp + 64 * i) 64 q) (length-part (hp + 64 * i) 64 q (omega (arith, s.end)))))

read_header : (b secs : List ℕ) (t : ℕ) → Base b secs t → (i : ℕ) → i < section_count b → Case (section_header b i)
    → header_at (changed (header_changes (plan b secs) (entry b i)) (part (headers_at b + 64 * i) 64 b)) 0 ≡ header_with (plan b secs) (section_header b i)
read_header b secs t x i h (symtab e) =
    let p = plan b secs in
    let d = section_header b i in
    let xs : List ℕ = part (headers_at b + 64 * i) 64 b in
    let ps = sizes b secs t x in
    let l : length xs ≡ 64 = length-part (headers_at b + 64 * i) 64 b (omega (arith, x.well.table.headers)) in
    let was : header_at xs 0 ≡ d = sym (header_of_part b i x.well.table.headers h) in
    let same : i ≡ t = x.symbols.one.only i h e in
    let size : d.size ≡ 24 * symbol_count b = ap (λ (k : ℕ). (section_header b k).size) same ∙ x.symbols.size in
    let info : d.info ≡ (section_header b t).info = ap (λ (k : ℕ). (section_header b k).info) same in
    ap (λ (cs : List _). header_at (changed cs xs) 0) (header_symtab p (entry b i) e)
    ∙ read_symbols p (entry b i) xs l (omega (arith, ps.places.symbols, ps.total)) (omega (arith, ps.places.symbols, ps.total)) (omega (arith, x.symbols.high, ps.few))
    ∙ ap (λ (g : SectionHeader). record g { offset = p.symbols_at; size = d.size + 24 * p.count; info = d.info + p.count }) was
    ∙ sym (with_symtab p d e)
read_header b secs t x i h (numbers e) =
    let p = plan b secs in
    let d = section_header b i in
    let xs : List ℕ = part (headers_at b + 64 * i) 64 b in
    let ps = sizes b secs t x in
    let l : length xs ≡ 64 = length-part (headers_at b + 64 * i) 64 b (omega (arith, x.well.table.headers)) in
    let was : header_at xs 0 ≡ d = sym (header_of_part b i x.well.table.headers h) in
    let n = numbers_of_kind b x.well i h e in
    let place = ps.places.numbers i n in
    let size = n.size in
    ap (λ (cs : List _). header_at (changed cs xs) 0) (header_numbers p (entry b i) e)
    ∙ read_numbers p (entry b i) xs l (omega (arith, ps.total)) (omega (arith, ps.total))
    ∙ ap (λ (g : SectionHeader). record g { offset = p.numbers_at; size = d.size + 4 * p.count }) was
    ∙ sym (with_numbers p d e)
read_header b secs t x i h (group e) =
    let p = plan b secs in
    let d = section_header b i in
    let xs : List ℕ = part (headers_at b + 64 * i) 64 b in
    let ps = sizes b secs t x in
    let l : length xs ≡ 64 = length-part (headers_at b + 64 * i) 64 b (omega (arith, x.well.table.headers)) in
    let was : header_at xs 0 ≡ d = sym (header_of_part b i x.well.table.headers h) in
    let signature = ((x.well.links i h).group e).signature in
    let below = renumbered_below p.locals p.count d.info (symbol_count b) signature in
    ap (λ (cs : List _). header_at (changed cs xs) 0) (header_group p (entry b i) e)
    ∙ read_group p (entry b i) xs l (omega (arith, ps.few))
    ∙ ap (λ (g : SectionHeader). record g { info = renumbered p.locals p.count d.info }) was
    ∙ sym (with_group p d e)
read_header b secs t x i h (other a c d) =
    let p = plan b secs in
    ap (λ (cs : List _). header_at (changed cs (part (headers_at b + 64 * i) 64 b)) 0) (header_other p (entry b i) a c d)
    ∙ sym (header_of_part b i x.well.table.headers h)
    ∙ sym (with_other p (section_header b i) a c d)

-- each header is as it was, but for what the changes wrote
pub header : (b secs : List ℕ) (t : ℕ) → Base b secs t → (i : ℕ) → i < section_count b
    → section_header (extended (elf_of b) secs) i ≡ header_with (plan b secs) (section_header b i)
header b secs t x i h =
    at_place b secs t x i h
    ∙ ap (λ (xs : List ℕ). header_at xs 0) (header_read b secs t (start b secs t x) i h)
    ∙ read_header b secs t x i h (case_of (section_header b i))

pub keep : (b secs : List ℕ) (t : ℕ) → Base b secs t → (i : ℕ) → i < section_count b
    → Keeps (section_header b i) (section_header (extended (elf_of b) secs) i)
keep b secs t x i h = rw (header b secs t x i h) (keeps (plan b secs) (section_header b i) (case_of (section_header b i)))

-- one that is none of the tables and no group
pub same_header : (b secs : List ℕ) (t : ℕ) → Base b secs t → (i kind : ℕ) → i < section_count b → (section_header b i).kind ≡ kind
    → kind ≢ SHT_SYMTAB → kind ≢ SHT_SYMTAB_SHNDX → kind ≢ SHT_GROUP → section_header (extended (elf_of b) secs) i ≡ section_header b i
same_header b secs t x i kind h e a c d =
    header b secs t x i h ∙ with_other (plan b secs) (section_header b i) (λ z. a (sym e ∙ z)) (λ z. c (sym e ∙ z)) (λ z. d (sym e ∙ z))

-- the file header
front : (b secs : List ℕ) (t : ℕ) → Base b secs t → (a w : ℕ) → a + w ≤ 64 → Outside a w 40 8
    → part a w (extended (elf_of b) secs) ≡ part a w b
front b secs t x a w h o =
    let s = sizes b secs t x in
    kept b secs t (start b secs t x) a w (omega (arith, s.file)) o
    (λ i lt kind some. inl (let l = lies b x.well i lt (λ z. omega arith) (λ z. omega arith) in omega (arith, l.behind some)))

pub target : (b secs : List ℕ) (t : ℕ) → Base b secs t → wrong_field (extended (elf_of b) secs) ≡ wrong_field b
unfolding wrong_field
target b secs t x =
    let q : List ℕ = extended (elf_of b) secs in
    let f0 : slice_index q 0 ≡ slice_index b 0 = index-same 0 0 q b (front b secs t x 0 1 (omega arith) (inl (omega arith))) in
    let f1 : slice_index q 1 ≡ slice_index b 1 = index-same 1 1 q b (front b secs t x 1 1 (omega arith) (inl (omega arith))) in
    let f2 : slice_index q 2 ≡ slice_index b 2 = index-same 2 2 q b (front b secs t x 2 1 (omega arith) (inl (omega arith))) in
    let f3 : slice_index q 3 ≡ slice_index b 3 = index-same 3 3 q b (front b secs t x 3 1 (omega arith) (inl (omega arith))) in
    let f4 : slice_index q 4 ≡ slice_index b 4 = index-same 4 4 q b (front b secs t x 4 1 (omega arith) (inl (omega arith))) in
    let f5 : slice_index q 5 ≡ slice_index b 5 = index-same 5 5 q b (front b secs t x 5 1 (omega arith) (inl (omega arith))) in
    let f6 : slice_index q 6 ≡ slice_index b 6 = index-same 6 6 q b (front b secs t x 6 1 (omega arith) (inl (omega arith))) in
    let f7 : half q 16 ≡ half b 16 = half-same 16 16 q b (front b secs t x 16 2 (omega arith) (inl (omega arith))) in
    let f8 : half q 18 ≡ half b 18 = half-same 18 18 q b (front b secs t x 18 2 (omega arith) (inl (omega arith))) in
    let f9 : word q 20 ≡ word b 20 = word-same 20 20 q b (front b secs t x 20 4 (omega arith) (inl (omega arith))) in
    let f10 : half q 52 ≡ half b 52 = half-same 52 52 q b (front b secs t x 52 2 (omega arith) (inr (omega arith))) in
    let f11 : half q 58 ≡ half b 58 = half-same 58 58 q b (front b secs t x 58 2 (omega arith) (inr (omega arith))) in
    rw (f0, f1, f2, f3, f4, f5, f6, f7, f8, f9, f10, f11) refl

first_at : (b : List ℕ) → section_header b 0 ≡ header_at b (headers_at b)
unfolding section_header
first_at b = ap (header_at b) (omega arith)

pub shnum_read : (b secs : List ℕ) (t : ℕ) → Base b secs t → half (extended (elf_of b) secs) 60 ≡ half b 60
shnum_read b secs t x = half-same 60 60 (extended (elf_of b) secs) b (front b secs t x 60 2 (omega arith) (inr (omega arith)))

pub shstrndx_read : (b secs : List ℕ) (t : ℕ) → Base b secs t → half (extended (elf_of b) secs) 62 ≡ half b 62
shstrndx_read b secs t x = half-same 62 62 (extended (elf_of b) secs) b (front b secs t x 62 2 (omega arith) (inr (omega arith)))

first_same : (b secs : List ℕ) (t : ℕ) → Base b secs t
    → header_at (extended (elf_of b) secs) (headers_at (extended (elf_of b) secs)) ≡ header_at b (headers_at b)
first_same b secs t x =
    let n = x.well.table.counts.names in
    sym (first_at (extended (elf_of b) secs))
    ∙ same_header b secs t x 0 SHT_NULL (omega arith) (first_kind b x.well) (λ z. omega arith) (λ z. omega arith) (λ z. omega arith)
    ∙ first_at b

pub count : (b secs : List ℕ) (t : ℕ) → Base b secs t → section_count (extended (elf_of b) secs) ≡ section_count b
unfolding section_count
count b secs t x =
    let s = shnum_read b secs t x in
    let f : (header_at (extended (elf_of b) secs) (headers_at (extended (elf_of b) secs))).size ≡ (header_at b (headers_at b)).size =
    ap (λ (h : SectionHeader). h.size) (first_same b secs t x) in
    rw (s, f) refl

pub table : (b secs : List ℕ) (t : ℕ) → Base b secs t → name_table (extended (elf_of b) secs) ≡ name_table b
unfolding name_table
table b secs t x =
    let s = shstrndx_read b secs t x in
    let f : (header_at (extended (elf_of b) secs) (headers_at (extended (elf_of b) secs))).link ≡ (header_at b (headers_at b)).link =
    ap (λ (h : SectionHeader). h.link) (first_same b secs t x) in
    rw (s, f) refl

pub has_table : (b secs : List ℕ) (t : ℕ) → Base b secs t → HasTable (extended (elf_of b) secs)
has_table b secs t x =
    let w = x.well.table in
    let s = sizes b secs t x in
    let h = headers_read b secs t x in
    let c = count b secs t x in
    let n = w.counts.names in
    let some = w.counts.some in
    let few = w.few in
    let st = shstrndx_read b secs t x in
    let tb = table b secs t x in
    record {
      file_header = omega (arith, s.end, s.file, s.places.behind, s.places.symbols);
      target = target b secs t x ∙ w.target;
      first_header = record { named = λ _ z. omega (arith, s.file, s.places.behind, s.places.symbols); inside = λ _. omega (arith, s.end) };
      counts = record {
        some = λ z. omega arith;
        plain = λ l. st ∙ w.counts.plain (omega arith);
        names = omega arith;
      };
      few = omega arith;
      headers = omega (arith, s.end);
    }
