-- The relocations of the object with the new symbols, and its text.
use Rattle.std.proofs.Common.{◌≡◌, inl, inr, ℕ, zero, suc, ◌+◌, ◌*◌, ◌/◌, ◌%◌, ◌^◌, ◌<◌, ◌≤◌, List, [], ◌∷◌, length, drop, get_or, map, refl, sym, ap, subst, ◌∙◌, arith}
use Rattle.std.specs.Prelude.{All, slice_index}
use Rattle.std.specs.Int.{w64, cast_signed}
use Rattle.std.specs.List.{range_with_len}
use Rattle.std.proofs.lemmas.Bool.{cases_lt}
use Rattle.std.proofs.lemmas.List.{get_or-drop}
use Rattle.std.proofs.lemmas.List.Concat.{flat_map_single}
use Rattle.std.proofs.lemmas.List.Elements.{All-cons, All-nil}
use Rattle.byteorder.specs.Endian.{little_from}
use Rattle.byteorder.specs.Numbers.{little_from-lt}
use Rattle.elf_objects.specs.Contents.{elf_of}
use Rattle.elf_objects.specs.File.{section_count, section_header}
use Rattle.elf_objects.specs.Number.{word, xword}
use Rattle.elf_objects.specs.declared.TheConstants.{SHT_RELA}
use Rattle.elf_objects.specs.declared.header.SectionHeader.{SectionHeader}
use Rattle.elf_objects.specs.declared.symbol.Reloc.{Reloc}
use Rattle.elf_objects.specs.Table.{body_of, reloc_at, reloc_of, symbol_count}
use Rattle.elf_write.specs.Layout.{encoded}
use Rattle.elf_write.proofs.Lists.{length-encoded}
use Rattle.elf_write.proofs.Numbers.{reloc-same, word-same, xword-same}
use Rattle.elf_write.proofs.Output.{Outside}
use Rattle.elf_write.proofs.Parts.{part, part-inside, part-part, part-whole}
use Rattle.elf_write.specs.declared.plan.Plan.{Plan}
use Rattle.elf_write.specs.SymbolLayout.{Change, changed, extended, reloc_change, reloc_changes, renumbered}
use Rattle.elf_write.proofs.Edits.{Avoids, Fits, part-avoid, part-one}
use Rattle.elf_write.proofs.Fields.{word-part}
use Rattle.elf_write.proofs.Joined.{Base, start}
use Rattle.elf_write.proofs.Known.{Lies, lies}
use Rattle.elf_write.proofs.SymbolOutput.{renumbered_below, sizes}
use Rattle.elf_write.proofs.Regions.{plan, relocs_fit, relocs_read}

-- a number of 8 bytes is two of 4
xword-split : (xs : List ℕ) (a : ℕ) → xword xs a ≡ word xs a + 4294967296 * little_from 4 4 (drop a xs)
unfolding xword word
xword-split xs a = omega arith

high-word : (xs : List ℕ) (a : ℕ) → little_from 4 4 (drop a xs) ≡ word xs (a + 4)
unfolding word
high-word xs a =
    let f0 : slice_index (drop a xs) 4 ≡ slice_index (drop (a + 4) xs) 0 = get_or-drop a xs 4 0 ∙ ap (λ (n : ℕ). get_or xs n 0) (omega arith) ∙ sym (get_or-drop (a + 4) xs 0 0) in
    let f1 : slice_index (drop a xs) 5 ≡ slice_index (drop (a + 4) xs) 1 = get_or-drop a xs 5 0 ∙ ap (λ (n : ℕ). get_or xs n 0) (omega arith) ∙ sym (get_or-drop (a + 4) xs 1 0) in
    let f2 : slice_index (drop a xs) 6 ≡ slice_index (drop (a + 4) xs) 2 = get_or-drop a xs 6 0 ∙ ap (λ (n : ℕ). get_or xs n 0) (omega arith) ∙ sym (get_or-drop (a + 4) xs 2 0) in
    let f3 : slice_index (drop a xs) 7 ≡ slice_index (drop (a + 4) xs) 3 = get_or-drop a xs 7 0 ∙ ap (λ (n : ℕ). get_or xs n 0) (omega arith) ∙ sym (get_or-drop (a + 4) xs 3 0) in
    omega arith

-- a relocation, field by field
reloc-fields : (xs : List ℕ) (a : ℕ) → word xs (a + 8) < 2 ^ 32
    → reloc_at xs a ≡ record { offset = xword xs a; kind = word xs (a + 8); sym = word xs (a + 12); addend = cast_signed w64 (xword xs (a + 16)) }
unfolding reloc_at
reloc-fields xs a h =
    let s = xword-split xs (a + 8) in
    let w = high-word xs (a + 8) in
    let e : a + 8 + 4 ≡ a + 12 = omega arith in
    let is : little_from 4 4 (drop (a + 8) xs) ≡ word xs (a + 12) = w ∙ ap (word xs) e in
    let kind : xword xs (a + 8) % 2 ^ 32 ≡ word xs (a + 8) = omega arith in
    let number : xword xs (a + 8) / 2 ^ 32 ≡ word xs (a + 12) = omega arith in
    rw (kind, number) refl

-- the number of 4 bytes
pub word-lt : (xs : List ℕ) (a : ℕ) → ((k : ℕ) → slice_index xs k < 256) → word xs a < 2 ^ 32
unfolding word
word-lt xs a h =
    little_from-lt 0 4 (drop a xs) (λ k. (let e : slice_index (drop a xs) k ≡ slice_index xs (a + k) = get_or-drop a xs k 0 in let l = h (a + k) in omega arith))

-- Within a body of relocations.

row_avoids : (p : Plan) (body : List ℕ) (a w from n : ℕ) → ((j : ℕ) → from ≤ j → j < from + n → Outside a w (24 * j + 12) 4)
    → All (Avoids a w) (map (reloc_change p body) (range_with_len from n))
row_avoids p body a w from zero h = All-nil (Avoids a w)
row_avoids p body a w from (suc n) h =
    All-cons (Avoids a w) (reloc_change p body from) (map (reloc_change p body) (range_with_len (from + 1) n)) (h from (omega arith) (omega arith))
    (row_avoids p body a w (from + 1) n (λ j low high. h j (omega arith) (omega arith)))

body_kept : (p : Plan) (body : List ℕ) (a w : ℕ) → ((j : ℕ) → Outside a w (24 * j + 12) 4)
    → part a w (changed (reloc_changes p body) body) ≡ part a w body
body_kept p body a w h =
    part-avoid (reloc_changes p body) body (length body) a w refl (relocs_fit p body)
    (row_avoids p body a w 0 (length body / 24) (λ j low high. h j))

one_avoids : (a w : ℕ) (c : Change) → Avoids a w c → All (Avoids a w) (c ∷ [])
one_avoids a w c h zero d lt = h
one_avoids a w c h (suc k) d lt = absurd (omega arith)

one_fits : (n : ℕ) (c : Change) → Fits n c → All (Fits n) (c ∷ [])
one_fits n c h zero d lt = h
one_fits n c h (suc k) d lt = absurd (omega arith)

apart : (k j : ℕ) → (j ≡ k → ⊥) → Outside (24 * k + 12) 4 (24 * j + 12) 4
apart k j ne = elim (cases_lt k j) [
  | inl lower ↦ inl (omega arith)
  | inr upper ↦ elim (cases_lt j k) [
    | inl higher ↦ inr (omega arith)
    | inr same ↦ absurd (ne (omega arith))
  ]
]

number_read : (p : Plan) (body : List ℕ) (k : ℕ) → k < length body / 24
    → part (24 * k + 12) 4 (changed (reloc_changes p body) body) ≡ encoded 4 (renumbered p.locals p.count (reloc_at body (24 * k)).sym)
number_read p body k h =
    let n : ℕ = length body / 24 in
    let number : ℕ = renumbered p.locals p.count (reloc_at body (24 * k)).sym in
    let e = length-encoded 4 number in
    ap (λ (cs : List Change). part (24 * k + 12) 4 (changed cs body)) (sym (flat_map_single (reloc_change p body) (range_with_len 0 n)))
    ∙ part-one (λ (j : ℕ). reloc_change p body j ∷ []) body (length body) n k (24 * k + 12) 4 refl h
    (λ j lt. one_fits (length body) (reloc_change p body j) (omega arith))
    (λ j lt ne. one_avoids (24 * k + 12) 4 (reloc_change p body j) (apart k j ne))
    (encoded 4 number)
    (λ zs lz same. part-inside (24 * k + 12) 0 4 (24 * k + 12) (encoded 4 number) zs (omega arith) (omega arith) (omega arith) ∙ part-whole 4 (encoded 4 number) e)

after : (k j : ℕ) → Outside (24 * k + 16) 8 (24 * j + 12) 4
after k j = elim (cases_lt k j) [
  | inl lower ↦ inl (omega arith)
  | inr upper ↦ inr (omega arith)
]

front : (k j w : ℕ) → w ≤ 12 → Outside (24 * k) w (24 * j + 12) 4
front k j w h = elim (cases_lt j k) [
  | inl lower ↦ inr (omega arith)
  | inr upper ↦ inl (omega arith)
]

middle : (k j : ℕ) → Outside (24 * k + 8) 4 (24 * j + 12) 4
middle k j = elim (cases_lt j k) [
  | inl lower ↦ inr (omega arith)
  | inr upper ↦ inl (omega arith)
]

body_reloc : (p : Plan) (body : List ℕ) (k : ℕ) → k < length body / 24 → word body (24 * k + 8) < 2 ^ 32
    → renumbered p.locals p.count (reloc_at body (24 * k)).sym < 2 ^ 32
    → reloc_at (changed (reloc_changes p body) body) (24 * k)
    ≡ record (reloc_at body (24 * k)) { sym = renumbered p.locals p.count (reloc_at body (24 * k)).sym }
body_reloc p body k h low small =
    let to : List ℕ = changed (reloc_changes p body) body in
    let number : ℕ = renumbered p.locals p.count (reloc_at body (24 * k)).sym in
    let f0 : xword to (24 * k) ≡ xword body (24 * k) = xword-same (24 * k) (24 * k) to body (body_kept p body (24 * k) 8 (λ j. front k j 8 (omega arith))) in
    let f1 : word to (24 * k + 8) ≡ word body (24 * k + 8) = word-same (24 * k + 8) (24 * k + 8) to body (body_kept p body (24 * k + 8) 4 (λ j. middle k j)) in
    let f2 : word to (24 * k + 12) ≡ number = word-part to (24 * k + 12) number (number_read p body k h) small in
    let f3 : xword to (24 * k + 16) ≡ xword body (24 * k + 16) = xword-same (24 * k + 16) (24 * k + 16) to body (body_kept p body (24 * k + 16) 8 (λ j. after k j)) in
    reloc-fields to (24 * k) (omega arith)
    ∙ rw (f0, f1, f2, f3) refl
    ∙ ap (λ (r : Reloc). record r { sym = number }) (sym (reloc-fields body (24 * k) low))

-- In the object.

pub reloc_is : (b : List ℕ) (h : SectionHeader) (k : ℕ) → reloc_of b h k ≡ reloc_at b (h.offset + 24 * k)
unfolding reloc_of
reloc_is b h k = refl

-- a relocation of a body is that of the file
pub in_body : (b : List ℕ) (off size k : ℕ) (body : List ℕ) → part off size b ≡ body → k < size / 24 → reloc_at b (off + 24 * k) ≡ reloc_at body (24 * k)
in_body b off size k body e h =
    reloc-same (off + 24 * k) (24 * k) b body
    (sym (part-part (24 * k) 24 off size b (omega arith)) ∙ ap (part (24 * k) 24) e)

-- each names its symbol by the new number
pub reloc_read : (b secs : List ℕ) (t : ℕ) → Base b secs t → (i k : ℕ) → i < section_count b → (section_header b i).kind ≡ SHT_RELA
    → k < (section_header b i).size / 24
    → reloc_of (extended (elf_of b) secs) (section_header b i) k
    ≡ record (reloc_of b (section_header b i) k) { sym = renumbered (plan b secs).locals (length secs) (reloc_of b (section_header b i) k).sym }
reloc_read b secs t x i k h kind lt =
    let p = plan b secs in
    let d = section_header b i in
    let body : List ℕ = body_of b d in
    let l : Lies b d = lies b x.well i h (λ z. omega arith) (λ z. omega arith) in
    let s = sizes b secs t x in
    let size = l.size in
    let was : reloc_of b d k ≡ reloc_at body (24 * k) = reloc_is b d k ∙ in_body b d.offset d.size k body (sym l.body) lt in
    let is = x.well.relocs i h kind k lt in
    let old : (reloc_at body (24 * k)).sym < symbol_count b = subst (λ (r : Reloc). r.sym < symbol_count b) was is.symbol in
    let below = renumbered_below p.locals p.count (reloc_at body (24 * k)).sym (symbol_count b) old in
    let low : word body (24 * k + 8) ≡ word b (d.offset + (24 * k + 8)) = word-same (24 * k + 8) (d.offset + (24 * k + 8)) body b
    (ap (part (24 * k + 8) 4) l.body ∙ part-part (24 * k + 8) 4 d.offset d.size b (omega arith)) in
    let small = word-lt b (d.offset + (24 * k + 8)) x.bytes in
    reloc_is (extended (elf_of b) secs) d k
    ∙ in_body (extended (elf_of b) secs) d.offset d.size k (changed (reloc_changes p body) body) (relocs_read b secs t (start b secs t x) i h kind) lt
    ∙ body_reloc p body k (omega arith) (omega arith) (omega (arith, s.few))
    ∙ ap (λ (r : Reloc). record r { sym = renumbered p.locals p.count r.sym }) (sym was)
