-- The section headers of the object with the new sections.
use Rattle.std.proofs.Common.{◌≡◌, ◌≢◌, ◌⊎◌, inl, inr, ℕ, ◌+◌, ◌*◌, ◌^◌, ◌<◌, ◌≤◌, List, [], ◌∷◌, ◌++◌, length, get_or, refl, sym, ap, subst, ◌∙◌, arith, length-append}
use Rattle.std.proofs.lemmas.Bool.{cases_lt}
use Rattle.std.proofs.lemmas.Bool.Decides.{nat_tests}
use Rattle.elf_objects.specs.Number.{word, xword}
use Rattle.elf_objects.specs.Header.{header_at}
use Rattle.elf_objects.specs.File.{headers_at, name_table, section_count, section_header}
use Rattle.elf_objects.specs.declared.header.SectionHeader.{SectionHeader}
use Rattle.elf_write.specs.Layout.{NewEntry, Input, added_headers, aligned, all_headers, all_names, changed_headers, changed_input, count_of, encoded, end_of, extended, header_bytes, header_table, headers_place, laid_out, long_count, names_place, padded, pieces, written}
use Rattle.elf_write.proofs.Lists.{length-encoded, length-written}
use Rattle.elf_write.proofs.Parts.{part, part-behind, part-inside, part-left, part-part, part-right, part-whole}
use Rattle.elf_write.proofs.Numbers.{header-same, word-same, xword-same}
use Rattle.elf_write.proofs.Sizes.{laid_out-append, length-laid_out, length-padded, length-header_bytes, length-new_headers}
use Rattle.elf_write.proofs.Build.{length-changed_input, length-changed_headers}
use Rattle.elf_write.proofs.Headers.{HasRoom, header-bytes, part-header_table}
use Rattle.elf_write.proofs.Output.{Base, Outside, count_is, headers_at-output, input_at, input_ok, length-headers, part-outside, places, xword-part}

-- a part of the headers
table_part : (b : List ℕ) (new : List NewEntry) (p a w : ℕ) → Base b new → p ≡ headers_place (input_at b) new + a
    → part p w (extended (input_at b) new) ≡ part a w (all_headers (input_at b) new)
table_part b new p a w base e =
    let i : Input = input_at b in
    let front : List ℕ = laid_out (changed_input i new) (pieces i new) in
    let l : length (padded front) ≡ headers_place i new =
    length-padded front ∙ ap aligned (length-laid_out (changed_input i new) (pieces i new) ∙ ap (λ (n : ℕ). end_of n (pieces i new)) (length-changed_input i new (input_ok b new base))) in
    ap (part p w) (laid_out-append (changed_input i new) (pieces i new) (all_headers i new ∷ []))
    ∙ part-right p a w (padded front) (all_headers i new) (omega arith)

-- the bytes of the old headers, but for the size of the first and the place and size of the name table
keeps : (b : List ℕ) (new : List NewEntry) (p r a w : ℕ) → Base b new → p ≡ headers_place (input_at b) new + a → r ≡ headers_at b + a
    → a + w ≤ 64 * section_count b → Outside a w 32 8 → Outside a w (64 * name_table b + 24) 16
    → part p w (extended (input_at b) new) ≡ part r w b
keeps b new p r a w base e f h x y =
    let i : Input = input_at b in
    let ok = input_ok b new base in
    let long : List ℕ = encoded 8 (long_count (count_of i new)) in
    let two : List ℕ = encoded 8 (names_place i) ++ encoded 8 (length (all_names i new)) in
    let l8 : length long ≡ 8 = length-encoded 8 (long_count (count_of i new)) in
    let l16 : length two ≡ 16 = length-append (encoded 8 (names_place i)) (encoded 8 (length (all_names i new))) ∙ omega (arith, length-encoded 8 (names_place i), length-encoded 8 (length (all_names i new))) in
    let l = length-headers b new base in
    let t : 64 * name_table b + 24 + length two ≤ length i.headers = omega (arith, base.in_table) in
    let m : length (written (64 * name_table b + 24) two i.headers) ≡ length i.headers = length-written (64 * name_table b + 24) two i.headers t in
    let c = length-changed_headers i new ok in
    let x' : Outside a w 32 (length long) = subst (Outside a w 32) (sym l8) x in
    let y' : Outside a w (64 * name_table b + 24) (length two) = subst (Outside a w (64 * name_table b + 24)) (sym l16) y in
    table_part b new p a w base e
    ∙ part-left a w (changed_headers i new) (header_table (added_headers i new)) (omega arith)
    ∙ part-outside a w 32 long (written (64 * name_table b + 24) two i.headers) x' (omega (arith, base.in_table))
    ∙ part-outside a w (64 * name_table b + 24) two i.headers y' (omega arith)
    ∙ part-part a w (headers_at b) (64 * section_count b) b h
    ∙ ap (λ (n : ℕ). part n w b) (sym f)

-- the old headers but two are as they were
pub old_header : (b : List ℕ) (new : List NewEntry) (k : ℕ) → Base b new → k < section_count b → k ≢ 0 → k ≢ name_table b
    → section_header (extended (input_at b) new) k ≡ section_header b k
unfolding section_header
old_header b new k base h first names =
    let e = headers_at-output b new base in
    let other : (k < name_table b) ⊎ (name_table b ≤ k) = cases_lt k (name_table b) in
    let y : Outside (64 * k) 64 (64 * name_table b + 24) 16 = elim other [
      | inl lower ↦ inl (omega arith)
      | inr upper ↦ let above : name_table b < k = omega arith in inr (omega arith)
    ] in
    header-same (headers_at (extended (input_at b) new) + 64 * k) (headers_at b + 64 * k) (extended (input_at b) new) b
    (keeps b new (headers_at (extended (input_at b) new) + 64 * k) (headers_at b + 64 * k) (64 * k) 64 base (omega arith) refl (omega arith) (inr (omega arith)) y)

-- that of section 0 has another size, which says the number of sections where they are many
pub first_header : (b : List ℕ) (new : List NewEntry) → Base b new
    → section_header (extended (input_at b) new) 0
    ≡ record (section_header b 0) { size = long_count (section_count b + length new) }
unfolding section_header header_at
first_header b new base =
    let q : List ℕ = extended (input_at b) new in
    let i : Input = input_at b in
    let ok = input_ok b new base in
    let e = headers_at-output b new base in
    let s = base.in_table in
    let n1 = base.named in
    let p : ℕ = headers_at q + 64 * 0 in
    let r : ℕ = headers_at b + 64 * 0 in
    let f0 : word q p ≡ word b r = word-same p r q b (keeps b new p r 0 4 base (omega arith) (omega arith) (omega arith) (inl (omega arith)) (inl (omega arith))) in
    let f1 : word q (p + 4) ≡ word b (r + 4) = word-same (p + 4) (r + 4) q b (keeps b new (p + 4) (r + 4) 4 4 base (omega arith) (omega arith) (omega arith) (inl (omega arith)) (inl (omega arith))) in
    let f2 : xword q (p + 8) ≡ xword b (r + 8) = xword-same (p + 8) (r + 8) q b (keeps b new (p + 8) (r + 8) 8 8 base (omega arith) (omega arith) (omega arith) (inl (omega arith)) (inl (omega arith))) in
    let f3 : xword q (p + 16) ≡ xword b (r + 16) = xword-same (p + 16) (r + 16) q b (keeps b new (p + 16) (r + 16) 16 8 base (omega arith) (omega arith) (omega arith) (inl (omega arith)) (inl (omega arith))) in
    let f4 : xword q (p + 24) ≡ xword b (r + 24) = xword-same (p + 24) (r + 24) q b (keeps b new (p + 24) (r + 24) 24 8 base (omega arith) (omega arith) (omega arith) (inl (omega arith)) (inl (omega arith))) in
    let f6 : word q (p + 40) ≡ word b (r + 40) = word-same (p + 40) (r + 40) q b (keeps b new (p + 40) (r + 40) 40 4 base (omega arith) (omega arith) (omega arith) (inr (omega arith)) (inl (omega arith))) in
    let f7 : word q (p + 44) ≡ word b (r + 44) = word-same (p + 44) (r + 44) q b (keeps b new (p + 44) (r + 44) 44 4 base (omega arith) (omega arith) (omega arith) (inr (omega arith)) (inl (omega arith))) in
    let f8 : xword q (p + 48) ≡ xword b (r + 48) = xword-same (p + 48) (r + 48) q b (keeps b new (p + 48) (r + 48) 48 8 base (omega arith) (omega arith) (omega arith) (inr (omega arith)) (inl (omega arith))) in
    let f9 : xword q (p + 56) ≡ xword b (r + 56) = xword-same (p + 56) (r + 56) q b (keeps b new (p + 56) (r + 56) 56 8 base (omega arith) (omega arith) (omega arith) (inr (omega arith)) (inl (omega arith))) in
    let long : List ℕ = encoded 8 (long_count (count_of i new)) in
    let two : List ℕ = encoded 8 (names_place i) ++ encoded 8 (length (all_names i new)) in
    let l8 : length long ≡ 8 = length-encoded 8 (long_count (count_of i new)) in
    let l16 : length two ≡ 16 = length-append (encoded 8 (names_place i)) (encoded 8 (length (all_names i new))) ∙ omega (arith, length-encoded 8 (names_place i), length-encoded 8 (length (all_names i new))) in
    let l = length-headers b new base in
    let m : length (written (64 * name_table b + 24) two i.headers) ≡ length i.headers = length-written (64 * name_table b + 24) two i.headers (omega arith) in
    let c = length-changed_headers i new ok in
    let few = base.few in
    let count = count_is b new base in
    let fits : long_count (count_of i new) < 2 ^ 64 = grind (arith, nat_tests) in
    let f5 : xword q (p + 32) ≡ long_count (section_count b + length new) =
    xword-part q (p + 32) (long_count (count_of i new))
    (table_part b new (p + 32) 32 8 base (omega arith)
    ∙ part-left 32 8 (changed_headers i new) (header_table (added_headers i new)) (omega arith)
    ∙ part-inside 32 0 8 32 long (written (64 * name_table b + 24) two i.headers) (omega arith) (omega arith) (omega arith)
    ∙ part-whole 8 long l8)
    fits
    ∙ ap long_count count in
    rw (f0, f1, f2, f3, f4, f5, f6, f7, f8, f9) refl

-- that of the name table has its new place and size
pub names_header : (b : List ℕ) (new : List NewEntry) → Base b new
    → section_header (extended (input_at b) new) (name_table b)
    ≡ record (section_header b (name_table b)) { offset = names_place (input_at b); size = length (all_names (input_at b) new) }
unfolding section_header header_at
names_header b new base =
    let q : List ℕ = extended (input_at b) new in
    let i : Input = input_at b in
    let ok = input_ok b new base in
    let e = headers_at-output b new base in
    let s = base.in_table in
    let n1 = base.named in
    let t : ℕ = 64 * name_table b in
    let p : ℕ = headers_at q + t in
    let r : ℕ = headers_at b + t in
    let f0 : word q p ≡ word b r = word-same p r q b (keeps b new p r t 4 base (omega arith) (omega arith) (omega arith) (inr (omega arith)) (inl (omega arith))) in
    let f1 : word q (p + 4) ≡ word b (r + 4) = word-same (p + 4) (r + 4) q b (keeps b new (p + 4) (r + 4) (t + 4) 4 base (omega arith) (omega arith) (omega arith) (inr (omega arith)) (inl (omega arith))) in
    let f2 : xword q (p + 8) ≡ xword b (r + 8) = xword-same (p + 8) (r + 8) q b (keeps b new (p + 8) (r + 8) (t + 8) 8 base (omega arith) (omega arith) (omega arith) (inr (omega arith)) (inl (omega arith))) in
    let f3 : xword q (p + 16) ≡ xword b (r + 16) = xword-same (p + 16) (r + 16) q b (keeps b new (p + 16) (r + 16) (t + 16) 8 base (omega arith) (omega arith) (omega arith) (inr (omega arith)) (inl (omega arith))) in
    let f6 : word q (p + 40) ≡ word b (r + 40) = word-same (p + 40) (r + 40) q b (keeps b new (p + 40) (r + 40) (t + 40) 4 base (omega arith) (omega arith) (omega arith) (inr (omega arith)) (inr (omega arith))) in
    let f7 : word q (p + 44) ≡ word b (r + 44) = word-same (p + 44) (r + 44) q b (keeps b new (p + 44) (r + 44) (t + 44) 4 base (omega arith) (omega arith) (omega arith) (inr (omega arith)) (inr (omega arith))) in
    let f8 : xword q (p + 48) ≡ xword b (r + 48) = xword-same (p + 48) (r + 48) q b (keeps b new (p + 48) (r + 48) (t + 48) 8 base (omega arith) (omega arith) (omega arith) (inr (omega arith)) (inr (omega arith))) in
    let f9 : xword q (p + 56) ≡ xword b (r + 56) = xword-same (p + 56) (r + 56) q b (keeps b new (p + 56) (r + 56) (t + 56) 8 base (omega arith) (omega arith) (omega arith) (inr (omega arith)) (inr (omega arith))) in
    let long : List ℕ = encoded 8 (long_count (count_of i new)) in
    let place : List ℕ = encoded 8 (names_place i) in
    let size : List ℕ = encoded 8 (length (all_names i new)) in
    let two : List ℕ = place ++ size in
    let l8 : length long ≡ 8 = length-encoded 8 (long_count (count_of i new)) in
    let p8 : length place ≡ 8 = length-encoded 8 (names_place i) in
    let s8 : length size ≡ 8 = length-encoded 8 (length (all_names i new)) in
    let l16 : length two ≡ 16 = length-append place size ∙ omega arith in
    let l = length-headers b new base in
    let m : length (written (t + 24) two i.headers) ≡ length i.headers = length-written (t + 24) two i.headers (omega arith) in
    let c = length-changed_headers i new ok in
    let ps = places b new base in
    let f4 : xword q (p + 24) ≡ names_place i =
    xword-part q (p + 24) (names_place i)
    (table_part b new (p + 24) (t + 24) 8 base (omega arith)
    ∙ part-left (t + 24) 8 (changed_headers i new) (header_table (added_headers i new)) (omega arith)
    ∙ part-behind (t + 24) 8 32 long (written (t + 24) two i.headers) (omega arith) (omega arith)
    ∙ part-inside (t + 24) 0 8 (t + 24) two i.headers (omega arith) (omega arith) (omega arith)
    ∙ part-left 0 8 place size (omega arith)
    ∙ part-whole 8 place p8)
    (omega (arith, ps.names, ps.headers)) in
    let f5 : xword q (p + 32) ≡ length (all_names i new) =
    xword-part q (p + 32) (length (all_names i new))
    (table_part b new (p + 32) (t + 32) 8 base (omega arith)
    ∙ part-left (t + 32) 8 (changed_headers i new) (header_table (added_headers i new)) (omega arith)
    ∙ part-behind (t + 32) 8 32 long (written (t + 24) two i.headers) (omega arith) (omega arith)
    ∙ part-inside (t + 32) 8 8 (t + 24) two i.headers (omega arith) (omega arith) (omega arith)
    ∙ part-right 8 0 8 place size (omega arith)
    ∙ part-whole 8 size s8)
    (omega (arith, ps.names, ps.headers)) in
    rw (f0, f1, f2, f3, f4, f5, f6, f7, f8, f9) refl

-- those of the new sections
pub new_header : (b : List ℕ) (new : List NewEntry) (k : ℕ) (d : SectionHeader) → Base b new → k < length new
    → HasRoom (get_or (added_headers (input_at b) new) k d)
    → section_header (extended (input_at b) new) (section_count b + k) ≡ get_or (added_headers (input_at b) new) k d
unfolding section_header
new_header b new k d base h room =
    let q : List ℕ = extended (input_at b) new in
    let i : Input = input_at b in
    let e = headers_at-output b new base in
    let p : ℕ = headers_at q + 64 * (section_count b + k) in
    let one : SectionHeader = get_or (added_headers i new) k d in
    let l = length-headers b new base in
    let c = length-changed_headers i new (input_ok b new base) in
    let a : length (added_headers i new) ≡ length new = length-new_headers (length i.names) (end_of (length i.bytes) (all_names i new ∷ [])) new in
    let l64 = length-header_bytes one in
    header-same p 0 q (header_bytes one)
    (table_part b new p (64 * (section_count b + k)) 64 base (omega arith)
    ∙ part-right (64 * (section_count b + k)) (64 * k) 64 (changed_headers i new) (header_table (added_headers i new)) (omega arith)
    ∙ part-header_table (added_headers i new) k d (omega arith)
    ∙ sym (part-whole 64 (header_bytes one) l64))
    ∙ header-bytes one room
