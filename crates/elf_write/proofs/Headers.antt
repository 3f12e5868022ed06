-- Section headers are read back from their bytes.
use Rattle.std.proofs.Common.{◌≡◌, ℕ, zero, suc, ◌+◌, ◌*◌, ◌^◌, ◌<◌, List, [], ◌∷◌, ◌++◌, length, take, drop, get_or, refl, sym, ap, ◌∙◌, arith, length-append}
use Rattle.std.proofs.lemmas.List.{append_assoc, append-nil, drop-drop, drop_at}
use Rattle.elf_objects.specs.Number.{word, xword}
use Rattle.elf_objects.specs.Header.{header_at}
use Rattle.elf_objects.specs.declared.header.SectionHeader.{SectionHeader}
use Rattle.elf_write.specs.Layout.{NewEntry, aligned, bodies, encoded, end_of, header_bytes, header_for, header_table, new_headers, new_names}
use Rattle.elf_write.proofs.Lists.{length-encoded}
use Rattle.elf_write.proofs.Parts.{part, part-left, part-right, part-whole}
use Rattle.elf_write.proofs.Numbers.{word-encoded, xword-encoded}
use Rattle.elf_write.proofs.Sizes.{length-header_bytes}

-- the fields have room for their numbers
pub record HasRoom (h : SectionHeader) : Type 0 where
  pub name : h.name < 2 ^ 32
  pub kind : h.kind < 2 ^ 32
  pub flags : h.flags < 2 ^ 64
  pub addr : h.addr < 2 ^ 64
  pub offset : h.offset < 2 ^ 64
  pub size : h.size < 2 ^ 64
  pub link : h.link < 2 ^ 32
  pub info : h.info < 2 ^ 32
  pub align : h.align < 2 ^ 64
  pub entsize : h.entsize < 2 ^ 64

-- one more field is passed over
next : (n w x : ℕ) (xs rest : List ℕ) → drop n xs ≡ encoded w x ++ rest → drop (n + w) xs ≡ rest
next n w x xs rest e = sym (drop-drop w n xs) ∙ ap (drop w) e ∙ drop_at (encoded w x) rest w (length-encoded w x)

-- a header is read from its bytes
pub header-bytes : (h : SectionHeader) → HasRoom h → header_at (header_bytes h) 0 ≡ h
unfolding header_at header_bytes
header-bytes h room =
    let xs : List ℕ = header_bytes h in
    let r9 : List ℕ = encoded 8 h.entsize ++ [] in
    let r8 : List ℕ = encoded 8 h.align ++ r9 in
    let r7 : List ℕ = encoded 4 h.info ++ r8 in
    let r6 : List ℕ = encoded 4 h.link ++ r7 in
    let r5 : List ℕ = encoded 8 h.size ++ r6 in
    let r4 : List ℕ = encoded 8 h.offset ++ r5 in
    let r3 : List ℕ = encoded 8 h.addr ++ r4 in
    let r2 : List ℕ = encoded 8 h.flags ++ r3 in
    let r1 : List ℕ = encoded 4 h.kind ++ r2 in
    let d0 : drop 0 xs ≡ encoded 4 h.name ++ r1 = simp (append_assoc, append-nil) refl in
    let d1 : drop 4 xs ≡ r1 = next 0 4 h.name xs r1 d0 in
    let d2 : drop 8 xs ≡ r2 = next 4 4 h.kind xs r2 d1 in
    let d3 : drop 16 xs ≡ r3 = next 8 8 h.flags xs r3 d2 in
    let d4 : drop 24 xs ≡ r4 = next 16 8 h.addr xs r4 d3 in
    let d5 : drop 32 xs ≡ r5 = next 24 8 h.offset xs r5 d4 in
    let d6 : drop 40 xs ≡ r6 = next 32 8 h.size xs r6 d5 in
    let d7 : drop 44 xs ≡ r7 = next 40 4 h.link xs r7 d6 in
    let d8 : drop 48 xs ≡ r8 = next 44 4 h.info xs r8 d7 in
    let d9 : drop 56 xs ≡ r9 = next 48 8 h.align xs r9 d8 in
    let f0 : word xs 0 ≡ h.name = word-encoded xs r1 0 h.name d0 room.name in
    let f1 : word xs 4 ≡ h.kind = word-encoded xs r2 4 h.kind d1 room.kind in
    let f2 : xword xs 8 ≡ h.flags = xword-encoded xs r3 8 h.flags d2 room.flags in
    let f3 : xword xs 16 ≡ h.addr = xword-encoded xs r4 16 h.addr d3 room.addr in
    let f4 : xword xs 24 ≡ h.offset = xword-encoded xs r5 24 h.offset d4 room.offset in
    let f5 : xword xs 32 ≡ h.size = xword-encoded xs r6 32 h.size d5 room.size in
    let f6 : word xs 40 ≡ h.link = word-encoded xs r7 40 h.link d6 room.link in
    let f7 : word xs 44 ≡ h.info = word-encoded xs r8 44 h.info d7 room.info in
    let f8 : xword xs 48 ≡ h.align = xword-encoded xs r9 48 h.align d8 room.align in
    let f9 : xword xs 56 ≡ h.entsize = xword-encoded xs [] 56 h.entsize d9 room.entsize in
    rw (f0, f1, f2, f3, f4, f5, f6, f7, f8, f9) refl

-- the header with a number, in a table of headers
pub part-header_table : (hs : List SectionHeader) (k : ℕ) (d : SectionHeader) → k < length hs
    → part (64 * k) 64 (header_table hs) ≡ header_bytes (get_or hs k d)
part-header_table [] k d h = absurd (omega arith)
part-header_table (x ∷ hs) zero d h =
    let l = length-header_bytes x in
    part-left 0 64 (header_bytes x) (header_table hs) (omega arith) ∙ part-whole 64 (header_bytes x) l
part-header_table (x ∷ hs) (suc k) d h =
    let l = length-header_bytes x in
    part-right (64 * suc k) (64 * k) 64 (header_bytes x) (header_table hs) (omega arith)
    ∙ part-header_table hs k d (omega arith)

-- the header of the new section with a number
pub get_or-new_headers : (name at : ℕ) (new : List NewEntry) (k : ℕ) (d : SectionHeader) (e : NewEntry) → k < length new
    → get_or (new_headers name at new) k d
    ≡ header_for (name + length (new_names (take k new))) (aligned (end_of at (bodies (take k new)))) (get_or new k e)
get_or-new_headers name at [] k d e h = absurd (omega arith)
get_or-new_headers name at (x ∷ new) zero d e h =
    ap (λ (n : ℕ). header_for n (aligned at) x) (omega arith)
get_or-new_headers name at (x ∷ new) (suc k) d e h =
    let ih = get_or-new_headers (name + length x.name + 1) (aligned at + length x.body) new k d e (omega arith) in
    let names : List ℕ = new_names (take k new) in
    let l : name + length x.name + 1 + length names ≡ name + length ((x.name ++ 0 ∷ []) ++ names)
    = omega (arith, length-append (x.name ++ 0 ∷ []) names, length-append x.name (0 ∷ [])) in
    ih ∙ ap (λ (n : ℕ). header_for n (aligned (end_of (aligned at + length x.body) (bodies (take k new)))) (get_or new k e)) l
