-- Relocations that were written are read again.
use Rattle.std.proofs.Common.{◌≡◌, ℕ, ◌+◌, ◌*◌, ◌^◌, ◌<◌, List, [], ◌∷◌, ◌++◌, map, length, drop, append_assoc, ℤ, refl, sym, ◌∙◌, ap, w64, of_z, to_z, arith}
use Rattle.std.proofs.Math.Facts.{Fits-of_z, to_z-of_z}
use Rattle.std.proofs.lemmas.List.{take-append-drop, drop-drop}
use Rattle.std.specs.Prelude.{All, flat_map}
use Rattle.std.specs.List.{range_with_len}
use Rattle.std.proofs.lemmas.List.Elements.{All-head, All-tail}
use Rattle.byteorder.specs.Endian.{little_number, little_bytes}
use Rattle.byteorder.specs.Numbers.{little_number-reads_back}
use Rattle.elf_objects.specs.declared.symbol.Reloc.{Reloc}
use Rattle.elf_objects.specs.Number.{xword}
use Rattle.elf_objects.specs.Table.{reloc_at}
use Rattle.orc_bytes.specs.RelocBytes.{bytes_of_reloc, IsReloc}
use Rattle.orc_bytes.specs.Laws.{RelocsReadBack}

-- the number in 8 bytes
xword_here : (bytes : List ℕ) (at n : ℕ) (tail : List ℕ) → n < 2 ^ 64 → drop at bytes ≡ little_bytes 8 n ++ tail → xword bytes at ≡ n
unfolding xword
xword_here bytes at n tail fits h = ap (little_number 8) h ∙ little_number-reads_back 8 n tail fits

reloc_alike : (a b c a' b' c' : ℕ) (d d' : ℤ) → a ≡ a' → b ≡ b' → c ≡ c' → d ≡ d' → ◌≡◌ {A = Reloc} (record { offset = a; kind = b; sym = c; addend = d }) (record { offset = a'; kind = b'; sym = c'; addend = d' })
reloc_alike a b c a' b' c' d d' h1 h2 h3 h4 = cc

parts : (bytes : List ℕ) (at : ℕ) (reloc : Reloc) (tail : List ℕ) → drop at bytes ≡ bytes_of_reloc reloc ++ tail → (drop at bytes ≡ little_bytes 8 reloc.offset ++ (little_bytes 8 (reloc.kind + reloc.sym * 2 ^ 32) ++ (little_bytes 8 (of_z w64 reloc.addend) ++ tail))) × (drop (at + 8) bytes ≡ little_bytes 8 (reloc.kind + reloc.sym * 2 ^ 32) ++ (little_bytes 8 (of_z w64 reloc.addend) ++ tail)) × (drop (at + 16) bytes ≡ little_bytes 8 (of_z w64 reloc.addend) ++ tail) × (drop (at + 24) bytes ≡ tail)
unfolding bytes_of_reloc
parts bytes at reloc tail h = (h, sym (drop-drop 8 at bytes) ∙ ap (drop 8) h, sym (drop-drop 16 at bytes) ∙ ap (drop 16) h, sym (drop-drop 24 at bytes) ∙ ap (drop 24) h)

reloc_here : (bytes : List ℕ) (at : ℕ) (reloc : Reloc) (tail : List ℕ) → IsReloc reloc → drop at bytes ≡ bytes_of_reloc reloc ++ tail → reloc_at bytes at ≡ reloc
unfolding reloc_at
reloc_here bytes at reloc tail is h =
    let cut = parts bytes at reloc tail h in
    let fits = Fits-of_z is.addend in
    let kind_fits : reloc.kind < 2 ^ 32 = is.kind in
    let sym_fits : reloc.sym < 2 ^ 32 = is.sym in
    let offset : xword bytes at ≡ reloc.offset = xword_here bytes at reloc.offset _ is.offset cut.0 in
    let info : xword bytes (at + 8) ≡ reloc.kind + reloc.sym * 2 ^ 32 = xword_here bytes (at + 8) (reloc.kind + reloc.sym * 2 ^ 32) _ (omega arith) cut.1 in
    let addend : xword bytes (at + 16) ≡ of_z w64 reloc.addend = xword_here bytes (at + 16) (of_z w64 reloc.addend) tail fits.fits cut.2 in
    reloc_alike _ _ _ _ _ _ _ _ offset (omega (arith, info)) (omega (arith, info)) (ap (to_z w64) addend ∙ to_z-of_z is.addend)

read_from : (bytes : List ℕ) (at : ℕ) (relocs : List Reloc) (j : ℕ) (tail : List ℕ) → All IsReloc relocs → drop (at + 24 * j) bytes ≡ flat_map bytes_of_reloc relocs ++ tail → map (λ k. reloc_at bytes (at + 24 * k)) (range_with_len j (length relocs)) ≡ relocs
read_from bytes at [] j tail all h = refl
read_from bytes at (reloc ∷ relocs) j tail all h =
    let split : drop (at + 24 * j) bytes ≡ bytes_of_reloc reloc ++ (flat_map bytes_of_reloc relocs ++ tail) = h ∙ append_assoc (bytes_of_reloc reloc) (flat_map bytes_of_reloc relocs) tail in
    let cut = parts bytes (at + 24 * j) reloc (flat_map bytes_of_reloc relocs ++ tail) split in
    let next : drop (at + 24 * (j + 1)) bytes ≡ flat_map bytes_of_reloc relocs ++ tail = ap (λ (k : ℕ). drop k bytes) (omega arith) ∙ cut.3 in
    joined
    (reloc_here bytes (at + 24 * j) reloc (flat_map bytes_of_reloc relocs ++ tail) (All-head IsReloc reloc relocs all) split)
    (read_from bytes at relocs (j + 1) tail (All-tail IsReloc reloc relocs all) next)
  where
    joined : {a b : Reloc} {us vs : List Reloc} → a ≡ b → us ≡ vs → (a ∷ us) ≡ (b ∷ vs)
    joined h k = cc

pub relocs_read : RelocsReadBack
relocs_read bytes at relocs all h =
    read_from bytes at relocs 0 (drop (24 * length relocs) (drop at bytes)) all
    (ap (λ (k : ℕ). drop k bytes) (omega arith) ∙ sym (take-append-drop (24 * length relocs) (drop at bytes)) ∙ ap (λ front. front ++ drop (24 * length relocs) (drop at bytes)) h)
