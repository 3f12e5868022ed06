-- What reads a number, a header, a symbol or a relocation depends on the bytes that it stands in.
use Rattle.std.proofs.Common.{◌≡◌, ℕ, ◌+◌, ◌^◌, ◌<◌, ◌≤◌, List, ◌++◌, drop, slice_index, get_or, refl, sym, ap, ◌∙◌, arith}
use Rattle.byteorder.specs.Endian.{little_from}
use Rattle.byteorder.specs.Numbers.{little_from-take, little_number-reads_back}
use Rattle.elf_objects.specs.Number.{half, word, xword}
use Rattle.elf_objects.specs.Header.{header_at}
use Rattle.elf_objects.specs.Table.{raw_symbol_at, reloc_at}
use Rattle.elf_write.specs.Layout.{encoded}
use Rattle.elf_write.proofs.Parts.{part, part-part, index-part}

same_number : (n a c : ℕ) (xs ys : List ℕ) → part a n xs ≡ part c n ys → little_from 0 n (drop a xs) ≡ little_from 0 n (drop c ys)
same_number n a c xs ys e =
    sym (little_from-take 0 n n (drop a xs) (omega arith)) ∙ ap (little_from 0 n) e ∙ little_from-take 0 n n (drop c ys) (omega arith)

pub half-same : (a c : ℕ) (xs ys : List ℕ) → part a 2 xs ≡ part c 2 ys → half xs a ≡ half ys c
unfolding half
half-same a c xs ys e = same_number 2 a c xs ys e

pub word-same : (a c : ℕ) (xs ys : List ℕ) → part a 4 xs ≡ part c 4 ys → word xs a ≡ word ys c
unfolding word
word-same a c xs ys e = same_number 4 a c xs ys e

pub xword-same : (a c : ℕ) (xs ys : List ℕ) → part a 8 xs ≡ part c 8 ys → xword xs a ≡ xword ys c
unfolding xword
xword-same a c xs ys e = same_number 8 a c xs ys e

pub index-same : (a c : ℕ) (xs ys : List ℕ) → part a 1 xs ≡ part c 1 ys → slice_index xs a ≡ slice_index ys c
index-same a c xs ys e = index-part a xs ∙ ap (λ (p : List ℕ). get_or p 0 0) e ∙ sym (index-part c ys)

-- a part of two parts that are the same
pub part-same : (n k w a c : ℕ) (xs ys : List ℕ) → k + w ≤ n → part a n xs ≡ part c n ys → part (a + k) w xs ≡ part (c + k) w ys
part-same n k w a c xs ys h e =
    sym (part-part k w a n xs h) ∙ ap (part k w) e ∙ part-part k w c n ys h

-- a header is the same where its 64 bytes are
pub header-same : (a c : ℕ) (xs ys : List ℕ) → part a 64 xs ≡ part c 64 ys → header_at xs a ≡ header_at ys c
unfolding header_at
header-same a c xs ys e =
    let z : part a 4 xs ≡ part c 4 ys = sym (part-part 0 4 a 64 xs (omega arith) ∙ ap (λ (n : ℕ). part n 4 xs) (omega arith)) ∙ ap (part 0 4) e ∙ part-part 0 4 c 64 ys (omega arith) ∙ ap (λ (n : ℕ). part n 4 ys) (omega arith) in
    let f0 = word-same a c xs ys z in
    let f1 = word-same (a + 4) (c + 4) xs ys (part-same 64 4 4 a c xs ys (omega arith) e) in
    let f2 = xword-same (a + 8) (c + 8) xs ys (part-same 64 8 8 a c xs ys (omega arith) e) in
    let f3 = xword-same (a + 16) (c + 16) xs ys (part-same 64 16 8 a c xs ys (omega arith) e) in
    let f4 = xword-same (a + 24) (c + 24) xs ys (part-same 64 24 8 a c xs ys (omega arith) e) in
    let f5 = xword-same (a + 32) (c + 32) xs ys (part-same 64 32 8 a c xs ys (omega arith) e) in
    let f6 = word-same (a + 40) (c + 40) xs ys (part-same 64 40 4 a c xs ys (omega arith) e) in
    let f7 = word-same (a + 44) (c + 44) xs ys (part-same 64 44 4 a c xs ys (omega arith) e) in
    let f8 = xword-same (a + 48) (c + 48) xs ys (part-same 64 48 8 a c xs ys (omega arith) e) in
    let f9 = xword-same (a + 56) (c + 56) xs ys (part-same 64 56 8 a c xs ys (omega arith) e) in
    rw (f0, f1, f2, f3, f4, f5, f6, f7, f8, f9) refl

pub symbol-same : (a c : ℕ) (xs ys : List ℕ) → part a 24 xs ≡ part c 24 ys → raw_symbol_at xs a ≡ raw_symbol_at ys c
unfolding raw_symbol_at
symbol-same a c xs ys e =
    let z : part a 4 xs ≡ part c 4 ys = sym (part-part 0 4 a 24 xs (omega arith) ∙ ap (λ (n : ℕ). part n 4 xs) (omega arith)) ∙ ap (part 0 4) e ∙ part-part 0 4 c 24 ys (omega arith) ∙ ap (λ (n : ℕ). part n 4 ys) (omega arith) in
    let f0 = word-same a c xs ys z in
    let f1 = index-same (a + 4) (c + 4) xs ys (part-same 24 4 1 a c xs ys (omega arith) e) in
    let f2 = index-same (a + 5) (c + 5) xs ys (part-same 24 5 1 a c xs ys (omega arith) e) in
    let f3 = half-same (a + 6) (c + 6) xs ys (part-same 24 6 2 a c xs ys (omega arith) e) in
    let f4 = xword-same (a + 8) (c + 8) xs ys (part-same 24 8 8 a c xs ys (omega arith) e) in
    let f5 = xword-same (a + 16) (c + 16) xs ys (part-same 24 16 8 a c xs ys (omega arith) e) in
    rw (f0, f1, f2, f3, f4, f5) refl

pub reloc-same : (a c : ℕ) (xs ys : List ℕ) → part a 24 xs ≡ part c 24 ys → reloc_at xs a ≡ reloc_at ys c
unfolding reloc_at
reloc-same a c xs ys e =
    let z : part a 8 xs ≡ part c 8 ys = sym (part-part 0 8 a 24 xs (omega arith) ∙ ap (λ (n : ℕ). part n 8 xs) (omega arith)) ∙ ap (part 0 8) e ∙ part-part 0 8 c 24 ys (omega arith) ∙ ap (λ (n : ℕ). part n 8 ys) (omega arith) in
    let f0 = xword-same a c xs ys z in
    let f1 = xword-same (a + 8) (c + 8) xs ys (part-same 24 8 8 a c xs ys (omega arith) e) in
    let f2 = xword-same (a + 16) (c + 16) xs ys (part-same 24 16 8 a c xs ys (omega arith) e) in
    rw (f0, f1, f2) refl

-- an encoded number is read back
pub half-encoded : (xs rest : List ℕ) (a x : ℕ) → drop a xs ≡ encoded 2 x ++ rest → x < 2 ^ 16 → half xs a ≡ x
unfolding half encoded
half-encoded xs rest a x e h = ap (little_from 0 2) e ∙ little_number-reads_back 2 x rest h

pub word-encoded : (xs rest : List ℕ) (a x : ℕ) → drop a xs ≡ encoded 4 x ++ rest → x < 2 ^ 32 → word xs a ≡ x
unfolding word encoded
word-encoded xs rest a x e h = ap (little_from 0 4) e ∙ little_number-reads_back 4 x rest h

pub xword-encoded : (xs rest : List ℕ) (a x : ℕ) → drop a xs ≡ encoded 8 x ++ rest → x < 2 ^ 64 → xword xs a ≡ x
unfolding xword encoded
xword-encoded xs rest a x e h = ap (little_from 0 8) e ∙ little_number-reads_back 8 x rest h
