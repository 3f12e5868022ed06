-- The file header is read back.
use Rattle.std.proofs.Common.{◌≡◌, ℕ, ◌+◌, ◌-◌, ◌^◌, ◌<◌, List, [], ◌∷◌, ◌++◌, length, drop, replicate, slice_index, refl, sym, ap, ◌∙◌, arith, None}
use Rattle.std.proofs.lemmas.Bool.Decides.{nat_tests}
use Rattle.std.proofs.lemmas.List.{append_assoc, append-nil, drop-drop, drop_at}
use Rattle.elf_objects.specs.File.{wrong_field}
use Rattle.elf_objects.specs.Number.{half, word, xword}
use Rattle.elf_write.specs.Layout.{NewEntry, encoded, header_table, short_count}
use Rattle.elf_write.proofs.Lists.{length-encoded}
use Rattle.elf_write.proofs.Numbers.{half-encoded, word-encoded, xword-encoded}
use Rattle.demo_objects.specs.Layout.{file_header, file_of, first_header, headers_from, headers_place, identification, next_multiple, short_index, with_bodies}

-- what is laid out begins with what stood before
pub front : (xs : List ℕ) (es : List NewEntry) → (rest : List ℕ) × (with_bodies xs es ≡ xs ++ rest)
front xs [] = ([], sym (append-nil xs))
front xs (e ∷ es) =
    let gap : List ℕ = replicate (next_multiple e.align (length xs) - length xs) 0 in
    let f = front ((xs ++ gap) ++ e.body) es in
    ((gap ++ e.body) ++ f.0, f.1 ∙ simp append_assoc refl)

-- and so does the file
pub begins : (es : List NewEntry) → (rest : List ℕ) × (file_of es ≡ file_header (headers_place es) (length es + 1) ++ rest)
unfolding file_of
begins es =
    let h : List ℕ = file_header (headers_place es) (length es + 1) in
    let all : List ℕ = with_bodies h es in
    let gap : List ℕ = replicate (next_multiple 8 (length all) - length all) 0 in
    let table : List ℕ = header_table (first_header (length es + 1) ∷ headers_from 1 64 es) in
    let f = front h es in
    ((f.0 ++ gap) ++ table, ap (λ (xs : List ℕ). (xs ++ gap) ++ table) f.1 ∙ ap (λ (xs : List ℕ). xs ++ table) (append_assoc h f.0 gap) ∙ append_assoc h (f.0 ++ gap) table)

-- one more field is passed over
pub next : (n w x : ℕ) (xs rest : List ℕ) → drop n xs ≡ encoded w x ++ rest → drop (n + w) xs ≡ rest
next n w x xs rest e = sym (drop-drop w n xs) ∙ ap (drop w) e ∙ drop_at (encoded w x) rest w (length-encoded w x)

short-count : (n : ℕ) → short_count n < 2 ^ 16
short-count n = grind (arith, nat_tests)

short-index : (n : ℕ) → short_index n < 2 ^ 16
short-index n = grind (arith, nat_tests)

-- what the fields of a file header tell
pub record TellsHeaders (b : List ℕ) (at count : ℕ) : Type 0 where
  pub target : wrong_field b ≡ None
  pub place : xword b 40 ≡ at
  pub number : half b 60 ≡ short_count count
  pub names : half b 62 ≡ short_index (count - 1)

pub tells-headers : (b rest : List ℕ) (at count : ℕ) → b ≡ file_header at count ++ rest → at < 2 ^ 64 → TellsHeaders b at count
unfolding wrong_field
tells-headers b rest at count e fits =
    let r13 : List ℕ = encoded 2 (short_index (count - 1)) ++ rest in
    let r12 : List ℕ = encoded 2 (short_count count) ++ r13 in
    let r11 : List ℕ = encoded 2 64 ++ r12 in
    let r10 : List ℕ = encoded 2 0 ++ r11 in
    let r9 : List ℕ = encoded 2 0 ++ r10 in
    let r8 : List ℕ = encoded 2 64 ++ r9 in
    let r7 : List ℕ = encoded 4 0 ++ r8 in
    let r6 : List ℕ = encoded 8 at ++ r7 in
    let r5 : List ℕ = encoded 8 0 ++ r6 in
    let r4 : List ℕ = encoded 8 0 ++ r5 in
    let r3 : List ℕ = encoded 4 1 ++ r4 in
    let r2 : List ℕ = encoded 2 62 ++ r3 in
    let r1 : List ℕ = encoded 2 1 ++ r2 in
    let is : b ≡ identification ++ r1 = e ∙ simp append_assoc refl in
    let d1 : drop 16 b ≡ r1 = ap (drop 16) is ∙ drop_at identification r1 16 refl in
    let d2 : drop 18 b ≡ r2 = next 16 2 1 b r2 d1 in
    let d3 : drop 20 b ≡ r3 = next 18 2 62 b r3 d2 in
    let d4 : drop 24 b ≡ r4 = next 20 4 1 b r4 d3 in
    let d5 : drop 32 b ≡ r5 = next 24 8 0 b r5 d4 in
    let d6 : drop 40 b ≡ r6 = next 32 8 0 b r6 d5 in
    let d7 : drop 48 b ≡ r7 = next 40 8 at b r7 d6 in
    let d8 : drop 52 b ≡ r8 = next 48 4 0 b r8 d7 in
    let d9 : drop 54 b ≡ r9 = next 52 2 64 b r9 d8 in
    let d10 : drop 56 b ≡ r10 = next 54 2 0 b r10 d9 in
    let d11 : drop 58 b ≡ r11 = next 56 2 0 b r11 d10 in
    let d12 : drop 60 b ≡ r12 = next 58 2 64 b r12 d11 in
    let d13 : drop 62 b ≡ r13 = next 60 2 (short_count count) b r13 d12 in
    let b0 : slice_index b 0 ≡ 0x7F = ap (λ (xs : List ℕ). slice_index xs 0) is in
    let b1 : slice_index b 1 ≡ 0x45 = ap (λ (xs : List ℕ). slice_index xs 1) is in
    let b2 : slice_index b 2 ≡ 0x4C = ap (λ (xs : List ℕ). slice_index xs 2) is in
    let b3 : slice_index b 3 ≡ 0x46 = ap (λ (xs : List ℕ). slice_index xs 3) is in
    let b4 : slice_index b 4 ≡ 2 = ap (λ (xs : List ℕ). slice_index xs 4) is in
    let b5 : slice_index b 5 ≡ 1 = ap (λ (xs : List ℕ). slice_index xs 5) is in
    let b6 : slice_index b 6 ≡ 1 = ap (λ (xs : List ℕ). slice_index xs 6) is in
    let n16 : half b 16 ≡ 1 = half-encoded b r2 16 1 d1 (omega arith) in
    let n18 : half b 18 ≡ 62 = half-encoded b r3 18 62 d2 (omega arith) in
    let n20 : word b 20 ≡ 1 = word-encoded b r4 20 1 d3 (omega arith) in
    let n52 : half b 52 ≡ 64 = half-encoded b r9 52 64 d8 (omega arith) in
    let n58 : half b 58 ≡ 64 = half-encoded b r12 58 64 d11 (omega arith) in
    record {
      target = rw (b0, b1, b2, b3, b4, b5, b6, n16, n18, n20, n52, n58) refl;
      place = xword-encoded b r7 40 at d6 fits;
      number = half-encoded b r13 60 (short_count count) d12 (short-count count);
      names = half-encoded b rest 62 (short_index (count - 1)) d13 (short-index (count - 1));
    }
