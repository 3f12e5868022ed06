-- The headers of the object with the new sections, as they are read from its bytes.
use Rattle.std.proofs.Common.{◌≡◌, ◌⊎◌, inl, inr, ℕ, ◌+◌, ◌*◌, ◌/◌, ◌^◌, ◌<◌, ◌≤◌, List, [], ◌∷◌, ◌++◌, length, drop, sym, ap, subst, ◌∙◌, arith, length-drop}
use Rattle.std.proofs.lemmas.Bool.Decides.{nat_tests}
use Rattle.std.proofs.lemmas.List.{append-nil, length-take-le}
use Rattle.elf_objects.specs.Number.{half, xword}
use Rattle.elf_objects.specs.File.{headers_at, name_table, section_count}
use Rattle.elf_objects.specs.Table.{body_of, name_header}
use Rattle.elf_write.specs.Layout.{NewEntry, Input, all_headers, all_names, bodies, changed_input, count_of, encoded, extended, headers_place, names_place, pieces, short_count, written}
use Rattle.elf_write.proofs.Lists.{length-encoded, length-written}
use Rattle.elf_write.proofs.Parts.{part, part-before, part-behind, part-inside, part-laid_out, part-whole}
use Rattle.elf_write.proofs.Numbers.{half-same, half-encoded, xword-same, xword-encoded}
use Rattle.elf_write.proofs.Sizes.{le-end_of}
use Rattle.elf_write.proofs.Build.{IsInput, length-changed_input, length-extended}

-- what the layout takes of the bytes of an object
abbrev pub input_at : List ℕ → Input
input_at b = record {
  bytes = b;
  headers = part (headers_at b) (64 * section_count b) b;
  name_table = name_table b;
  names = body_of b (name_header b);
}

-- what is asked of the bytes and the new sections
pub record Base (b : List ℕ) (new : List NewEntry) : Type 0 where
  pub file : 64 ≤ length b
  pub named : 1 ≤ name_table b
  pub in_table : name_table b < section_count b
  pub holds : headers_at b + 64 * section_count b ≤ length b
  pub some : 0 < length new
  pub few : section_count b + length new ≤ 262144
  pub short : length (extended (input_at b) new) < 2 ^ 32

-- so many items from a place on share none with l items from i on
abbrev pub Outside : ℕ → ℕ → ℕ → ℕ → Type 0
Outside a w i l = (a + w ≤ i) ⊎ (i + l ≤ a)

pub part-outside : (a w i : ℕ) (p xs : List ℕ) → Outside a w i (length p) → i ≤ length xs → part a w (written i p xs) ≡ part a w xs
part-outside a w i p xs (inl h) inside = part-before a w i p xs h inside
part-outside a w i p xs (inr h) inside = part-behind a w i p xs h inside

pub length-headers : (b : List ℕ) (new : List NewEntry) → Base b new → length (input_at b).headers ≡ 64 * section_count b
length-headers b new base =
    let d = length-drop (headers_at b) b in
    length-take-le (64 * section_count b) (drop (headers_at b) b) (omega arith)

pub input_ok : (b : List ℕ) (new : List NewEntry) → Base b new → IsInput (input_at b)
input_ok b new base =
    let l = length-headers b new base in
    record { file_header = base.file; named = base.named; in_table = omega arith }

pub count_is : (b : List ℕ) (new : List NewEntry) → Base b new → count_of (input_at b) new ≡ section_count b + length new
count_is b new base =
    let l = length-headers b new base in
    ap (λ (n : ℕ). n / 64 + length new) l ∙ omega arith

-- the file ends with the headers
pub ends : (b : List ℕ) (new : List NewEntry) → Base b new
    → length (extended (input_at b) new) ≡ headers_place (input_at b) new + 64 * (section_count b + length new)
ends b new base =
    let l = length-headers b new base in
    length-extended (input_at b) new (input_ok b new base) ∙ omega arith

-- the places come one after the other
pub record Places (b : List ℕ) (new : List NewEntry) : Type 0 where
  pub behind : length b ≤ names_place (input_at b)
  pub names : names_place (input_at b) + length (all_names (input_at b) new) ≤ headers_place (input_at b) new
  pub headers : headers_place (input_at b) new + 64 * (section_count b + length new) < 2 ^ 32

pub places : (b : List ℕ) (new : List NewEntry) → Base b new → Places b new
places b new base =
    let e = ends b new base in
    let n = le-end_of (names_place (input_at b) + length (all_names (input_at b) new)) (bodies new) in
    let s = base.short in
    record { behind = omega arith; names = omega arith; headers = omega arith }

-- the bytes of the input are as they were, but for e_shoff and e_shnum
pub part-input : (b : List ℕ) (new : List NewEntry) (a w : ℕ) → Base b new → a + w ≤ length b → Outside a w 40 8 → Outside a w 60 2
    → part a w (extended (input_at b) new) ≡ part a w b
part-input b new a w base h x y =
    let i : Input = input_at b in
    let short : List ℕ = encoded 2 (short_count (count_of i new)) in
    let long : List ℕ = encoded 8 (headers_place i new) in
    let l2 : length short ≡ 2 = length-encoded 2 (short_count (count_of i new)) in
    let l8 : length long ≡ 8 = length-encoded 8 (headers_place i new) in
    let file = base.file in
    let l : length (changed_input i new) ≡ length b = length-changed_input i new (input_ok b new base) in
    let m : length (written 60 short b) ≡ length b = length-written 60 short b (omega arith) in
    let x' : Outside a w 40 (length long) = subst (Outside a w 40) (sym l8) x in
    let y' : Outside a w 60 (length short) = subst (Outside a w 60) (sym l2) y in
    part-laid_out a w (changed_input i new) (pieces i new ++ all_headers i new ∷ []) (omega arith)
    ∙ part-outside a w 40 long (written 60 short b) x' (omega arith)
    ∙ part-outside a w 60 short b y' (omega arith)

half-part : (xs : List ℕ) (a x : ℕ) → part a 2 xs ≡ encoded 2 x → x < 2 ^ 16 → half xs a ≡ x
half-part xs a x e h =
    half-same a 0 xs (encoded 2 x) (e ∙ sym (part-whole 2 (encoded 2 x) (length-encoded 2 x)))
    ∙ half-encoded (encoded 2 x) [] 0 x (sym (append-nil (encoded 2 x))) h

pub xword-part : (xs : List ℕ) (a x : ℕ) → part a 8 xs ≡ encoded 8 x → x < 2 ^ 64 → xword xs a ≡ x
xword-part xs a x e h =
    xword-same a 0 xs (encoded 8 x) (e ∙ sym (part-whole 8 (encoded 8 x) (length-encoded 8 x)))
    ∙ xword-encoded (encoded 8 x) [] 0 x (sym (append-nil (encoded 8 x))) h

-- e_shoff
pub headers_at-output : (b : List ℕ) (new : List NewEntry) → Base b new
    → headers_at (extended (input_at b) new) ≡ headers_place (input_at b) new
headers_at-output b new base =
    let i : Input = input_at b in
    let short : List ℕ = encoded 2 (short_count (count_of i new)) in
    let long : List ℕ = encoded 8 (headers_place i new) in
    let l2 : length short ≡ 2 = length-encoded 2 (short_count (count_of i new)) in
    let l8 : length long ≡ 8 = length-encoded 8 (headers_place i new) in
    let file = base.file in
    let l : length (changed_input i new) ≡ length b = length-changed_input i new (input_ok b new base) in
    let m : length (written 60 short b) ≡ length b = length-written 60 short b (omega arith) in
    let p = places b new base in
    xword-part (extended i new) 40 (headers_place i new)
    (part-laid_out 40 8 (changed_input i new) (pieces i new ++ all_headers i new ∷ []) (omega arith)
    ∙ part-inside 40 0 8 40 long (written 60 short b) (omega arith) (omega arith) (omega arith)
    ∙ part-whole 8 long l8)
    (omega (arith, p.headers))

-- e_shnum
pub shnum-output : (b : List ℕ) (new : List NewEntry) → Base b new
    → half (extended (input_at b) new) 60 ≡ short_count (section_count b + length new)
shnum-output b new base =
    let i : Input = input_at b in
    let short : List ℕ = encoded 2 (short_count (count_of i new)) in
    let long : List ℕ = encoded 8 (headers_place i new) in
    let l2 : length short ≡ 2 = length-encoded 2 (short_count (count_of i new)) in
    let l8 : length long ≡ 8 = length-encoded 8 (headers_place i new) in
    let file = base.file in
    let l : length (changed_input i new) ≡ length b = length-changed_input i new (input_ok b new base) in
    let m : length (written 60 short b) ≡ length b = length-written 60 short b (omega arith) in
    let e = count_is b new base in
    half-part (extended i new) 60 (short_count (count_of i new))
    (part-laid_out 60 2 (changed_input i new) (pieces i new ++ all_headers i new ∷ []) (omega arith)
    ∙ part-behind 60 2 40 long (written 60 short b) (omega arith) (omega arith)
    ∙ part-inside 60 0 2 60 short b (omega arith) (omega arith) (omega arith)
    ∙ part-whole 2 short l2)
    (grind (arith, nat_tests))
    ∙ ap short_count e
