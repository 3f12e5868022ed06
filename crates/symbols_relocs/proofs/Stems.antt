-- The names of parts in a string table.
use Rattle.std.proofs.Common.{◌≡◌, ℕ, ◌+◌, ◌-◌, ◌≤◌, Bool, true, false, cond, eqb, ◌==◌, min, List, ◌++◌, length, length-take, length-drop, take, drop, reverse, slice_range, bytes_eq, codes, Option, Some, None, refl, sym, ap, ◌∙◌, arith}
use Rattle.std.specs.List.{prefix_len}
use Rattle.std.specs.Option.{option_or}
use Rattle.std.proofs.lemmas.Bool.{eqb-true}
use Rattle.std.proofs.lemmas.List.{drop-take, length-reverse, reverse-append, take-append-drop, take-take, take_min}
use Rattle.std.proofs.lemmas.List.Folds.{length-prefix_len, prefix_len-append}
use Rattle.std.proofs.lemmas.List.Sums.{prefix_len-le-length}
use Rattle.std.proofs.lemmas.Option.{cond_some, none-some}
use Rattle.symbols_relocs.specs.Parts.{before_ending, digits_at_end, is_digit, numbered_part, part_name, without_digits}

-- ---- digits

least : (d l x a : ℕ) → d ≤ l → a ≡ cond (eqb d l) (l + x) d → d ≡ min a l
least d l x a le e = by (eqb d l) refl
  where
    by : (b : Bool) → eqb d l ≡ b → d ≡ min a l
    by true f = let s : d ≡ l = eqb-true d l f in let t : a ≡ l + x = e ∙ ap (λ c. cond c (l + x) d) f in omega (arith, s, t)
    by false f = let t : a ≡ d = e ∙ ap (λ c. cond c (l + x) d) f in omega (arith, t, le)

module _ (table : List ℕ) (start end : ℕ) (order : start ≤ end) (inside : end ≤ length table) where
  length_name : length (slice_range table start end) ≡ end - start
  length_name = simp (length-take, length-drop) (omega arith)

  name_behind : drop start (take end table) ≡ slice_range table start end
  name_behind = ap (λ n. drop start (take n table)) (omega arith) ∙ drop-take start (end - start) table

  table_split : take end table ≡ take start (take end table) ++ slice_range table start end
  table_split = sym (take-append-drop start (take end table)) ∙ ap (λ t. take start (take end table) ++ t) name_behind

  digits_is : (bytes : List ℕ) → digits_at_end bytes ≡ prefix_len is_digit (reverse bytes)
  digits_is bytes = length-prefix_len is_digit (reverse bytes)

  pub digits_of_name : digits_at_end (slice_range table start end) ≡ min (digits_at_end (take end table)) (end - start)
  digits_of_name =
      let name : List ℕ = slice_range table start end in
      let front : List ℕ = take start (take end table) in
      let both : reverse (take end table) ≡ reverse name ++ reverse front = ap reverse table_split ∙ reverse-append front name in
      let count : prefix_len is_digit (reverse (take end table)) ≡ cond (eqb (prefix_len is_digit (reverse name)) (length (reverse name))) (length (reverse name) + prefix_len is_digit (reverse front)) (prefix_len is_digit (reverse name)) = ap (prefix_len is_digit) both ∙ prefix_len-append is_digit (reverse name) (reverse front) in
      let low = prefix_len-le-length is_digit (reverse name) in
      let it = least (prefix_len is_digit (reverse name)) (length (reverse name)) (prefix_len is_digit (reverse front)) (prefix_len is_digit (reverse (take end table))) low count in
      let l = length-reverse name in
      let m = length_name in
      let d = digits_is name in
      let t = digits_is (take end table) in
      omega (arith, it, l, m, d, t)

-- ---- stems

-- the first bytes of a name
record IsPrefix (p name : List ℕ) : Type 0 where
  short : length p ≤ length name
  is : p ≡ take (length p) name

taken : (n : ℕ) (name p : List ℕ) → take n name ≡ p → IsPrefix p name
taken n name p e =
    let l : length p ≡ min n (length name) = ap (λ (t : List ℕ). length t) (sym e) ∙ length-take n name in
    record {
      short = omega (arith, l);
      is = sym e ∙ sym (take_min n name) ∙ ap (λ k. take k name) (sym l);
    }

prefix_of_prefix : (p q name : List ℕ) → IsPrefix p q → IsPrefix q name → IsPrefix p name
prefix_of_prefix p q name a b = record {
  short = let x = a.short in let y = b.short in omega (arith, x, y);
  is = a.is ∙ ap (take (length p)) b.is ∙ take-take (length p) (length q) name a.short;
}

before_prefix : (ending name p : List ℕ) → before_ending ending name ≡ Some p → IsPrefix p name
before_prefix ending name p e = taken (length name - length ending) name p (cond_some (bytes_eq (drop (length name - length ending) name) ending) (take (length name - length ending) name) p e).1

numbered_prefix : (name p : List ℕ) → numbered_part name ≡ Some p → IsPrefix p name
numbered_prefix name p e = by (digits_at_end name == 0) e
  where
    by : (b : Bool) → cond b None (before_ending (codes ".cold.") (without_digits name)) ≡ Some p → IsPrefix p name
    by true f = absurd (none-some p f)
    by false f = prefix_of_prefix p (without_digits name) name (before_prefix (codes ".cold.") (without_digits name) p f) (taken (length name - digits_at_end name) name (without_digits name) refl)

part_prefix : (name p : List ℕ) → part_name name ≡ Some p → IsPrefix p name
part_prefix name p e = by (before_ending (codes ".cold") name) refl e
  where
    by : (o : Option (List ℕ)) → before_ending (codes ".cold") name ≡ o → option_or o (numbered_part name) ≡ Some p → IsPrefix p name
    by None f g = numbered_prefix name p g
    by (Some q) f g = before_prefix (codes ".cold") name p (f ∙ g)

module _ (table : List ℕ) (start end : ℕ) (order : start ≤ end) (inside : end ≤ length table) (p : List ℕ) (part : Some p ≡ part_name (slice_range table start end)) where
  pub stem_within : start + length p ≤ end
  stem_within =
      let w = part_prefix (slice_range table start end) p (sym part) in
      let s = w.short in
      let l = length_name table start end order inside in
      omega (arith, s, l)

  pub stem_is : slice_range table start (start + length p) ≡ p
  stem_is =
      let w = part_prefix (slice_range table start end) p (sym part) in
      let n : start + length p - start ≡ length p = omega arith in
      let low = stem_within in
      ap (λ k. take k (drop start table)) n ∙ sym (take-take (length p) (end - start) (drop start table) (omega (arith, low))) ∙ sym w.is
