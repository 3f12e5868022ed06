-- Lists with a part written over.
use Rattle.std.proofs.Common.{◌≡◌, ℕ, ◌+◌, ◌-◌, ◌≤◌, List, ◌++◌, length, take, drop, refl, sym, ap, ◌∙◌, arith, rules, length-append, length-drop}
use Rattle.std.proofs.lemmas.List.{append_assoc, drop-append-le, drop-take, length-take-le, take-append-le, take-take, take_rest}
use Rattle.elf_write.specs.Layout.{written, encoded}
use Rattle.byteorder.specs.Numbers.{length-bytes_low_first}

-- a number takes as many bytes as it is given
pub length-encoded : (width x : ℕ) → length (encoded width x) ≡ width
unfolding encoded
length-encoded width x = length-bytes_low_first 0 width x

pub length-written : (i : ℕ) (a xs : List ℕ) → i + length a ≤ length xs → length (written i a xs) ≡ length xs
length-written i a xs h =
    let t : length (take i xs) ≡ i = length-take-le i xs (omega arith) in
    omega (arith, length-append (take i xs ++ a) (drop (i + length a) xs), length-append (take i xs) a, length-drop (i + length a) xs)

-- what stands before a written part
pub take-written : (k i : ℕ) (a xs : List ℕ) → k ≤ i → i ≤ length xs → take k (written i a xs) ≡ take k xs
take-written k i a xs low high =
    let t : length (take i xs) ≡ i = length-take-le i xs high in
    let l : k ≤ length (take i xs ++ a) = omega (arith, length-append (take i xs) a) in
    take-append-le k (take i xs ++ a) (drop (i + length a) xs) l
    ∙ take-append-le k (take i xs) a (omega arith)
    ∙ take-take k i xs low

-- what stands from a place before a written part on
pub drop-written : (k i : ℕ) (a xs : List ℕ) → k ≤ i → i ≤ length xs
    → drop k (written i a xs) ≡ (take (i - k) (drop k xs) ++ a) ++ drop (i + length a) xs
drop-written k i a xs low high =
    let t : length (take i xs) ≡ i = length-take-le i xs high in
    let l : k ≤ length (take i xs ++ a) = omega (arith, length-append (take i xs) a) in
    let e : i ≡ k + (i - k) = omega arith in
    let mid : drop k (take i xs) ≡ take (i - k) (drop k xs) = ap (λ (n : ℕ). drop k (take n xs)) e ∙ drop-take k (i - k) xs in
    drop-append-le k (take i xs ++ a) (drop (i + length a) xs) l
    ∙ ap (λ (p : List ℕ). p ++ drop (i + length a) xs) (drop-append-le k (take i xs) a (omega arith) ∙ ap (λ (p : List ℕ). p ++ a) mid)

-- the same, pushed piece by piece on what stands before
pub pushed_two : (i k j m end : ℕ) (a b xs o0 o1 o2 o3 o4 o5 : List ℕ) → i + length a ≡ k → k ≤ j → j + length b ≡ m → m ≤ length xs → end ≡ length xs
    → o1 ≡ o0 ++ take i xs → o2 ≡ o1 ++ a → o3 ≡ o2 ++ take (j - k) (drop k xs) → o4 ≡ o3 ++ b
    → o5 ≡ o4 ++ take (end - m) (drop m xs)
    → o5 ≡ o0 ++ written i a (written j b xs)
pushed_two i k j m end a b xs o0 o1 o2 o3 o4 o5 at_k low at_m high e h1 h2 h3 h4 h5 =
    let mid : List ℕ = take (j - k) (drop k xs) in
    let rest : List ℕ = drop m xs in
    let t = take-written i j b xs (omega arith) (omega arith) in
    let d = drop-written k j b xs low (omega arith) in
    let w : written i a (written j b xs) ≡ (take i xs ++ a) ++ ((mid ++ b) ++ rest) = rw (at_k, t, d, at_m) refl in
    let tail : take (end - m) rest ≡ rest = ap (λ (n : ℕ). take (n - m) rest) e ∙ take_rest xs m in
    h5 ∙ ap (λ (p : List ℕ). o4 ++ p) tail
    ∙ ap (λ (p : List ℕ). p ++ rest) (h4 ∙ ap (λ (p : List ℕ). p ++ b) (h3 ∙ ap (λ (p : List ℕ). p ++ mid) (h2 ∙ ap (λ (p : List ℕ). p ++ a) h1)))
    ∙ search (rules, append_assoc)
    ∙ ap (λ (p : List ℕ). o0 ++ p) (sym w)
