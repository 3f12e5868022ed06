-- Parts of a list: so many items from a place on.
use Rattle.std.proofs.Common.{◌≡◌, ℕ, ◌+◌, ◌-◌, ◌≤◌, List, [], ◌∷◌, ◌++◌, length, take, drop, get_or, slice_index, replicate, refl, sym, ap, ◌∙◌, arith, length-append, length-drop}
use Rattle.std.proofs.lemmas.List.{drop-append-le, drop-drop, drop-take, drop_at, get_or-drop, get_or-take, length-take-le, take-append-le, take-take, take_all}
use Rattle.elf_write.specs.Layout.{aligned, end_of, laid_out, padded, written}
use Rattle.elf_write.proofs.Sizes.{laid_out-append, length-laid_out, length-padded}

-- w items from place a on
abbrev pub part : ℕ → ℕ → List ℕ → List ℕ
part a w xs = take w (drop a xs)

-- a part of the first of two lists
pub part-left : (a w : ℕ) (xs ys : List ℕ) → a + w ≤ length xs → part a w (xs ++ ys) ≡ part a w xs
part-left a w xs ys h =
    let d : length (drop a xs) ≡ length xs - a = length-drop a xs in
    ap (take w) (drop-append-le a xs ys (omega arith)) ∙ take-append-le w (drop a xs) ys (omega arith)

-- a part of the second
pub part-right : (a c w : ℕ) (xs ys : List ℕ) → a ≡ length xs + c → part a w (xs ++ ys) ≡ part c w ys
part-right a c w xs ys e =
    ap (λ (n : ℕ). take w (drop n (xs ++ ys))) e
    ∙ ap (take w) (sym (drop-drop c (length xs) (xs ++ ys)) ∙ ap (drop c) (drop_at xs ys (length xs) refl))

-- a part of a part
pub part-part : (a w c d : ℕ) (xs : List ℕ) → a + w ≤ d → part a w (part c d xs) ≡ part (c + a) w xs
part-part a w c d xs h =
    let e : d ≡ a + (d - a) = omega arith in
    ap (λ (n : ℕ). take w (drop a (take n (drop c xs)))) e
    ∙ ap (take w) (drop-take a (d - a) (drop c xs))
    ∙ take-take w (d - a) (drop a (drop c xs)) (omega arith)
    ∙ ap (take w) (drop-drop a c xs)

-- a part before a written one
pub part-before : (a w i : ℕ) (p xs : List ℕ) → a + w ≤ i → i ≤ length xs → part a w (written i p xs) ≡ part a w xs
part-before a w i p xs h inside =
    let t : length (take i xs) ≡ i = length-take-le i xs inside in
    let l : length (take i xs ++ p) ≡ length (take i xs) + length p = length-append (take i xs) p in
    part-left a w (take i xs ++ p) (drop (i + length p) xs) (omega arith)
    ∙ part-left a w (take i xs) p (omega arith)
    ∙ part-part a w 0 i xs h
    ∙ ap (λ (n : ℕ). part n w xs) (omega arith)

-- a part behind it
pub part-behind : (a w i : ℕ) (p xs : List ℕ) → i + length p ≤ a → i ≤ length xs → part a w (written i p xs) ≡ part a w xs
part-behind a w i p xs h inside =
    let t : length (take i xs) ≡ i = length-take-le i xs inside in
    let l : length (take i xs ++ p) ≡ length (take i xs) + length p = length-append (take i xs) p in
    let e : i + length p + (a - (i + length p)) ≡ a = omega arith in
    part-right a (a - (i + length p)) w (take i xs ++ p) (drop (i + length p) xs) (omega arith)
    ∙ ap (take w) (drop-drop (a - (i + length p)) (i + length p) xs)
    ∙ ap (λ (n : ℕ). take w (drop n xs)) e

-- and what was written
pub part-inside : (a c w i : ℕ) (p xs : List ℕ) → a ≡ i + c → c + w ≤ length p → i ≤ length xs → part a w (written i p xs) ≡ part c w p
part-inside a c w i p xs e h inside =
    let t : length (take i xs) ≡ i = length-take-le i xs inside in
    let l : length (take i xs ++ p) ≡ length (take i xs) + length p = length-append (take i xs) p in
    part-left a w (take i xs ++ p) (drop (i + length p) xs) (omega arith)
    ∙ part-right a c w (take i xs) p (omega arith)

-- the whole of a list is a part of it
pub part-whole : (w : ℕ) (xs : List ℕ) → length xs ≡ w → part 0 w xs ≡ xs
part-whole w xs h = take_all w xs (omega arith)

-- one item is a part
pub index-part : (a : ℕ) (xs : List ℕ) → slice_index xs a ≡ get_or (part a 1 xs) 0 0
index-part a xs =
    let e : a + 0 ≡ a = omega arith in
    sym (get_or-take 1 (drop a xs) 0 0 (omega arith) ∙ get_or-drop a xs 0 0 ∙ ap (λ (n : ℕ). get_or xs n 0) e)

-- what stands at the beginning of a layout stays there
pub part-laid_out : (a w : ℕ) (xs : List ℕ) (ps : List (List ℕ)) → a + w ≤ length xs → part a w (laid_out xs ps) ≡ part a w xs
part-laid_out a w xs [] h = refl
part-laid_out a w xs (p ∷ ps) h =
    let l : length (padded xs ++ p) ≡ length (padded xs) + length p = length-append (padded xs) p in
    let m : length (padded xs) ≡ aligned (length xs) = length-padded xs in
    part-laid_out a w (padded xs ++ p) ps (omega arith)
    ∙ part-left a w (padded xs) p (omega arith)
    ∙ part-left a w xs (replicate (aligned (length xs) - length xs) 0) h

-- a piece stands at its place
pub part-piece : (xs : List ℕ) (ps : List (List ℕ)) (p : List ℕ) (qs : List (List ℕ))
    → part (aligned (end_of (length xs) ps)) (length p) (laid_out xs (ps ++ p ∷ qs)) ≡ p
part-piece xs ps p qs =
    let front : List ℕ = laid_out xs ps in
    let m : length (padded front) ≡ aligned (end_of (length xs) ps) = length-padded front ∙ ap aligned (length-laid_out xs ps) in
    let l : length (padded front ++ p) ≡ length (padded front) + length p = length-append (padded front) p in
    ap (part (aligned (end_of (length xs) ps)) (length p)) (laid_out-append xs ps (p ∷ qs))
    ∙ part-laid_out (aligned (end_of (length xs) ps)) (length p) (padded front ++ p) qs (omega arith)
    ∙ part-right (aligned (end_of (length xs) ps)) 0 (length p) (padded front) p (omega arith)
    ∙ part-whole (length p) p refl
