-- What of a word is compared with options.
use Rattle.std.proofs.Common.{◌≡◌, ◌∙◌, refl, sym, ap, lit<, ℕ, ◌+◌, ◌<◌, ◌≤◌, ◌==◌, List, length, take, drop, take_all, Option, Some, None, Bor, arith, length-take, length-drop}
use Rattle.std.specs.List.{position_or_len}
use Rattle.std.specs.Option.{MatchOption, unwrap_or}
use Rattle.std.specs.Str.Iter.{split_inclusive_steps, split_inclusive_text, split_inclusive_pattern}
use Rattle.std.specs.Str.Pattern.{FindsChar}
use Rattle.std.specs.declared.str.SplitInclusive.{SplitInclusive}
use Rattle.std.proofs.lemmas.Str.Pattern.{split_once_first, drop_at_char}
use Rattle.advice.specs.Advice.{option_part}

-- the first `=` of a word stands where it is found
first : (word : List ℕ) (i j : ℕ) → FindsChar 61 word (Some (i, j)) → j ≡ position_or_len (λ byte. byte == 61) word + 1
first word i j found =
    let rest : length (drop i word) ≡ length (drop j word) + 1 = ap length (drop_at_char 61 word i j found.1 (lit< tt)) ∙ omega arith in
    let behind : j ≡ i + 1 = found.1.ends in
    let inside : j ≤ length word = omega (arith, rest, length-drop i word, length-drop j word, behind) in
    let long : length (take i word) ≡ i = omega (arith, length-take i word, inside, behind) in
    let left : length (drop j word) + j ≡ length word = omega (arith, length-drop j word, inside) in
    let split = split_once_first 61 word (Some (record { ref_ptr = (0, 0); now = take i word }, record { ref_ptr = (0, 0); now = drop j word }))
    (i, j, found, refl, refl, omega (arith, behind), long, left) (lit< tt) in
    omega (arith, split.0, ap length split.1, long, behind, length-take (position_or_len (λ byte. byte == 61) word) word)

-- a part that ends at the first `=`, where there is one
ended : (word part : List ℕ) (at : Option (ℕ × ℕ)) → FindsChar 61 word at → MatchOption at ((part ≡ word) × (0 < length word)) (λ q. 0 < q.1 → part ≡ take q.1 word)
    → part ≡ option_part word
ended word part None none is =
    let beyond : position_or_len (λ byte. byte == 61) word ≡ length word = split_once_first 61 word None none (lit< tt) in
    is.0 ∙ sym (take_all (position_or_len (λ byte. byte == 61) word + 1) word (omega (arith, beyond)))
ended word part (Some (i, j)) found is =
    let at = first word i j found in
    is (omega (arith, at)) ∙ ap (λ n. take n word) at

-- the first part of a word that is split behind each `=`, or the word where it has none
pub first_part : (word : Bor (List ℕ)) (s t : SplitInclusive ℕ) (part : Option (Bor (List ℕ))) → split_inclusive_steps FindsChar (λ a b. b ≡ a) s part t
    → split_inclusive_pattern s ≡ 61 → split_inclusive_text s ≡ word.now → (unwrap_or part word).now ≡ option_part word.now
first_part word s t None step pattern text =
    let empty : length word.now ≡ 0 = sym (ap length text) ∙ step.1.0 in
    sym (take_all (position_or_len (λ byte. byte == 61) word.now + 1) word.now (omega (arith, empty)))
first_part word s t (Some part) step pattern text =
    let ends = rw text at (rw pattern at step.1.1) in
    ended word.now part.now ends.0 ends.1 ends.2
