-- The first fault of some words, from that of the words that are left.
use Rattle.std.proofs.Common.{◌≡◌, ℕ, ◌+◌, ◌<◌, ◌≤◌, List, [], ◌∷◌, ◌++◌, Option, None, length, take, drop, get_or, map, sym, ap, ◌∙◌, arith}
use Rattle.std.proofs.lemmas.List.{at_drop_more, at_drop_all, take_more, get_or-map, length-take-le, length-map, take-map}
use Rattle.cli_words.specs.declared.word.CommandWord.{CommandWord}
use Rattle.cli_words.specs.declared.fault.UsageKind.{UsageKind}
use Rattle.cli_words.specs.Grammar.{first_fault, or_else, word_fault}

-- the first fault that is found behind i words, none of which is at fault
abbrev pub fault_from : CommandWord → List (List ℕ) → ℕ → Option (ℕ × UsageKind)
fault_from command words i = first_fault command (take i words) (drop i words)

pub fault_here : (command : CommandWord) (words : List (List ℕ)) (i : ℕ) (d : List ℕ) → i < length words
    → fault_from command words i ≡ or_else (word_fault command (take i words) (get_or words i d)) (i + 1) (fault_from command words (i + 1))
unfolding first_fault
fault_here command words i d within =
    at_drop_more (first_fault command (take i words)) words i d within
    ∙ ap (λ n. or_else (word_fault command (take i words) (get_or words i d)) (n + 1) (first_fault command (take i words ++ get_or words i d ∷ []) (drop (i + 1) words))) (length-take-le i words (omega arith))
    ∙ ap (λ before. or_else (word_fault command (take i words) (get_or words i d)) (i + 1) (first_fault command before (drop (i + 1) words))) (sym (take_more words i d within))

pub no_fault_left : (command : CommandWord) (words : List (List ℕ)) (i : ℕ) → length words ≤ i → fault_from command words i ≡ None
unfolding first_fault
no_fault_left command words i end = at_drop_all (first_fault command (take i words)) words i end

module _ {K : Type 0} (text : K → List ℕ) (xs : List K) where
  -- one word more
  pub fault_next : (command : CommandWord) (i : ℕ) (x : K) (shown : List ℕ) (found : Option UsageKind) → i < length xs → x ≡ get_or xs i x → shown ≡ text x → found ≡ word_fault command (map text (take i xs)) shown
      → fault_from command (map text xs) i ≡ or_else found (i + 1) (fault_from command (map text xs) (i + 1))
  fault_next command i x shown found within at spelled judged =
      let rest = fault_from command (map text xs) (i + 1) in
      let inside : i < length (map text xs) = simp length-map within in
      fault_here command (map text xs) i [] inside
      ∙ ap (λ word. or_else (word_fault command (take i (map text xs)) word) (i + 1) rest) (get_or-map text xs i x [] within ∙ ap text (sym at) ∙ sym spelled)
      ∙ ap (λ before. or_else (word_fault command before shown) (i + 1) rest) (take-map text i xs)
      ∙ ap (λ fault. or_else fault (i + 1) rest) (sym judged)
