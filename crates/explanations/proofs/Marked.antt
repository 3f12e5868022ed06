-- The words of a refusal in a line.
use Rattle.std.proofs.Common.{◌≡◌, ◌∙◌, refl, sym, ap, ℕ, ◌==◌, ◌||◌, ◌+◌, ◌<◌, suc, true, false, cond, List, [], ◌∷◌, length, drop, add-one, map, Option, Some, None, option_map, Bor}
use Rattle.std.proofs.Math.Seq.{drop-cons}
use Rattle.std.specs.List.{find, starts_with}
use Rattle.explanations.specs.Refusals.{has_words, mark_of, topic_in}

-- words stand in what is left of a line where it begins with them, or where they stand behind its first byte
pub words-next : (line words : List ℕ) (at : ℕ) → at < length line
    → has_words (drop at line) words ≡ (starts_with (λ a b. a == b) (drop at line) words || has_words (drop (at + 1) line) words)
words-next line words at below =
    let cut = drop-cons line at 0 below in
    ap (λ rest. has_words rest words) cut
    ∙ ap (λ rest. starts_with (λ a b. a == b) rest words || has_words (drop (suc at) line) words) (sym cut)
    ∙ ap (λ n. starts_with (λ a b. a == b) (drop at line) words || has_words (drop n line) words) (sym (add-one at))

found : (marks : List (Bor (List ℕ) × Bor (List ℕ))) (line : List ℕ) → option_map mark_of (find (λ mark. has_words line mark.0.now) marks) ≡ find (λ mark. has_words line mark.words) (map mark_of marks)
found [] line = refl
found (mark ∷ marks) line =
    elim (has_words line mark.0.now) as (λ b. option_map mark_of (cond b (Some mark) (find (λ m. has_words line m.0.now) marks)) ≡ cond b (Some (mark_of mark)) (find (λ m. has_words line m.words) (map mark_of marks)))
    [ true ↦ refl | false ↦ found marks line ]

-- the topic of what is found is that of the mark
pub topic-found : (marks : List (Bor (List ℕ) × Bor (List ℕ))) (line : List ℕ) (mark : Option (Bor (List ℕ) × Bor (List ℕ)))
    → mark ≡ find (λ mark. has_words line mark.0.now) marks
    → option_map (λ mark. mark.1.now) mark ≡ topic_in (map mark_of marks) line
topic-found marks line mark e = topic-of mark ∙ ap (option_map (λ m. m.topic)) (ap (option_map mark_of) e ∙ found marks line)
  where
    topic-of : (mark : Option (Bor (List ℕ) × Bor (List ℕ))) → option_map (λ mark. mark.1.now) mark ≡ option_map (λ m. m.topic) (option_map mark_of mark)
    topic-of (Some mark) = refl
    topic-of None = refl
