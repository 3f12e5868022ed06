-- The closest known word, from one word to the next.
use Rattle.std.proofs.Common.{◌≡◌, ℕ, ◌+◌, ◌≤◌, ◌<◌, List, [], ◌∷◌, ◌++◌, Some, length, map, take, get_or, Bor, ◌∙◌, ap, arith}
use Rattle.std.proofs.lemmas.List.{get_or-map, length-map, take_more}
use Rattle.std.proofs.lemmas.List.Elements.{All-push, All-weaker, Contains-push}
use Rattle.cli_words.specs.Words.{Word}
use Rattle.advice.specs.declared.nearest.Candidate.{Candidate}
use Rattle.advice.specs.Nearest.{IsClosest, edits}

-- the next word is nearer
pub changes : (word : Word) (known : List Word) (best next : Candidate) → IsClosest word known (Some best) → next.edits ≡ edits word next.known.now → next.edits < best.edits
    → IsClosest word (known ++ next.known.now ∷ []) (Some next)
changes word known best next is counted nearer = (
  (Contains-push known next.known.now, counted),
  All-push (λ other. next.edits ≤ edits word other) known next.known.now
      (All-weaker (λ other. best.edits ≤ edits word other) (λ other. next.edits ≤ edits word other) (λ other further. omega (arith, further, nearer)) known is.1) (omega (arith, counted)),
)

-- what is the closest with the next word, is the closest of one word more
pub goes_on : (word : Word) (known : List (Bor Word)) (i : ℕ) (d : Bor Word) (best : Candidate) → i < length known
    → IsClosest word (take i (map (λ other. other.now) known) ++ (get_or known i d).now ∷ []) (Some best)
    → IsClosest word (take (i + 1) (map (λ other. other.now) known)) (Some best)
goes_on word known i d best lt is =
    let long = length-map known (λ (other : Bor Word). other.now) in
    let more : take (i + 1) (map (λ other. other.now) known) ≡ take i (map (λ other. other.now) known) ++ (get_or known i d).now ∷ [] =
    take_more (map (λ other. other.now) known) i d.now (omega (arith, lt, long))
    ∙ ap (λ next. take i (map (λ other. other.now) known) ++ next ∷ []) (get_or-map (λ (other : Bor Word). other.now) known i d d.now lt) in
    rw more is
