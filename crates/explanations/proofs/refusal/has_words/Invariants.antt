use Rattle.std.proofs.Common.{◌≡◌, drop}
use Rattle.explanations.specs.Refusals.{has_words}
use Rattle.explanations.proofs.refusal.has_words.Given as goal

-- the words stand in the line where they stand in what is left of it
abbrev pub invariant-loop-at : goal.invariant-loop-at
invariant-loop-at l = has_words l.line l.words ≡ has_words (drop l.at l.line) l.words
