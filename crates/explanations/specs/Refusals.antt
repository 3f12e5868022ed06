-- Which kind of refusal, or which reason for which a file fails, a line tells.
use Rattle.std.specs.Prelude.{ℕ, ◌==◌, ◌||◌, Bool, false, List, [], ◌∷◌, map, find, codes, IsTrue, Option, None, option_map, if◌then◌else◌}
use Rattle.std.specs.List.{list_all, starts_with}
use Rattle.std.specs.Borrow.{Bor}
use Rattle.explanations.specs.Topics.{is_rule, is_told, told_as}
use Rattle.explanations.specs.Volumes.{entries}
use Rattle.explanations.specs.declared.refusal.TheConstants.{MARKS}

-- Words that stand in the lines of a kind of refusal or of a reason for which a file fails, and its topic. A name of a file or of a section is printed without blanks, and
-- such words have one: so they stand in what the line says itself.
pub record Mark : Type 0 where
  pub words : List ℕ
  pub topic : List ℕ

abbrev pub mark_of : Bor (List ℕ) × Bor (List ℕ) → Mark
mark_of mark = record { words = mark.0.now; topic = mark.1.now }

unfoldable pub marks : List Mark
marks = map (λ mark. record { words = mark.0.now; topic = mark.1.now }) MARKS

-- some words, one at least, stand in a line
abbrev pub has_words : (line words : List ℕ) → Bool
has_words [] words = false
has_words (x ∷ line) words = starts_with (λ a b. a == b) (x ∷ line) words || has_words line words

-- the topic of the first of some marks whose words stand in a line
abbrev pub topic_in : List Mark → List ℕ → Option (List ℕ)
topic_in marks line = option_map (λ mark. mark.topic) (find (λ mark. has_words line mark.words) marks)

-- a line tells a refusal, or why a file fails: it begins with these words
abbrev pub is_explained : List ℕ → Bool
is_explained line = starts_with (λ a b. a == b) line (codes "refused: ") || starts_with (λ a b. a == b) line (codes "objtool: ")

-- the topic of what such a line tells
abbrev pub topic_of : List ℕ → Option (List ℕ)
topic_of line = if is_explained line then topic_in marks line else None

-- the line that is the title of a kind of refusal, or of a reason for which a file fails, tells that kind or reason
abbrev pub AreKindsTold : Type 0
AreKindsTold = IsTrue (list_all (λ e. is_rule e || is_told (topic_of (told_as e)) e.topic) entries)
