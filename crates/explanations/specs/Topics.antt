-- What is told of a topic, and the list of all topics.
use Rattle.std.specs.Prelude.{ℕ, ◌==◌, ◌&&◌, ◌||◌, not, Bool, true, false, nat_lt, List, [], ◌∷◌, ◌++◌, codes, length, IsTrue, Option, Some, None, is_some, if◌then◌else◌}
use Rattle.std.specs.List.{list_all, starts_with}
use Rattle.std.specs.Ordering.{nat_cmp}
use Rattle.std.specs.Cmp.Lexicographic.{slice_cmp}
use Rattle.std.specs.Str.{bytes_eq}
use Rattle.std.specs.declared.cmp.Ordering.{Ordering}
use Rattle.std.specs.declared.cmp.Ordering.TheVariants.{Less, Equal, Greater}
use Rattle.explanations.specs.Entry.{Entry, text_on}
use Rattle.explanations.specs.Volumes.{entries}

-- the text on a topic
abbrev pub explanation_of : List ℕ → Option (List ℕ)
explanation_of topic = text_on entries topic

-- a word is a topic
abbrev pub is_topic : List ℕ → Bool
is_topic word = is_some (explanation_of word)

-- the lines that list some topics, each with its title
abbrev pub lines_of : List Entry → List ℕ
lines_of [] = []
lines_of (e ∷ entries) = e.topic ++ codes "  " ++ e.title ++ codes "\n" ++ lines_of entries

-- the text that lists all topics
unfoldable pub topics_text : List ℕ
topics_text = codes "objtool explain TOPIC tells what the rule or the refusal TOPIC means.\n\n" ++ lines_of entries

-- what is found is there, and is this
abbrev pub is_told : Option (List ℕ) → List ℕ → Bool
is_told None expected = false
is_told (Some found) expected = bytes_eq found expected

-- each topic that is listed is explained by its own text
abbrev pub AreTold : Type 0
AreTold = IsTrue (list_all (λ e. is_told (explanation_of e.topic) e.text) entries)

-- a topic is a rule's where it begins with a digit
abbrev pub begins_with_digit : List ℕ → Bool
begins_with_digit [] = false
begins_with_digit (x ∷ word) = nat_lt 47 x && nat_lt x 58

abbrev pub is_rule : Entry → Bool
is_rule e = begins_with_digit e.topic

-- it is a reason for which a file fails where it begins with these letters
abbrev pub is_of_files : Entry → Bool
is_of_files e = starts_with (λ a b. a == b) e.topic (codes "file-")

-- the line that tells a rule, a refusal, or a reason for which a file fails, from these words on
abbrev pub told_as : Entry → List ℕ
told_as e = (if is_rule e then codes "rule " ++ e.topic ++ codes ": " else if is_of_files e then codes "objtool: " else codes "refused: ") ++ e.title

abbrev pub title_line : Entry → List ℕ
title_line e = told_as e ++ codes "\n"

-- each text begins with that line
abbrev pub AreTitled : Type 0
AreTitled = IsTrue (list_all (λ e. starts_with (λ a b. a == b) e.text (title_line e)) entries)

abbrev pub is_less : Ordering → Bool
is_less Less = true
is_less Equal = false
is_less Greater = false

-- the order of topics: rules by their numbers, then the others by their bytes
abbrev pub comes_before : Entry → Entry → Bool
comes_before one other =
    let by_bytes = is_less (slice_cmp nat_cmp one.topic other.topic) in
    if is_rule one
    then not (is_rule other) || nat_lt (length one.topic) (length other.topic) || ((length one.topic == length other.topic) && by_bytes)
    else not (is_rule other) && by_bytes

abbrev pub are_ascending : List Entry → Bool
are_ascending [] = true
are_ascending (e ∷ []) = true
are_ascending (e ∷ (next ∷ entries)) = comes_before e next && are_ascending (next ∷ entries)

-- the topics are listed in their order, none twice
abbrev pub AreAscending : Type 0
AreAscending = IsTrue (are_ascending entries)
