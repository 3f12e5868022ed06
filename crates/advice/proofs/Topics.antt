-- The topics among the first words of the lines that list them.
use Rattle.std.proofs.Common.{◌≡◌, ◌∙◌, refl, ap, ◌==◌, ◌||◌, ℕ, true, false, cond, List, [], ◌∷◌, map, filter, Some, option_map}
use Rattle.std.specs.List.{before_first, list_any}
use Rattle.std.specs.Option.{is_some}
use Rattle.std.specs.Str.{bytes_eq}
use Rattle.std.specs.Str.Lines.{lines}
use Rattle.explanations.specs.Entry.{Entry, entry_on, text_on}
use Rattle.explanations.specs.Topics.{is_topic, topics_text}
use Rattle.explanations.specs.Volumes.{entries, rules_1_to_9, rules_10_to_19, rules_21_to_44, rules_45_to_54, refusals_of_entries, refusals_bad, files_that_fail, refusals_f_to_m, refusals_n, refusals_o_to_z}
use Rattle.cli_words.specs.Words.{Word}
use Rattle.advice.specs.KnownWords.{AreTopics, topic_words}

-- the topics among the first words of the lines of a text
abbrev pub topics_in : List ℕ → List Word
topics_in text = filter is_topic (map (before_first (λ byte. byte == 32)) (lines text))

all-listed : topics_in topics_text ≡ topic_words
unfolding topics_text entries rules_1_to_9 rules_10_to_19 rules_21_to_44 rules_45_to_54 refusals_of_entries refusals_bad files_that_fail refusals_f_to_m refusals_n refusals_o_to_z
all-listed = refl

-- some entries have a text on a word where it is among their topics
among : (entries : List Entry) (word : Word) → is_some (text_on entries word) ≡ list_any (λ known. bytes_eq known word) (map (λ e. e.topic) entries)
among [] word = refl
among (e ∷ entries) word =
    elim (bytes_eq e.topic word) as (λ b. is_some (option_map (λ e. e.text) (cond b (Some e) (entry_on entries word))) ≡ (b || list_any (λ known. bytes_eq known word) (map (λ e. e.topic) entries)))
    [ true ↦ refl | false ↦ among entries word ]

-- a word is a topic where it is among them
pub are_topics : AreTopics
are_topics = among entries

pub listed : (text : List ℕ) → text ≡ topics_text → topics_in text ≡ topic_words
listed text is = ap topics_in is ∙ all-listed
