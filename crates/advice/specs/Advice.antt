-- What is said to the standard error of words at fault and of refusals.
use Rattle.std.specs.Prelude.{◌≡◌, ℕ, ◌+◌, ◌==◌, true, List, [], ◌++◌, take, codes, Option, Some, None, Err, is_ok, slice_get, slice_index_or}
use Rattle.std.specs.List.{position_or_len}
use Rattle.cli_words.specs.FaultText.{kind_text}
use Rattle.cli_words.specs.declared.fault.UsageKind.{UsageKind}
use Rattle.cli_words.specs.declared.fault.UsageKind.TheVariants.{UnknownCommand, UnknownOption, UnknownTopic}
use Rattle.cli_words.specs.Grammar.{meaning}
use Rattle.cli_words.specs.Words.{Word}
use Rattle.ot_base.specs.PlaceText.{escaped}
use Rattle.advice.specs.KnownWords.{command_words, options_behind, topic_words}
use Rattle.advice.specs.MissingNames.{missing_of, usage_behind}
use Rattle.advice.specs.Nearest.{IsNearest}

-- what of a word is compared with options: all of it, or as far as its first `=`, with it
abbrev pub option_part : Word → Word
option_part word = take (position_or_len (λ byte. byte == 61) word + 1) word

-- what a word at fault may stand for: the nearest command, option of the command that the first word asks for, or topic
abbrev pub IsMeant : UsageKind → (first word : Word) → Option Word → Type 0
IsMeant UnknownCommand first word near = IsNearest word command_words near
IsMeant UnknownOption first word near = IsNearest (option_part word) (options_behind first) near
IsMeant UnknownTopic first word near = IsNearest word topic_words near
IsMeant _ first word near = near ≡ None

-- the same of a word, where there is one; else nothing is meant
abbrev pub IsMeantOf : UsageKind → Word → Option Word → Option Word → Type 0
IsMeantOf kind first (Some word) near = IsMeant kind first word near
IsMeantOf kind first None near = near ≡ None

-- a word in quotes, where there is one
abbrev pub quoted : Option (List ℕ) → List ℕ
quoted (Some word) = codes " '" ++ escaped word ++ codes "'"
quoted None = []

-- the question whether a known word was meant, where one is near
abbrev pub asked_for : Option (List ℕ) → List ℕ
asked_for (Some near) = codes ", did you mean '" ++ near ++ codes "'?"
asked_for None = codes ";"

-- the line on words at fault: what is wrong, with which word, and which known word is near
abbrev pub usage_advice : UsageKind → (word near : Option (List ℕ)) → List ℕ
usage_advice kind word near = codes "objtool: " ++ kind_text kind ++ quoted word ++ asked_for near ++ codes " objtool --help lists the commands"

-- the line on a name or a number that is missing: what it is called, and how the command is used
abbrev pub missing_advice : (name usage : List ℕ) → List ℕ
missing_advice name usage = codes "objtool: " ++ name ++ codes " is missing: " ++ usage

-- the line on words at fault: on what is missing, or on what is wrong with which word
abbrev pub fault_advice : (missing : Option Word) → (usage : List ℕ) → UsageKind → (word near : Option (List ℕ)) → List ℕ
fault_advice (Some name) usage kind word near = missing_advice name usage
fault_advice None usage kind word near = usage_advice kind word near

-- a fault of the words is told: with the name that is missing, or with the word at fault and what it may stand for
pub record TellsFault (words : List Word) (line : List ℕ) : Type 0 where
  pub at : ℕ
  pub kind : UsageKind
  pub near : Option Word
  pub fault : meaning words ≡ Err (at, kind)
  pub meant : IsMeantOf kind (slice_index_or words 0 []) (slice_get words at) near
  pub told : line ≡ fault_advice (missing_of kind words) (usage_behind (slice_index_or words 0 [])) kind (slice_get words at) near

-- the line on words, which tells their fault; without one they mean a command
abbrev pub IsUsageLine : List Word → Option (List ℕ) → Type 0
IsUsageLine words (Some line) = TellsFault words line
IsUsageLine words None = is_ok (meaning words) ≡ true

-- the line on a refusal, or on a file that fails: which topic explains it
abbrev pub refusal_advice : List ℕ → List ℕ
refusal_advice topic = codes "objtool: see objtool explain " ++ topic
