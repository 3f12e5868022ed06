-- What the words of a command line mean.
use Rattle.std.specs.Prelude.{ℕ, Bool, true, false, List, [], Option, Some, None, Result}
use Rattle.cli_words.specs.declared.fault.UsageKind.{UsageKind}
use Rattle.cli_words.specs.Grammar.{Command, cfi, check, entry, explain, help, merge, sites, version}
use Rattle.cli_matches.specs.Texts.{help_text, version_text}
use Rattle.explanations.specs.Topics.{explanation_of, topics_text}

-- a command, or the first word at fault and what is wrong with it
abbrev pub Meaning : Type 0
Meaning = Result Command (ℕ × UsageKind)

-- the text on a topic, where there is one; each topic that words ask for has one
abbrev pub text_or_none : Option (List ℕ) → List ℕ
text_or_none None = []
text_or_none (Some text) = text

-- what `explain` prints: the text on a topic, or else the list of all
abbrev pub explained : Option (List ℕ) → List ℕ
explained None = topics_text
explained (Some topic) = text_or_none (explanation_of topic)

-- the commands that print a text of the program
abbrev pub is_told : Command → Bool
is_told help = true
is_told (explain topic) = true
is_told version = true
is_told _ = false

-- and the text
abbrev pub told_text : Command → List ℕ
told_text help = help_text
told_text (explain topic) = explained topic
told_text version = version_text
told_text _ = []

-- the commands that print nothing where they are done: those that write a file, and `entry`
abbrev pub is_silent : Command → Bool
is_silent (check input output options names) = true
is_silent (sites input output options map names) = true
is_silent (entry input rules map names) = true
is_silent (cfi input output map names) = true
is_silent (merge layout output) = true
is_silent _ = false
