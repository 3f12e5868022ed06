-- The words that a word at fault may stand for.
use Rattle.std.specs.Prelude.{◌≡◌, ◌==◌, Bool, List, [], ◌∷◌, map, codes, is_some, bytes_eq, if◌then◌else◌}
use Rattle.std.specs.List.{list_any}
use Rattle.std.specs.Option.{option_map_or}
use Rattle.cli_words.specs.declared.word.CommandWord.{CommandWord}
use Rattle.cli_words.specs.declared.word.CommandWord.TheVariants as the
use Rattle.cli_words.specs.Words.{Word, command_named, is_option_of, value_after}
use Rattle.explanations.specs.Topics.{is_topic}
use Rattle.explanations.specs.Volumes.{entries}

-- the words of all commands
abbrev pub command_words : List Word
command_words =
    codes "check" ∷ codes "dump" ∷ codes "unwind" ∷ codes "sites" ∷ codes "list" ∷ codes "entry" ∷ codes "cfi" ∷ codes "cfa"
    ∷ codes "merge" ∷ codes "find" ∷ codes "show" ∷ codes "explain" ∷ codes "demo" ∷ []

-- a word names a command where it is one of these
abbrev pub AreCommands : Type 0
AreCommands = (word : Word) → is_some (command_named word) ≡ list_any (λ known. bytes_eq word known) command_words

-- the options of a command, those that have a value as they begin
abbrev pub option_words : CommandWord → List Word
option_words the.Check =
    codes "--fp" ∷ codes "--retpoline" ∷ codes "--rethunk" ∷ codes "--uaccess" ∷ codes "--no-unreachable" ∷ codes "--link" ∷ codes "--module"
    ∷ codes "--backtrace" ∷ codes "--all-opcodes" ∷ codes "--names=" ∷ []
option_words the.Sites = codes "--module" ∷ codes "--all-opcodes" ∷ codes "--names=" ∷ []
option_words the.Cfi = codes "--all-opcodes" ∷ codes "--names=" ∷ []
option_words the.Entry = codes "--noinstr" ∷ codes "--sls" ∷ codes "--ibt" ∷ codes "--all-opcodes" ∷ codes "--names=" ∷ []
option_words the.Show = codes "--function=" ∷ codes "--all-opcodes" ∷ codes "--names=" ∷ []
option_words _ = []

-- a word gives such an option: it is spelled so, or, where the option has a value, begins so
abbrev pub gives_option : (word known : Word) → Bool
gives_option word known = if list_any (λ byte. byte == 61) known then is_some (value_after known word) else bytes_eq word known

-- a word is an option of a command where it gives one of these
abbrev pub AreOptions : Type 0
AreOptions = (command : CommandWord) (word : Word) → is_option_of command word ≡ list_any (gives_option word) (option_words command)

-- the options of the command that a first word asks for
abbrev pub options_behind : Word → List Word
options_behind first = option_map_or option_words (command_named first) []

-- all topics
abbrev pub topic_words : List Word
topic_words = map (λ e. e.topic) entries

-- a word is a topic where it is one of these
abbrev pub AreTopics : Type 0
AreTopics = (word : Word) → is_topic word ≡ list_any (λ known. bytes_eq known word) topic_words
