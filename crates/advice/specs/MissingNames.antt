-- Names and numbers that are missing, and how commands are used.
use Rattle.std.specs.Prelude.{◌≡◌, ℕ, List, [], ◌∷◌, ◌++◌, length, codes, Option, None, slice_get}
use Rattle.std.specs.List.{flat_map}
use Rattle.std.specs.Option.{option_map_or}
use Rattle.cli_words.specs.declared.fault.UsageKind.{UsageKind}
use Rattle.cli_words.specs.declared.fault.UsageKind.TheVariants.{Missing}
use Rattle.cli_words.specs.declared.word.CommandWord.{CommandWord}
use Rattle.cli_words.specs.declared.word.CommandWord.TheVariants as the
use Rattle.cli_words.specs.Words.{Word, command_named, names_in, places_of}
use Rattle.advice.specs.KnownWords.{option_words}

-- what the names and numbers behind a command are called, in their order
abbrev pub place_names : CommandWord → List Word
place_names the.Dump = codes "FILE" ∷ []
place_names the.Unwind = codes "FILE" ∷ codes "IMAGE" ∷ []
place_names the.List = codes "FILE" ∷ []
place_names the.Entry = codes "IN" ∷ []
place_names the.Cfa = codes "FILE" ∷ []
place_names the.Merge = codes "LAYOUT" ∷ codes "OUT" ∷ []
place_names the.Find = codes "TABLE" ∷ codes "ADDR" ∷ []
place_names the.Show = codes "IN" ∷ []
place_names the.Explain = codes "TOPIC" ∷ []
place_names the.Demo = codes "N" ∷ []
place_names _ = codes "IN" ∷ codes "OUT" ∷ []

-- they are as many as the command has
abbrev pub ArePlaces : Type 0
ArePlaces = (command : CommandWord) → length (place_names command) ≡ places_of command

-- those of the command that a first word asks for
abbrev pub places_behind : Word → List Word
places_behind first = option_map_or place_names (command_named first) []

-- the first name or number that isn't among the words of a command line: of so many that are, the one behind the last of them
abbrev pub missing_name : List Word → Option Word
missing_name [] = None
missing_name (first ∷ words) = slice_get (places_behind first) (length (names_in words))

-- the name that a fault is about, where something is missing
abbrev pub missing_of : UsageKind → List Word → Option Word
missing_of Missing words = missing_name words
missing_of _ words = None

-- a name or a number, as a usage has it; `explain` does without
abbrev pub place_text : CommandWord → Word → List ℕ
place_text the.Explain name = codes " [" ++ name ++ codes "]"
place_text _ name = codes " <" ++ name ++ codes ">"

-- that a command has options, where it has some
abbrev pub options_text : List Word → List ℕ
options_text [] = []
options_text (option ∷ options) = codes " [OPTIONS]"

-- how a command is used: its word, and what stands behind it
abbrev pub usage_of : Word → CommandWord → List ℕ
usage_of first command = codes "objtool " ++ first ++ options_text (option_words command) ++ flat_map (place_text command) (place_names command)

-- the same of the command that a first word asks for
abbrev pub usage_behind : Word → List ℕ
usage_behind first = option_map_or (usage_of first) (command_named first) []
