-- What is said of files: why a call on one failed, and that the file to write is as it was before.
use Rattle.std.specs.Prelude.{ℕ, Bool, List, [], ◌∷◌, ◌++◌, codes, bytes_eq, Option, None, slice_get, slice_index_or, if◌then◌else◌}
use Rattle.cli_words.specs.Words.{Word, names_in}
use Rattle.ot_base.specs.PlaceText.{escaped}
use Rattle.advice.specs.MissingNames.{places_behind}

-- the line on a file that couldn't be read or written, and why
abbrev pub fault_text : (name reason : List ℕ) → List ℕ
fault_text name reason = codes "objtool: " ++ escaped name ++ codes ": " ++ reason

-- the line on a file that stands from before
abbrev pub standing_text : (name : List ℕ) → List ℕ
standing_text name = codes "objtool: " ++ escaped name ++ codes " stands from before this run"

-- a first word asks for a command that writes a file: the second name behind it is called OUT
abbrev pub writes_file : Word → Bool
writes_file first = bytes_eq (slice_index_or (places_behind first) 1 []) (codes "OUT")

-- the name of the file that the words of a command line ask to write
abbrev pub out_name : List Word → Option Word
out_name [] = None
out_name (first ∷ words) = if writes_file first then slice_get (names_in words) 1 else None
