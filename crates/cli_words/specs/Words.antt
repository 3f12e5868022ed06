-- The words of a command line: command words, options, and names and numbers.
use Rattle.std.specs.Prelude.{ℕ, ◌==◌, ◌&&◌, ◌||◌, not, Bool, false, List, [], ◌∷◌, length, take, drop, filter, find, codes, Option, Some, None, option_and_then, is_some, if◌then◌else◌, bytes_eq}
use Rattle.std.specs.List.{list_any}
use Rattle.cli_words.specs.declared.word.CommandWord.{CommandWord}
use Rattle.cli_words.specs.declared.word.CommandWord.TheVariants as the

abbrev pub Word : Type 0
Word = List ℕ

-- the command that a first word asks for
abbrev pub command_named : Word → Option CommandWord
command_named word =
    if bytes_eq word (codes "check") then Some the.Check
    else if bytes_eq word (codes "dump") then Some the.Dump
    else if bytes_eq word (codes "unwind") then Some the.Unwind
    else if bytes_eq word (codes "sites") then Some the.Sites
    else if bytes_eq word (codes "list") then Some the.List
    else if bytes_eq word (codes "entry") then Some the.Entry
    else if bytes_eq word (codes "cfi") then Some the.Cfi
    else if bytes_eq word (codes "cfa") then Some the.Cfa
    else if bytes_eq word (codes "merge") then Some the.Merge
    else if bytes_eq word (codes "find") then Some the.Find
    else if bytes_eq word (codes "show") then Some the.Show
    else if bytes_eq word (codes "explain") then Some the.Explain
    else if bytes_eq word (codes "demo") then Some the.Demo
    else None

-- how many names or numbers stand behind a command; `explain` does with none, too
abbrev pub places_of : CommandWord → ℕ
places_of the.Dump = 1
places_of the.List = 1
places_of the.Entry = 1
places_of the.Cfa = 1
places_of the.Show = 1
places_of the.Explain = 1
places_of the.Demo = 1
places_of _ = 2

-- a word behind the command that begins with a dash is an option, any other is a name or a number
abbrev pub is_option : Word → Bool
is_option [] = false
is_option (byte ∷ bytes) = byte == 45

abbrev pub names_in : List Word → List Word
names_in words = filter (λ word. not (is_option word)) words

-- what stands in a word behind this beginning, as FILE in `--names=FILE` behind `--names=`
abbrev pub value_after : (start word : Word) → Option Word
value_after start word = if bytes_eq (take (length start) word) start then Some (drop (length start) word) else None

-- the name of a file of function names, in an option `--names=FILE`
abbrev pub file_after : Word → Option Word
file_after = value_after (codes "--names=")

abbrev pub is_names_option : Word → Bool
is_names_option word = is_some (file_after word)

-- the name of a function, in an option `--function=NAME`
abbrev pub function_after : Word → Option Word
function_after = value_after (codes "--function=")

abbrev pub is_function_option : Word → Bool
is_function_option word = is_some (function_after word)

-- the options that each of `check`, `sites`, `entry`, `cfi` and `show` has
abbrev pub is_common_option : Word → Bool
is_common_option word = bytes_eq word (codes "--all-opcodes") || is_names_option word

-- the options of `check`
abbrev pub is_check_option : Word → Bool
is_check_option word =
    bytes_eq word (codes "--fp")
    || (bytes_eq word (codes "--retpoline")
    || (bytes_eq word (codes "--rethunk")
    || (bytes_eq word (codes "--uaccess")
    || (bytes_eq word (codes "--no-unreachable")
    || (bytes_eq word (codes "--link")
    || (bytes_eq word (codes "--module")
    || (bytes_eq word (codes "--backtrace") || is_common_option word)))))))

-- the options of `sites`
abbrev pub is_sites_option : Word → Bool
is_sites_option word =
    bytes_eq word (codes "--module") || is_common_option word

-- the options of `entry`
abbrev pub is_entry_option : Word → Bool
is_entry_option word =
    bytes_eq word (codes "--noinstr")
    || (bytes_eq word (codes "--sls")
    || (bytes_eq word (codes "--ibt") || is_common_option word))

-- the options of `show`
abbrev pub is_show_option : Word → Bool
is_show_option word = is_function_option word || is_common_option word

-- an option of this command
abbrev pub is_option_of : CommandWord → Word → Bool
is_option_of the.Check word = is_check_option word
is_option_of the.Sites word = is_sites_option word
is_option_of the.Cfi word = is_common_option word
is_option_of the.Entry word = is_entry_option word
is_option_of the.Show word = is_show_option word
is_option_of _ word = false

-- two words give the same option: they are spelled alike, or each gives a file of names, or each the name of a function
abbrev pub is_same_option : Word → Word → Bool
is_same_option one other =
    bytes_eq one other
    || ((is_names_option one && is_names_option other)
    || (is_function_option one && is_function_option other))

abbrev pub gives : Word → List Word → Bool
gives option words = list_any (λ word. bytes_eq word option) words

-- what the first of the words that begins so has behind it
abbrev pub value_given : Word → List Word → Option Word
value_given start words = option_and_then (value_after start) (find (λ word. is_some (value_after start word)) words)

-- the file of function names that the words give
abbrev pub names_file : List Word → Option Word
names_file = value_given (codes "--names=")

-- the name of a function that they give
abbrev pub function_name : List Word → Option Word
function_name = value_given (codes "--function=")
