-- What a list of words means: a command, or the first word at fault and what is wrong with it.
use Rattle.std.specs.Prelude.{◌≡◌, ℕ, ◌+◌, ◌==◌, ◌&&◌, ◌||◌, not, Bool, false, List, [], ◌∷◌, ◌++◌, length, nat_le, codes, Option, Some, None, Result, Ok, Err, is_some, if◌then◌else◌, bytes_eq, option_map, string_bytes}
use Rattle.std.specs.List.{list_any}
use Rattle.ot_base.specs.declared.options.Options.{Options}
use Rattle.x86_map.specs.declared.map.Map.{Map}
use Rattle.x86_map.specs.declared.map.Map.TheVariants.{Base, Whole}
use Rattle.cli_words.specs.declared.options.CheckOptions.{CheckOptions}
use Rattle.cli_words.specs.declared.options.EntryRules.{EntryRules}
use Rattle.cli_words.specs.declared.options.SiteOptions.{SiteOptions}
use Rattle.cli_words.specs.declared.word.CommandWord.{CommandWord}
use Rattle.cli_words.specs.declared.word.CommandWord.TheVariants as the
use Rattle.cli_words.specs.declared.fault.UsageKind.{UsageKind}
use Rattle.cli_words.specs.declared.fault.UsageKind.TheVariants.{NoCommand, UnknownCommand, UnknownOption, Repeated, Empty, BadNumber, UnknownTopic, Extra, Missing}
use Rattle.cli_words.specs.declared.fault.UsageFault.{UsageFault}
use Rattle.cli_words.specs.declared.fault.UsageFault.TheVariants as fault
use Rattle.cli_words.specs.declared.command.Command as declared
use Rattle.cli_words.specs.declared.command.Command.TheVariants as variant
use Rattle.explanations.specs.Topics.{is_topic}
use Rattle.cli_words.specs.Numbers.{address_of, number_of}
use Rattle.cli_words.specs.Words.{Word, command_named, function_name, gives, is_option, is_option_of, is_same_option, names_file, names_in, places_of}

-- a command, with the names of its files
pub data Command : Type 0 where
  check : (input output : Word) (options : CheckOptions) (names : Option Word) → Command
  dump : (file : Word) → Command
  unwind : (file image : Word) → Command
  sites : (input output : Word) (options : SiteOptions) (map : Map) (names : Option Word) → Command
  list : (file : Word) → Command
  entry : (input : Word) (rules : EntryRules) (map : Map) (names : Option Word) → Command
  cfi : (input output : Word) (map : Map) (names : Option Word) → Command
  cfa : (file : Word) → Command
  merge : (layout output : Word) → Command
  find : (table : Word) (address : ℕ) → Command
  show : (input : Word) (function : Option Word) (map : Map) (names : Option Word) → Command
  explain : (topic : Option Word) → Command
  demo : (n : ℕ) → Command
  help : Command
  version : Command

-- the same as it is read
abbrev pub command_in : declared.Command → Command
command_in (variant.Check input output options names) = check (string_bytes input) (string_bytes output) options (option_map string_bytes names)
command_in (variant.Dump file) = dump (string_bytes file)
command_in (variant.Unwind file image) = unwind (string_bytes file) (string_bytes image)
command_in (variant.Sites input output options map names) = sites (string_bytes input) (string_bytes output) options map (option_map string_bytes names)
command_in (variant.List file) = list (string_bytes file)
command_in (variant.Entry input rules map names) = entry (string_bytes input) rules map (option_map string_bytes names)
command_in (variant.Cfi input output map names) = cfi (string_bytes input) (string_bytes output) map (option_map string_bytes names)
command_in (variant.Cfa file) = cfa (string_bytes file)
command_in (variant.Merge layout output) = merge (string_bytes layout) (string_bytes output)
command_in (variant.Find table address) = find (string_bytes table) address
command_in (variant.Show input function map names) = show (string_bytes input) (option_map string_bytes function) map (option_map string_bytes names)
command_in (variant.Explain topic) = explain (option_map string_bytes topic)
command_in (variant.Demo n) = demo n
command_in variant.Help = help
command_in variant.Version = version

-- What is wrong with an option behind a command and these words, tested in this order: it is none of the command's, it
-- stands already, it gives no name.
abbrev pub option_fault : CommandWord → List Word → Word → Option UsageKind
option_fault command before word =
    if not (is_option_of command word) then Some UnknownOption
    else if list_any (is_same_option word) before then Some Repeated
    else if bytes_eq word (codes "--names=") || bytes_eq word (codes "--function=") then Some Empty
    else None

-- `demo` asks for a number, and `find` for an address behind the name of a table; places are counted from 0
abbrev pub is_bad_number : CommandWord → ℕ → Word → Bool
is_bad_number the.Demo place word = not (is_some (number_of word))
is_bad_number the.Find place word = place == 1 && not (is_some (address_of word))
is_bad_number _ place word = false

-- `explain` asks for a topic
abbrev pub is_unknown_topic : CommandWord → Word → Bool
is_unknown_topic the.Explain word = not (is_topic word)
is_unknown_topic _ word = false

-- The same of a name or a number: the command has all that it asks for, it is empty, it is no number or no address, it is no
-- topic.
abbrev pub name_fault : CommandWord → List Word → Word → Option UsageKind
name_fault command before word =
    if nat_le (places_of command) (length (names_in before)) then Some Extra
    else if length word == 0 then Some Empty
    else if is_bad_number command (length (names_in before)) word then Some BadNumber
    else if is_unknown_topic command word then Some UnknownTopic
    else None

unfoldable pub word_fault : CommandWord → List Word → Word → Option UsageKind
word_fault command before word = if is_option word then option_fault command before word else name_fault command before word

-- The first of the words behind a command that is at fault, counted from the command's word, which is 0, and what is wrong
-- with it: each is judged behind those before it.
abbrev pub or_else : Option UsageKind → ℕ → Option (ℕ × UsageKind) → Option (ℕ × UsageKind)
or_else (Some kind) at later = Some (at, kind)
or_else None at later = later

unfoldable pub first_fault : CommandWord → List Word → List Word → Option (ℕ × UsageKind)
first_fault command before [] = None
first_fault command before (word ∷ rest) = or_else (word_fault command before word) (length before + 1) (first_fault command (before ++ word ∷ []) rest)

-- the rules that the options of `check` ask for, and what they take the object for; rule 14 is asked for unless an
-- option says no
abbrev pub rules_in : List Word → Options
rules_in words = record {
  fp = gives (codes "--fp") words;
  retpoline = gives (codes "--retpoline") words;
  rethunk = gives (codes "--rethunk") words;
  uaccess = gives (codes "--uaccess") words;
  unreachable = not (gives (codes "--no-unreachable") words);
  link = gives (codes "--link") words;
  «module» = gives (codes "--module") words;
}

-- the opcode map that they ask for: the base map, unless an option asks for the whole one
abbrev pub map_in : List Word → Map
map_in words = if gives (codes "--all-opcodes") words then Whole else Base

-- what the options of `check` ask for
abbrev pub options_in : List Word → CheckOptions
options_in words = record { map = map_in words; rules = rules_in words; backtrace = gives (codes "--backtrace") words }

-- what the options of `sites` say
abbrev pub site_options_in : List Word → SiteOptions
site_options_in words = record { «module» = gives (codes "--module") words }

-- the entry rules that the options of `entry` name
abbrev pub entry_rules_in : List Word → EntryRules
entry_rules_in words = record {
  noinstr = gives (codes "--noinstr") words;
  sls = gives (codes "--sls") words;
  ibt = gives (codes "--ibt") words;
}

-- what a command asks for with these names or numbers and these options, where none is missing
unfoldable pub asked : CommandWord → List Word → List Word → Option Command
asked the.Check (input ∷ output ∷ []) words = Some (check input output (options_in words) (names_file words))
asked the.Dump (file ∷ []) words = Some (dump file)
asked the.Unwind (file ∷ image ∷ []) words = Some (unwind file image)
asked the.Sites (input ∷ output ∷ []) words = Some (sites input output (site_options_in words) (map_in words) (names_file words))
asked the.List (file ∷ []) words = Some (list file)
asked the.Entry (input ∷ []) words = Some (entry input (entry_rules_in words) (map_in words) (names_file words))
asked the.Cfi (input ∷ output ∷ []) words = Some (cfi input output (map_in words) (names_file words))
asked the.Cfa (file ∷ []) words = Some (cfa file)
asked the.Merge (layout ∷ output ∷ []) words = Some (merge layout output)
asked the.Find (table ∷ address ∷ []) words = option_map (find table) (address_of address)
asked the.Show (input ∷ []) words = Some (show input (function_name words) (map_in words) (names_file words))
asked the.Explain [] words = Some (explain None)
asked the.Explain (topic ∷ []) words = Some (explain (Some topic))
asked the.Demo (n ∷ []) words = option_map demo (number_of n)
asked command names words = None

abbrev pub or_missing : Option Command → ℕ → Result Command (ℕ × UsageKind)
or_missing (Some command) at = Ok command
or_missing None at = Err (at, Missing)

abbrev pub unless : Option (ℕ × UsageKind) → Result Command (ℕ × UsageKind) → Result Command (ℕ × UsageKind)
unless (Some fault) meaning = Err fault
unless None meaning = meaning

-- what a command and the words behind it mean; that something is missing is found last
unfoldable pub line_meaning : CommandWord → List Word → Result Command (ℕ × UsageKind)
line_meaning command words = unless (first_fault command [] words) (or_missing (asked command (names_in words) words) (length words + 1))

-- `--help` and `--version`, or `-h` and `-V`, where no other word stands beside them
abbrev pub lone_meaning : Word → List Word → Option Command
lone_meaning word [] =
    if bytes_eq word (codes "--help") || bytes_eq word (codes "-h") then Some help
    else if bytes_eq word (codes "--version") || bytes_eq word (codes "-V") then Some version
    else None
lone_meaning word (next ∷ rest) = None

abbrev pub command_meaning : Option CommandWord → List Word → Result Command (ℕ × UsageKind)
command_meaning (Some command) words = line_meaning command words
command_meaning None words = Err (0, UnknownCommand)

abbrev pub first_meaning : Option Command → Word → List Word → Result Command (ℕ × UsageKind)
first_meaning (Some command) word words = Ok command
first_meaning None word words = command_meaning (command_named word) words

unfoldable pub meaning : List Word → Result Command (ℕ × UsageKind)
meaning [] = Err (0, NoCommand)
meaning (word ∷ words) = first_meaning (lone_meaning word words) word words

-- the words mean this fault; want of memory says nothing of them
abbrev pub IsFaultOf : Result Command (ℕ × UsageKind) → UsageFault → Type 0
IsFaultOf meaning (fault.At word kind) = meaning ≡ Err (word, kind)
IsFaultOf meaning fault.NoMemory = Unit {0}
