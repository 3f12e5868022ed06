-- What the matches of a command line say.
use Rattle.std.specs.Prelude.{◌≡◌, Bool, true, false, not, List, Option, Some, None, codes}
use Rattle.clap.specs.Words.{Row, Text, first_of, found_of, one_of, rows_of}
use Rattle.clap.specs.declared.error.ErrorKind.{ErrorKind}
use Rattle.clap.specs.declared.error.ErrorKind.TheVariants.{DisplayHelp, DisplayVersion}
use Rattle.clap.specs.declared.ArgMatches.{ArgMatches}
use Rattle.cli_words.specs.declared.options.CheckOptions.{CheckOptions}
use Rattle.cli_words.specs.declared.options.EntryRules.{EntryRules}
use Rattle.cli_words.specs.declared.options.SiteOptions.{SiteOptions}
use Rattle.x86_map.specs.declared.map.Map.{Map}
use Rattle.x86_map.specs.declared.map.Map.TheVariants.{Base, Whole}
use Rattle.cli_words.specs.Words.{Word}
use Rattle.cli_words.specs.Numbers.{address_of, number_of}
use Rattle.cli_words.specs.Grammar.{Command, cfa, cfi, check, demo, dump, entry, explain, find, help, list, merge, show, sites, unwind, version}

-- the value of an option that has none of its own
abbrev pub switch_text : Bool → Text
switch_text true = codes "true"
switch_text false = codes "false"

abbrev pub SaysSwitch : List Row → Text → Bool → Type 0
SaysSwitch rows name given = one_of name rows ≡ Some (switch_text given)

-- an option asks for the map
abbrev pub is_asked : Map → Bool
is_asked Base = false
is_asked Whole = true

-- the matches of a command that reads an object, and writes it to a file, say this
pub record SaysRewriting (rows : List Row) (input output : Word) (map : Map) (names : Option Word) : Type 0 where
  pub input_is : first_of (codes "IN") rows ≡ Some input
  pub output_is : first_of (codes "OUT") rows ≡ Some output
  pub all_opcodes : SaysSwitch rows (codes "all-opcodes") (is_asked map)
  pub names_are : first_of (codes "names") rows ≡ names

-- the matches of `check` say this
pub record SaysCheck (rows : List Row) (input output : Word) (options : CheckOptions) (names : Option Word) : Type 0 where
  pub rewriting : SaysRewriting rows input output options.map names
  pub fp : SaysSwitch rows (codes "fp") options.rules.fp
  pub retpoline : SaysSwitch rows (codes "retpoline") options.rules.retpoline
  pub rethunk : SaysSwitch rows (codes "rethunk") options.rules.rethunk
  pub uaccess : SaysSwitch rows (codes "uaccess") options.rules.uaccess
  pub unreachable : SaysSwitch rows (codes "no-unreachable") (not options.rules.unreachable)
  pub link : SaysSwitch rows (codes "link") options.rules.link
  pub «module» : SaysSwitch rows (codes "module") options.rules.module
  pub backtrace : SaysSwitch rows (codes "backtrace") options.backtrace

-- the matches of `sites` say this
pub record SaysSites (rows : List Row) (input output : Word) (options : SiteOptions) (map : Map) (names : Option Word) : Type 0 where
  pub rewriting : SaysRewriting rows input output map names
  pub «module» : SaysSwitch rows (codes "module") options.module

-- the matches of `entry` say this
pub record SaysEntry (rows : List Row) (input : Word) (rules : EntryRules) (map : Map) (names : Option Word) : Type 0 where
  pub input_is : first_of (codes "IN") rows ≡ Some input
  pub noinstr : SaysSwitch rows (codes "noinstr") rules.noinstr
  pub sls : SaysSwitch rows (codes "sls") rules.sls
  pub ibt : SaysSwitch rows (codes "ibt") rules.ibt
  pub all_opcodes : SaysSwitch rows (codes "all-opcodes") (is_asked map)
  pub names_are : first_of (codes "names") rows ≡ names

-- the matches of `show` say this
pub record SaysShow (rows : List Row) (input : Word) (function : Option Word) (map : Map) (names : Option Word) : Type 0 where
  pub input_is : first_of (codes "IN") rows ≡ Some input
  pub function_is : first_of (codes "function") rows ≡ function
  pub all_opcodes : SaysSwitch rows (codes "all-opcodes") (is_asked map)
  pub names_are : first_of (codes "names") rows ≡ names

-- the matches of a command that asks for two names say these
abbrev pub SaysPair : List Row → (first second : Text) → Word → Word → Type 0
SaysPair rows first second one other = (first_of first rows ≡ Some one) × (first_of second rows ≡ Some other)

-- the word of a command, beside which others may stand
abbrev pub name_of : Command → Option Text
name_of (check input output options names) = Some (codes "check")
name_of (dump file) = Some (codes "dump")
name_of (unwind file image) = Some (codes "unwind")
name_of (sites input output options map names) = Some (codes "sites")
name_of (list file) = Some (codes "list")
name_of (entry input rules map names) = Some (codes "entry")
name_of (cfi input output map names) = Some (codes "cfi")
name_of (cfa file) = Some (codes "cfa")
name_of (merge layout output) = Some (codes "merge")
name_of (find table address) = Some (codes "find")
name_of (show input function map names) = Some (codes "show")
name_of (explain topic) = Some (codes "explain")
name_of (demo n) = Some (codes "demo")
name_of help = None
name_of version = None

-- the matches of its arguments say what it has
abbrev pub SaysArguments : List Row → Command → Type 0
SaysArguments rows (check input output options names) = SaysCheck rows input output options names
SaysArguments rows (dump file) = first_of (codes "FILE") rows ≡ Some file
SaysArguments rows (unwind file image) = SaysPair rows (codes "FILE") (codes "IMAGE") file image
SaysArguments rows (sites input output options map names) = SaysSites rows input output options map names
SaysArguments rows (list file) = first_of (codes "FILE") rows ≡ Some file
SaysArguments rows (entry input rules map names) = SaysEntry rows input rules map names
SaysArguments rows (cfi input output map names) = SaysRewriting rows input output map names
SaysArguments rows (cfa file) = first_of (codes "FILE") rows ≡ Some file
SaysArguments rows (merge layout output) = SaysPair rows (codes "LAYOUT") (codes "OUT") layout output
SaysArguments rows (find table address) = (text : Word) × SaysPair rows (codes "TABLE") (codes "ADDR") table text × (address_of text ≡ Some address)
SaysArguments rows (show input function map names) = SaysShow rows input function map names
SaysArguments rows (explain topic) = first_of (codes "TOPIC") rows ≡ topic
SaysArguments rows (demo n) = (text : Word) × (first_of (codes "N") rows ≡ Some text) × (number_of text ≡ Some n)
SaysArguments rows _ = ⊥

-- a subcommand with its matches says this command
abbrev pub Says : Option (Text × List Row) → Command → Type 0
Says (Some found) command = (name_of command ≡ Some found.0) × SaysArguments found.1 command
Says None command = ⊥

-- the matches of a command's own arguments
abbrev pub rows_in : ArgMatches → List Row
rows_in matches = rows_of (found_of matches)

-- the text of the program that an answer of clap asks for
abbrev pub request_of : ErrorKind → Option Command
request_of DisplayHelp = Some help
request_of DisplayVersion = Some version
request_of _ = None
