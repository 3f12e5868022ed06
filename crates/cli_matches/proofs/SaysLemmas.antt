-- The command that matches say.
use Rattle.std.proofs.Common.{◌≡◌, ℕ, List, Option, Some, None, codes, refl, sym, ap, ◌∙◌, option_and_then, option_map, string_bytes, subst}
use Rattle.std.specs.Option.{unwrap_or}
use Rattle.clap.specs.Words.{Row, Text, first_of}
use Rattle.x86_map.specs.declared.map.Map.{Map}
use Rattle.cli_words.specs.declared.options.CheckOptions.{CheckOptions}
use Rattle.cli_words.specs.declared.options.EntryRules.{EntryRules}
use Rattle.cli_words.specs.declared.options.SiteOptions.{SiteOptions}
use Rattle.cli_words.specs.declared.word.CommandWord.{CommandWord}
use Rattle.cli_words.specs.declared.word.CommandWord.TheVariants as the
use Rattle.cli_words.specs.Grammar.{Command, cfa, cfi, check, demo, dump, entry, explain, find, help, list, merge, show, sites, unwind, version}
use Rattle.cli_words.specs.Numbers.{address_of, number_of}
use Rattle.cli_words.specs.Words.{Word, command_named}
use Rattle.cli_matches.specs.declared.reading.Rewriting.{Rewriting}
use Rattle.cli_matches.specs.Matches.{Says, SaysArguments, SaysCheck, SaysEntry, SaysPair, SaysRewriting, SaysShow, SaysSites, name_of}

pub some_of : {X : Type 0} (x y : X) → Some x ≡ Some y → x ≡ y
some_of x y e = ap (λ o. unwrap_or o x) e

-- what a command has that reads an object, and writes it
abbrev parts : Rewriting → Word × Word × Map × Option Word
parts r = (string_bytes r.input, string_bytes r.output, r.map, option_map string_bytes r.names)

pub rewriting_same : (make : Word → Word → Map → Option Word → Command) (read : Option Rewriting) (r : Rewriting) (input output : Word) (map : Map) (names : Option Word)
    → read ≡ Some r → option_map parts read ≡ Some (input, output, map, names)
    → Some (make (string_bytes r.input) (string_bytes r.output) r.map (option_map string_bytes r.names)) ≡ Some (make input output map names)
rewriting_same make read r input output map names is e = ap (option_map (λ t. make t.0 t.1 t.2 t.3)) (ap (option_map parts) (sym is) ∙ e)

pub rewriting_none : (read : Option Rewriting) (input output : Word) (map : Map) (names : Option Word) (command : Command) → read ≡ None → option_map parts read ≡ Some (input, output, map, names) → None ≡ Some command
rewriting_none read input output map names command is e =
    let bad : ◌≡◌ {A = Option (Word × Word × Map × Option Word)} None (Some (input, output, map, names)) = sym (ap (option_map parts) is) ∙ e in
    cc

-- the word of a command
abbrev word_of : Command → Option CommandWord
word_of (check input output options names) = Some the.Check
word_of (dump file) = Some the.Dump
word_of (unwind file image) = Some the.Unwind
word_of (sites input output options map names) = Some the.Sites
word_of (list file) = Some the.List
word_of (entry input rules map names) = Some the.Entry
word_of (cfi input output map names) = Some the.Cfi
word_of (cfa file) = Some the.Cfa
word_of (merge layout output) = Some the.Merge
word_of (find table address) = Some the.Find
word_of (show input function map names) = Some the.Show
word_of (explain topic) = Some the.Explain
word_of (demo n) = Some the.Demo
word_of help = None
word_of version = None

named : (asked : Command) → option_and_then command_named (name_of asked) ≡ word_of asked
named (check input output options names) = refl
named (dump file) = refl
named (unwind file image) = refl
named (sites input output options map names) = refl
named (list file) = refl
named (entry input rules map names) = refl
named (cfi input output map names) = refl
named (cfa file) = refl
named (merge layout output) = refl
named (find table address) = refl
named (show input function map names) = refl
named (explain topic) = refl
named (demo n) = refl
named help = refl
named version = refl

word_is : (name : Text) (word : Option CommandWord) (asked : Command) → command_named name ≡ word → name_of asked ≡ Some name → word_of asked ≡ word
word_is name word asked is e = sym (named asked) ∙ ap (option_and_then command_named) e ∙ is

-- what is read of the matches behind a word is the command that they say
abbrev pub IsReadAs : CommandWord → List Row → Option Command → Type 0
IsReadAs the.Check rows read = (i o : Word) (options : CheckOptions) (names : Option Word) → SaysCheck rows i o options names → read ≡ Some (check i o options names)
IsReadAs the.Dump rows read = (file : Word) → first_of (codes "FILE") rows ≡ Some file → read ≡ Some (dump file)
IsReadAs the.Unwind rows read = (file image : Word) → SaysPair rows (codes "FILE") (codes "IMAGE") file image → read ≡ Some (unwind file image)
IsReadAs the.Sites rows read = (i o : Word) (options : SiteOptions) (map : Map) (names : Option Word) → SaysSites rows i o options map names → read ≡ Some (sites i o options map names)
IsReadAs the.List rows read = (file : Word) → first_of (codes "FILE") rows ≡ Some file → read ≡ Some (list file)
IsReadAs the.Entry rows read = (input : Word) (rules : EntryRules) (map : Map) (names : Option Word) → SaysEntry rows input rules map names → read ≡ Some (entry input rules map names)
IsReadAs the.Cfi rows read = (i o : Word) (map : Map) (names : Option Word) → SaysRewriting rows i o map names → read ≡ Some (cfi i o map names)
IsReadAs the.Cfa rows read = (file : Word) → first_of (codes "FILE") rows ≡ Some file → read ≡ Some (cfa file)
IsReadAs the.Merge rows read = (layout output : Word) → SaysPair rows (codes "LAYOUT") (codes "OUT") layout output → read ≡ Some (merge layout output)
IsReadAs the.Find rows read = (table text : Word) (address : ℕ) → SaysPair rows (codes "TABLE") (codes "ADDR") table text → address_of text ≡ Some address → read ≡ Some (find table address)
IsReadAs the.Show rows read = (input : Word) (function : Option Word) (map : Map) (names : Option Word) → SaysShow rows input function map names → read ≡ Some (show input function map names)
IsReadAs the.Explain rows read = (topic : Option Word) → first_of (codes "TOPIC") rows ≡ topic → read ≡ Some (explain topic)
IsReadAs the.Demo rows read = read ≡ option_map demo (option_and_then number_of (first_of (codes "N") rows))

module _ (name : Text) (rows : List Row) (read : Option Command) where
  as_word : (w v : CommandWord) → Some w ≡ Some v → IsReadAs v rows read → IsReadAs w rows read
  as_word w v e known = subst (λ u. IsReadAs u rows read) (sym (some_of w v e)) known

  by_word : (word : CommandWord) (asked : Command) → word_of asked ≡ Some word → IsReadAs word rows read → SaysArguments rows asked → read ≡ Some asked
  by_word word (check i o options names) is known says = as_word the.Check word is known i o options names says
  by_word word (dump file) is known says = as_word the.Dump word is known file says
  by_word word (unwind file image) is known says = as_word the.Unwind word is known file image says
  by_word word (sites i o options map names) is known says = as_word the.Sites word is known i o options map names says
  by_word word (list file) is known says = as_word the.List word is known file says
  by_word word (entry input rules map names) is known says = as_word the.Entry word is known input rules map names says
  by_word word (cfi i o map names) is known says = as_word the.Cfi word is known i o map names says
  by_word word (cfa file) is known says = as_word the.Cfa word is known file says
  by_word word (merge layout output) is known says = as_word the.Merge word is known layout output says
  by_word word (find table address) is known says = as_word the.Find word is known table says.0 address says.1 says.2
  by_word word (show input function map names) is known says = as_word the.Show word is known input function map names says
  by_word word (explain topic) is known says = as_word the.Explain word is known topic says
  by_word word (demo n) is known says =
      as_word the.Demo word is known ∙ ap (λ o. option_map demo (option_and_then number_of o)) says.1 ∙ ap (option_map demo) says.2
  by_word word help is known says = absurd says
  by_word word version is known says = absurd says

  pub said : (word : CommandWord) → command_named name ≡ Some word → IsReadAs word rows read → (asked : Command) → Says (Some (name, rows)) asked → read ≡ Some asked
  said word is known asked says = by_word word asked (word_is name (Some word) asked is says.0) known says.1

  no_word : (asked : Command) → word_of asked ≡ None → SaysArguments rows asked → ⊥
  no_word (check i o options names) is says = cc
  no_word (dump file) is says = cc
  no_word (unwind file image) is says = cc
  no_word (sites i o options map names) is says = cc
  no_word (list file) is says = cc
  no_word (entry input rules map names) is says = cc
  no_word (cfi i o map names) is says = cc
  no_word (cfa file) is says = cc
  no_word (merge layout output) is says = cc
  no_word (find table address) is says = cc
  no_word (show input function map names) is says = cc
  no_word (explain topic) is says = cc
  no_word (demo n) is says = cc
  no_word help is says = says
  no_word version is says = says

  pub nothing_said : command_named name ≡ None → (asked : Command) → Says (Some (name, rows)) asked → ⊥
  nothing_said none asked says = no_word asked (word_is name None asked none says.0) says.1

-- the command of this word
pub said_behind : (spelled : Text) (word : CommandWord) (name : Text) (rows : List Row) (read : Option Command) → name ≡ spelled → command_named spelled ≡ Some word → IsReadAs word rows read
    → (asked : Command) → Says (Some (name, rows)) asked → read ≡ Some asked
said_behind spelled word name rows read is named known = said name rows read word (ap command_named is ∙ named) known
