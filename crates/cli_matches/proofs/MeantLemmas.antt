-- What clap reads of words that mean a command.
use Rattle.std.proofs.Common.{◌≡◌, ℕ, Bool, true, false, cond, not, ◌&&◌, ◌||◌, List, [], ◌∷◌, ◌++◌, Option, Some, None, Result, Ok, Err, codes, is_some, option_map, slice_get, refl, sym, ap, ap₂, subst, ◌∙◌, inl, inr, bytes_eq}
use Rattle.std.specs.Prelude.{IfOk, is_ok, ok_or}
use Rattle.std.specs.List.{list_all, list_any}
use Rattle.std.specs.Option.{unwrap_or}
use Rattle.std.proofs.lemmas.Slice.Eq.{bytes_eq-Decides}
use Rattle.clap.specs.Faults.{fault_of, is_simple_and_free}
use Rattle.clap.specs.Kinds.{HasKind}
use Rattle.clap.specs.Words.{App, HasMatchesOf, kind_of, subcommand_rows_of}
use Rattle.clap.specs.declared.ArgMatches.{ArgMatches}
use Rattle.clap.specs.declared.Error.{Error}
use Rattle.clap.specs.declared.error.ErrorKind.{ErrorKind}
use Rattle.clap.specs.Simple.{Shape, subcommand_of}
use Rattle.clap.specs.Takes.{takes}
use Rattle.clap.specs.Walk.{Row, Text, first_of, rows_after}
use Rattle.clap.specs.declared.error.ErrorKind.TheVariants.{DisplayHelp, DisplayVersion, OutOfMemory}
use Rattle.clap.proofs.OnLiterals.{clap_on_literals}
use Rattle.cli_words.specs.declared.fault.UsageKind.{UsageKind}
use Rattle.cli_words.specs.declared.fault.UsageKind.TheVariants.{Empty, Repeated, UnknownOption}
use Rattle.cli_words.specs.declared.fault.UsageFault.{UsageFault}
use Rattle.cli_words.specs.declared.command.Command as declared
use Rattle.cli_words.specs.declared.word.CommandWord.{CommandWord}
use Rattle.cli_words.specs.declared.word.CommandWord.TheVariants as the
use Rattle.cli_words.specs.Grammar.{Command, asked, command_in, command_meaning, demo, explain, find, first_fault, first_meaning, help, line_meaning, lone_meaning, meaning, name_fault, option_fault, or_missing, unless, version, word_fault}
use Rattle.cli_words.specs.Numbers.{address_of, number_of}
use Rattle.cli_words.specs.Words.{Word, command_named, gives, is_option, is_option_of, is_same_option, names_in, places_of, value_given}
use Rattle.cli_matches.specs.Definition.{check_app, demo_app, entry_app, explain_app, file_app, find_app, line_app, merge_app, rewriting_app, show_app, sites_app, unwind_app}
use Rattle.cli_matches.specs.Matches.{Says, SaysPair, SaysSwitch, request_of}
use Rattle.cli_matches.proofs.Built.{Enters, cfa_enters, cfi_enters, check_enters, demo_enters, dump_enters, entry_enters, explain_enters, find_enters, leaf_of, line_finds, line_is_simple, line_takes, list_enters, merge_enters, show_enters, sites_enters, unwind_enters}
use Rattle.cli_matches.proofs.OptionFacts.{AllAre, HasOptions, dashed, start_of}
use Rattle.cli_matches.proofs.OptionReads.{SaysFiles, each_said, each_value_said, files_said, line_passes, map_said, rewriting_said}
use Rattle.cli_matches.proofs.OptionWalk.{is_own, no_fault, or_case, places}
use Rattle.cli_matches.proofs.PlainReads.{AsksOne, AsksTwo, demo_asks, explain_alone, explain_asks, file_asks, find_asks, merge_asks, one_found, one_level, two_found, two_level, unwind_asks}
use Rattle.cli_matches.proofs.Rewritings.{check_facts, check_switches, common_facts, common_switches, entry_facts, entry_switches, names_alone, show_facts, show_known, show_switches, show_values, sites_facts, sites_switches}

-- clap takes the words, and its matches say the command
pub record Reads (words : List Word) (command : Command) : Type 0 where
  pub takes : takes line_app words ≡ true
  pub says : Says (subcommand_of line_app words) command

-- clap reads the words as this command, or answers a request for a text of the program
pub data Answers (words : List Word) (command : Command) : Type 0 where
  read : Reads words command → Answers words command
  shows_help : command ≡ help → fault_of line_app words ≡ DisplayHelp ∷ [] → Answers words command
  shows_version : command ≡ version → fault_of line_app words ≡ DisplayVersion ∷ [] → Answers words command

-- ---- the words of a command that is meant

ok_of : {A E : Type 0} → Result A E → Option A
ok_of (Ok x) = Some x
ok_of (Err e) = None

pub some_is : {X : Type 0} (x y : X) → Some x ≡ Some y → x ≡ y
some_is x y e = ap (λ o. unwrap_or o x) e

unless_ok : (fault : Option (ℕ × UsageKind)) (m : Result Command (ℕ × UsageKind)) (command : Command) → unless fault m ≡ Ok command → (fault ≡ None) × (m ≡ Ok command)
unless_ok (Some f) m command e = cc
unless_ok None m command e = (refl, e)

ok_is : (x y : Command) → ◌≡◌ {A = Result Command (ℕ × UsageKind)} (Ok x) (Ok y) → Some x ≡ Some y
unfolding ok_of
ok_is x y e = ap ok_of e

missing_ok : (o : Option Command) (at : ℕ) (command : Command) → or_missing o at ≡ Ok command → o ≡ Some command
unfolding ok_of
missing_ok (Some x) at command e = ap ok_of e
missing_ok None at command e = cc

line_ok : (command : CommandWord) (words : List Word) (meant : Command) → line_meaning command words ≡ Ok meant
    → (first_fault command [] words ≡ None) × (asked command (names_in words) words ≡ Some meant)
unfolding line_meaning
line_ok command words meant e =
    let parts = unless_ok (first_fault command [] words) _ meant e in
    (parts.0, missing_ok (asked command (names_in words) words) _ meant parts.1)

-- ---- commands that ask for IN and maybe OUT, and have options

-- what such a command asks for is said by matches that say its options, and IN and OUT
record AsksFiles (name : Text) (writes : Bool) (values switches : List Text) (ws words : List Word) (meant : Command) : Type 0 where
  has_input : is_some (slice_get ws 0) ≡ true
  has_output : cond writes (is_some (slice_get ws 1)) true ≡ true
  says : (rows : List Row) → AllAre (λ option. SaysSwitch rows option (gives (dashed option) words)) switches → AllAre (λ option. first_of option rows ≡ value_given (start_of option) words) values → SaysFiles rows ws
      → Says (Some (name, rows)) meant

module _ (command : CommandWord) (name : Text) (s : Shape) (writes : Bool) (values switches : List Text) (enters : Enters name s) (facts : HasOptions s writes values switches)
    (known : (word : Word) → is_option_of command word ≡ true → is_own values switches word ≡ true) (count : places_of command ≡ places writes)
    (asks : (ws words : List Word) (meant : Command) → asked command ws words ≡ Some meant → AsksFiles name writes values switches ws words meant) where
  files_read : (words : List Word) (meant : Command) → line_meaning command words ≡ Ok meant → Reads (name ∷ words) meant
  files_read words meant e =
      let parts = line_ok command words meant e in
      let files = asks (names_in words) words meant parts.1 in
      record {
        takes = line_takes name s enters words (line_passes s writes values switches facts command known count words parts.0 files.has_input files.has_output);
        says = subst (λ found. Says found meant) (sym (line_finds name s enters words))
            (files.says (rows_after s.rules [] words) (each_said s writes values switches facts command known count words parts.0) (each_value_said s writes values switches facts command known count words parts.0)
            (files_said s writes values switches facts command known count words parts.0));
      }

check_files : (ws words : List Word) (meant : Command) → asked the.Check ws words ≡ Some meant → AsksFiles (codes "check") true names_alone check_switches ws words meant
unfolding asked
check_files (input ∷ (output ∷ [])) words meant e = record {
  has_input = refl;
  has_output = refl;
  says = λ rows each values files. subst (Says (Some (codes "check", rows))) (some_is _ meant e) (
    refl,
    record {
      rewriting = rewriting_said rows input output words files values.first each.rest.rest.rest.rest.rest.rest.rest.rest.first;
      fp = each.first;
      retpoline = each.rest.first;
      rethunk = each.rest.rest.first;
      uaccess = each.rest.rest.rest.first;
      unreachable = subst (SaysSwitch rows (codes "no-unreachable")) (not_not (gives (codes "--no-unreachable") words)) each.rest.rest.rest.rest.first;
      link = each.rest.rest.rest.rest.rest.first;
      «module» = each.rest.rest.rest.rest.rest.rest.first;
      backtrace = each.rest.rest.rest.rest.rest.rest.rest.first;
    },
  );
}
  where
    not_not : (b : Bool) → b ≡ not (not b)
    not_not true = refl
    not_not false = refl
check_files [] words meant e = cc
check_files (input ∷ []) words meant e = cc
check_files (input ∷ (output ∷ (more ∷ ws))) words meant e = cc

sites_files : (ws words : List Word) (meant : Command) → asked the.Sites ws words ≡ Some meant → AsksFiles (codes "sites") true names_alone sites_switches ws words meant
unfolding asked
sites_files (input ∷ (output ∷ [])) words meant e = record {
  has_input = refl;
  has_output = refl;
  says = λ rows each values files. subst (Says (Some (codes "sites", rows))) (some_is _ meant e) (
    refl,
    record {
      rewriting = rewriting_said rows input output words files values.first each.rest.first;
      «module» = each.first;
    },
  );
}
sites_files [] words meant e = cc
sites_files (input ∷ []) words meant e = cc
sites_files (input ∷ (output ∷ (more ∷ ws))) words meant e = cc

entry_files : (ws words : List Word) (meant : Command) → asked the.Entry ws words ≡ Some meant → AsksFiles (codes "entry") false names_alone entry_switches ws words meant
unfolding asked
entry_files (input ∷ []) words meant e = record {
  has_input = refl;
  has_output = refl;
  says = λ rows each values files. subst (Says (Some (codes "entry", rows))) (some_is _ meant e) (
    refl,
    record {
      input_is = files.input;
      noinstr = each.first;
      sls = each.rest.first;
      ibt = each.rest.rest.first;
      all_opcodes = map_said rows words each.rest.rest.rest.first;
      names_are = values.first;
    },
  );
}
entry_files [] words meant e = cc
entry_files (input ∷ (more ∷ ws)) words meant e = cc

show_files : (ws words : List Word) (meant : Command) → asked the.Show ws words ≡ Some meant → AsksFiles (codes "show") false show_values show_switches ws words meant
unfolding asked
show_files (input ∷ []) words meant e = record {
  has_input = refl;
  has_output = refl;
  says = λ rows each values files. subst (Says (Some (codes "show", rows))) (some_is _ meant e) (
    refl,
    record {
      input_is = files.input;
      function_is = values.first;
      all_opcodes = map_said rows words each.first;
      names_are = values.rest.first;
    },
  );
}
show_files [] words meant e = cc
show_files (input ∷ (more ∷ ws)) words meant e = cc

cfi_files : (ws words : List Word) (meant : Command) → asked the.Cfi ws words ≡ Some meant → AsksFiles (codes "cfi") true names_alone common_switches ws words meant
unfolding asked
cfi_files (input ∷ (output ∷ [])) words meant e = record {
  has_input = refl;
  has_output = refl;
  says = λ rows each values files. subst (Says (Some (codes "cfi", rows))) (some_is _ meant e) (refl, rewriting_said rows input output words files values.first each.first);
}
cfi_files [] words meant e = cc
cfi_files (input ∷ []) words meant e = cc
cfi_files (input ∷ (output ∷ (more ∷ ws))) words meant e = cc

-- ---- commands without options

-- each word is a name or a number
all_names : (command : CommandWord) → ((w : Word) → is_option_of command w ≡ false) → (words seen : List Word) → first_fault command seen words ≡ None
    → (names_in words ≡ words) × (list_all (λ w. not (is_option w)) words ≡ true)
unfolding first_fault word_fault
all_names command none [] seen right = (refl, refl)
all_names command none (word ∷ words) seen right =
    let faults = no_fault (word_fault command seen word) _ _ right in
    let rest = all_names command none words (seen ++ word ∷ []) faults.1 in
    let name : is_option word ≡ false = go (is_option word) faults.0 in
    (ap (λ b. cond (not b) (word ∷ names_in words) (names_in words)) name ∙ ap (λ ws. word ∷ ws) rest.0, ap₂ (λ b c. not b && c) name rest.1)
  where
    go : (b : Bool) → cond b (option_fault command seen word) (name_fault command seen word) ≡ None → b ≡ false
    go true e =
        let no : cond (not false) (Some UnknownOption) (cond (list_any (is_same_option word) seen) (Some Repeated) (cond (bytes_eq word (codes "--names=") || bytes_eq word (codes "--function=")) (Some Empty) None)) ≡ None =
        sym (ap (λ b. cond (not b) (Some UnknownOption) (cond (list_any (is_same_option word) seen) (Some Repeated) (cond (bytes_eq word (codes "--names=") || bytes_eq word (codes "--function=")) (Some Empty) None))) (none word)) ∙ e in
        cc
    go false e = refl

not_true : (b : Bool) (c : Bool) → (not b && c) ≡ true → (b ≡ false) × (c ≡ true)
not_true true c e = cc
not_true false c e = (refl, e)

-- the words, as they are asked for
own_words : (command : CommandWord) → ((w : Word) → is_option_of command w ≡ false) → (words : List Word) (meant : Command) → line_meaning command words ≡ Ok meant
    → (asked command words words ≡ Some meant) × (list_all (λ w. not (is_option w)) words ≡ true)
own_words command none words meant e =
    let parts = line_ok command words meant e in
    let all = all_names command none words [] parts.0 in
    (subst (λ ns. asked command ns words ≡ Some meant) all.0 parts.1, all.1)

-- one word, which is said by matches that have it
record IsOne (name place : Text) (words : List Word) (meant : Command) : Type 0 where
  word : Word
  is : words ≡ word ∷ []
  says : (rows : List Row) → first_of place rows ≡ Some word → Says (Some (name, rows)) meant

module _ (command : CommandWord) (name place : Text) (s : Shape) (enters : Enters name s) (asks : AsksOne s place) (none : (w : Word) → is_option_of command w ≡ false)
    (one : (words : List Word) (meant : Command) → asked command words words ≡ Some meant → IsOne name place words meant) where
  one_read : (words : List Word) (meant : Command) → line_meaning command words ≡ Ok meant → Reads (name ∷ words) meant
  one_read words meant e =
      let own = own_words command none words meant e in
      let it = one words meant own.0 in
      let all = subst (λ ws. list_all (λ w. not (is_option w)) ws ≡ true) it.is own.1 in
      let is_name = (not_true (is_option it.word) _ all).0 in
      subst (λ ws. Reads (name ∷ ws) meant) (sym it.is) (record {
        takes = line_takes name s enters (it.word ∷ []) (one_level s place asks it.word is_name);
        says = subst (λ found. Says found meant) (sym (line_finds name s enters (it.word ∷ []))) (it.says (rows_after s.rules [] (it.word ∷ [])) (one_found s place asks it.word is_name));
      })

dump_one : (words : List Word) (meant : Command) → asked the.Dump words words ≡ Some meant → IsOne (codes "dump") (codes "FILE") words meant
unfolding asked
dump_one (file ∷ []) meant e = record { word = file; is = refl; says = λ rows is. subst (Says (Some (codes "dump", rows))) (some_is _ meant e) (refl, is) }
dump_one [] meant e = cc
dump_one (file ∷ (more ∷ words)) meant e = cc

list_one : (words : List Word) (meant : Command) → asked the.List words words ≡ Some meant → IsOne (codes "list") (codes "FILE") words meant
unfolding asked
list_one (file ∷ []) meant e = record { word = file; is = refl; says = λ rows is. subst (Says (Some (codes "list", rows))) (some_is _ meant e) (refl, is) }
list_one [] meant e = cc
list_one (file ∷ (more ∷ words)) meant e = cc

cfa_one : (words : List Word) (meant : Command) → asked the.Cfa words words ≡ Some meant → IsOne (codes "cfa") (codes "FILE") words meant
unfolding asked
cfa_one (file ∷ []) meant e = record { word = file; is = refl; says = λ rows is. subst (Says (Some (codes "cfa", rows))) (some_is _ meant e) (refl, is) }
cfa_one [] meant e = cc
cfa_one (file ∷ (more ∷ words)) meant e = cc

demo_one : (words : List Word) (meant : Command) → asked the.Demo words words ≡ Some meant → IsOne (codes "demo") (codes "N") words meant
unfolding asked
demo_one (number ∷ []) meant e = go (number_of number) refl e
  where
    go : (n : Option ℕ) → number_of number ≡ n → option_map demo n ≡ Some meant → IsOne (codes "demo") (codes "N") (number ∷ []) meant
    go (Some n) is e = record { word = number; is = refl; says = λ rows found. subst (Says (Some (codes "demo", rows))) (some_is _ meant e) (refl, (number, found, is)) }
    go None is e = cc
demo_one [] meant e = cc
demo_one (number ∷ (more ∷ words)) meant e = cc

-- `explain` asks for one word, or none
abbrev X : Shape
X = leaf_of explain_app

explain_words : (words : List Word) (meant : Command) → asked the.Explain words words ≡ Some meant → list_all (λ w. not (is_option w)) words ≡ true → Reads (codes "explain" ∷ words) meant
unfolding asked
explain_words [] meant is all = record {
  takes = line_takes (codes "explain") X explain_enters [] explain_alone.passes_alone;
  says = subst (λ found. Says found meant) (sym (line_finds (codes "explain") X explain_enters []))
      (subst (Says (Some (codes "explain", rows_after X.rules [] []))) (some_is (explain None) meant is) (refl, explain_alone.reads_none));
}
explain_words (topic ∷ []) meant is all =
    let is_name = (not_true (is_option topic) _ all).0 in
    record {
      takes = line_takes (codes "explain") X explain_enters (topic ∷ []) (one_level X (codes "TOPIC") explain_asks topic is_name);
      says = subst (λ found. Says found meant) (sym (line_finds (codes "explain") X explain_enters (topic ∷ [])))
          (subst (Says (Some (codes "explain", rows_after X.rules [] (topic ∷ [])))) (some_is (explain (Some topic)) meant is) (refl, one_found X (codes "TOPIC") explain_asks topic is_name));
    }
explain_words (topic ∷ (more ∷ rest)) meant is all = cc

explain_read : (words : List Word) (meant : Command) → line_meaning the.Explain words ≡ Ok meant → Reads (codes "explain" ∷ words) meant
explain_read words meant e =
    let own = own_words the.Explain (λ w. refl) words meant e in
    explain_words words meant own.0 own.1

-- two words
record IsTwo (name first second : Text) (words : List Word) (meant : Command) : Type 0 where
  word : Word
  other : Word
  are : words ≡ word ∷ (other ∷ [])
  says : (rows : List Row) → SaysPair rows first second word other → Says (Some (name, rows)) meant

module _ (command : CommandWord) (name first second : Text) (s : Shape) (enters : Enters name s) (asks : AsksTwo s first second) (none : (w : Word) → is_option_of command w ≡ false)
    (two : (words : List Word) (meant : Command) → asked command words words ≡ Some meant → IsTwo name first second words meant) where
  two_read : (words : List Word) (meant : Command) → line_meaning command words ≡ Ok meant → Reads (name ∷ words) meant
  two_read words meant e =
      let own = own_words command none words meant e in
      let them = two words meant own.0 in
      let all = subst (λ ws. list_all (λ w. not (is_option w)) ws ≡ true) them.are own.1 in
      let one = not_true (is_option them.word) _ all in
      let next = not_true (is_option them.other) _ one.1 in
      let both = them.word ∷ (them.other ∷ []) in
      subst (λ ws. Reads (name ∷ ws) meant) (sym them.are) (record {
        takes = line_takes name s enters both (two_level s first second asks them.word them.other one.0 next.0);
        says = subst (λ found. Says found meant) (sym (line_finds name s enters both)) (them.says (rows_after s.rules [] both) (two_found s first second asks them.word them.other one.0 next.0));
      })

unwind_two : (words : List Word) (meant : Command) → asked the.Unwind words words ≡ Some meant → IsTwo (codes "unwind") (codes "FILE") (codes "IMAGE") words meant
unfolding asked
unwind_two (file ∷ (image ∷ [])) meant e = record { word = file; other = image; are = refl; says = λ rows pair. subst (Says (Some (codes "unwind", rows))) (some_is _ meant e) (refl, pair) }
unwind_two [] meant e = cc
unwind_two (file ∷ []) meant e = cc
unwind_two (file ∷ (image ∷ (more ∷ words))) meant e = cc

merge_two : (words : List Word) (meant : Command) → asked the.Merge words words ≡ Some meant → IsTwo (codes "merge") (codes "LAYOUT") (codes "OUT") words meant
unfolding asked
merge_two (layout ∷ (output ∷ [])) meant e = record { word = layout; other = output; are = refl; says = λ rows pair. subst (Says (Some (codes "merge", rows))) (some_is _ meant e) (refl, pair) }
merge_two [] meant e = cc
merge_two (layout ∷ []) meant e = cc
merge_two (layout ∷ (output ∷ (more ∷ words))) meant e = cc

find_two : (words : List Word) (meant : Command) → asked the.Find words words ≡ Some meant → IsTwo (codes "find") (codes "TABLE") (codes "ADDR") words meant
unfolding asked
find_two (table ∷ (text ∷ [])) meant e = go (address_of text) refl e
  where
    go : (address : Option ℕ) → address_of text ≡ address → option_map (find table) address ≡ Some meant → IsTwo (codes "find") (codes "TABLE") (codes "ADDR") (table ∷ (text ∷ [])) meant
    go (Some address) is e = record { word = table; other = text; are = refl; says = λ rows pair. subst (Says (Some (codes "find", rows))) (some_is _ meant e) (refl, (text, pair, is)) }
    go None is e = cc
find_two [] meant e = cc
find_two (table ∷ []) meant e = cc
find_two (table ∷ (text ∷ (more ∷ words))) meant e = cc

-- ---- the first word

module _ (word : Word) (words : List Word) (meant : Command) where
  -- the word is this command's, or what it means is among the rest
  named_or : (name : Word) (command : CommandWord) (rest : Option CommandWord) → (line_meaning command words ≡ Ok meant → Reads (name ∷ words) meant) → (command_meaning rest words ≡ Ok meant → Reads (word ∷ words) meant)
      → command_meaning (cond (bytes_eq word name) (Some command) rest) words ≡ Ok meant → Reads (word ∷ words) meant
  named_or name command rest reads or e = go (bytes_eq word name) refl e
    where
      go : (b : Bool) → bytes_eq word name ≡ b → command_meaning (cond b (Some command) rest) words ≡ Ok meant → Reads (word ∷ words) meant
      go true is e = subst (λ w. Reads (w ∷ words) meant) (sym ((bytes_eq-Decides word name).0 is)) (reads e)
      go false is e = or e

  none_read : command_meaning None words ≡ Ok meant → Reads (word ∷ words) meant
  none_read e = cc

  command_read : command_meaning (command_named word) words ≡ Ok meant → Reads (word ∷ words) meant
  command_read =
      named_or (codes "check") the.Check _ (files_read the.Check (codes "check") (leaf_of check_app) true names_alone check_switches check_enters check_facts (λ w is. is) refl check_files words meant)
      (named_or (codes "dump") the.Dump _ (one_read the.Dump (codes "dump") (codes "FILE") (leaf_of (file_app (codes "dump"))) dump_enters (file_asks (codes "dump")) (λ w. refl) dump_one words meant)
      (named_or (codes "unwind") the.Unwind _ (two_read the.Unwind (codes "unwind") (codes "FILE") (codes "IMAGE") (leaf_of unwind_app) unwind_enters unwind_asks (λ w. refl) unwind_two words meant)
      (named_or (codes "sites") the.Sites _ (files_read the.Sites (codes "sites") (leaf_of sites_app) true names_alone sites_switches sites_enters sites_facts (λ w is. is) refl sites_files words meant)
      (named_or (codes "list") the.List _ (one_read the.List (codes "list") (codes "FILE") (leaf_of (file_app (codes "list"))) list_enters (file_asks (codes "list")) (λ w. refl) list_one words meant)
      (named_or (codes "entry") the.Entry _ (files_read the.Entry (codes "entry") (leaf_of entry_app) false names_alone entry_switches entry_enters entry_facts (λ w is. is) refl entry_files words meant)
      (named_or (codes "cfi") the.Cfi _ (files_read the.Cfi (codes "cfi") (leaf_of (rewriting_app (codes "cfi"))) true names_alone common_switches cfi_enters (common_facts (codes "cfi")) (λ w is. is) refl cfi_files words meant)
      (named_or (codes "cfa") the.Cfa _ (one_read the.Cfa (codes "cfa") (codes "FILE") (leaf_of (file_app (codes "cfa"))) cfa_enters (file_asks (codes "cfa")) (λ w. refl) cfa_one words meant)
      (named_or (codes "merge") the.Merge _ (two_read the.Merge (codes "merge") (codes "LAYOUT") (codes "OUT") (leaf_of merge_app) merge_enters merge_asks (λ w. refl) merge_two words meant)
      (named_or (codes "find") the.Find _ (two_read the.Find (codes "find") (codes "TABLE") (codes "ADDR") (leaf_of find_app) find_enters find_asks (λ w. refl) find_two words meant)
      (named_or (codes "show") the.Show _ (files_read the.Show (codes "show") (leaf_of show_app) false show_values show_switches show_enters show_facts show_known refl show_files words meant)
      (named_or (codes "explain") the.Explain _ (explain_read words meant)
      (named_or (codes "demo") the.Demo None (one_read the.Demo (codes "demo") (codes "N") (leaf_of demo_app) demo_enters demo_asks (λ w. refl) demo_one words meant) none_read))))))))))))

help_answers : fault_of line_app (codes "--help" ∷ []) ≡ DisplayHelp ∷ []
unfolding clap_on_literals
help_answers = refl

short_help_answers : fault_of line_app (codes "-h" ∷ []) ≡ DisplayHelp ∷ []
unfolding clap_on_literals
short_help_answers = refl

version_answers : fault_of line_app (codes "--version" ∷ []) ≡ DisplayVersion ∷ []
unfolding clap_on_literals
version_answers = refl

short_version_answers : fault_of line_app (codes "-V" ∷ []) ≡ DisplayVersion ∷ []
unfolding clap_on_literals
short_version_answers = refl

lone_answers : (word : Word) (meant : Command) → first_meaning (lone_meaning word []) word [] ≡ Ok meant → Answers (word ∷ []) meant
lone_answers word meant e = help_or (bytes_eq word (codes "--help") || bytes_eq word (codes "-h")) refl e
  where
    spelled : (text : Word) → bytes_eq word text ≡ true → Answers (text ∷ []) meant → Answers (word ∷ []) meant
    spelled text is answers = subst (λ w. Answers (w ∷ []) meant) (sym ((bytes_eq-Decides word text).0 is)) answers

    version_or : (b : Bool) → (bytes_eq word (codes "--version") || bytes_eq word (codes "-V")) ≡ b → first_meaning (cond b (Some version) None) word [] ≡ Ok meant → Answers (word ∷ []) meant
    version_or true is e =
        let same : meant ≡ version = sym (some_is version meant (ok_is version meant e)) in
        elim (or_case (bytes_eq word (codes "--version")) _ is) [
          | inl is ↦ spelled (codes "--version") is (shows_version same version_answers)
          | inr is ↦ spelled (codes "-V") is (shows_version same short_version_answers)
        ]
    version_or false is e = read (command_read word [] meant e)

    help_or : (b : Bool) → (bytes_eq word (codes "--help") || bytes_eq word (codes "-h")) ≡ b
        → first_meaning (cond b (Some help) (cond (bytes_eq word (codes "--version") || bytes_eq word (codes "-V")) (Some version) None)) word [] ≡ Ok meant → Answers (word ∷ []) meant
    help_or true is e =
        let same : meant ≡ help = sym (some_is help meant (ok_is help meant e)) in
        elim (or_case (bytes_eq word (codes "--help")) _ is) [
          | inl is ↦ spelled (codes "--help") is (shows_help same help_answers)
          | inr is ↦ spelled (codes "-h") is (shows_help same short_help_answers)
        ]
    help_or false is e = version_or (bytes_eq word (codes "--version") || bytes_eq word (codes "-V")) refl e

pub answers : (words : List Word) (meant : Command) → meaning words ≡ Ok meant → Answers words meant
unfolding meaning
answers [] meant e = cc
answers (word ∷ []) meant e = lone_answers word meant e
answers (word ∷ (next ∷ words)) meant e = read (command_read word (next ∷ words) meant e)

-- ---- what a parse of words with a meaning answers

pub meant_of : (m : Result Command (ℕ × UsageKind)) → is_ok m ≡ true → (command : Command) × (m ≡ Ok command)
meant_of (Ok command) e = (command, refl)
meant_of (Err fault) e = cc

line_is_free : is_simple_and_free line_app ≡ true
line_is_free = refl

no_kinds : (k : ErrorKind) → ◌≡◌ {A = List ErrorKind} (k ∷ []) [] → ⊥
no_kinds k e = cc

pub ok_says : (a : App) (words : List Word) (m : ArgMatches) (meant : Command) → a ≡ line_app → Answers words meant → HasMatchesOf a words m
    → (is_simple_and_free a ≡ true → fault_of a words ≡ []) → Says (subcommand_rows_of m) meant
ok_says a words m meant is (read reads) has kinds =
    let found = subst (λ b. HasMatchesOf b words m) is has in
    subst (λ rows. Says rows meant) (sym (found line_is_simple).1) reads.says
ok_says a words m meant is (shows_help same faults) has kinds =
    let none = subst (λ b. is_simple_and_free b ≡ true → fault_of b words ≡ []) is kinds in
    absurd (no_kinds _ (sym faults ∙ none line_is_free))
ok_says a words m meant is (shows_version same faults) has kinds =
    let none = subst (λ b. is_simple_and_free b ≡ true → fault_of b words ≡ []) is kinds in
    absurd (no_kinds _ (sym faults ∙ none line_is_free))

-- a request that is answered is the command that is meant
pub request_is : (a : App) (words : List Word) (e : Error) (meant command : Command) → a ≡ line_app → Answers words meant → (takes a words ≡ true → kind_of e ≡ OutOfMemory)
    → (is_simple_and_free a ≡ true → HasKind (fault_of a words) e) → request_of (kind_of e) ≡ Some command → meant ≡ command
request_is a words e meant command is (read reads) passes kinds asked =
    let kind = subst (λ b. takes b words ≡ true → kind_of e ≡ OutOfMemory) is passes reads.takes in
    let none : None ≡ Some command = sym (ap request_of kind) ∙ asked in
    cc
request_is a words e meant command is (shows_help same faults) passes kinds asked =
    let has = subst (λ ks. HasKind ks e) faults (subst (λ b. is_simple_and_free b ≡ true → HasKind (fault_of b words) e) is kinds line_is_free) in
    elim has [
      | inl kind ↦ let none : None ≡ Some command = sym (ap request_of kind) ∙ asked in cc
      | inr among ↦ elim among [
        | inl kind ↦ same ∙ some_is help command (sym (ap request_of kind) ∙ asked)
        | inr nothing ↦ absurd nothing
      ]
    ]
request_is a words e meant command is (shows_version same faults) passes kinds asked =
    let has = subst (λ ks. HasKind ks e) faults (subst (λ b. is_simple_and_free b ≡ true → HasKind (fault_of b words) e) is kinds line_is_free) in
    elim has [
      | inl kind ↦ let none : None ≡ Some command = sym (ap request_of kind) ∙ asked in cc
      | inr among ↦ elim among [
        | inl kind ↦ same ∙ some_is version command (sym (ap request_of kind) ∙ asked)
        | inr nothing ↦ absurd nothing
      ]
    ]

pub nothing_is : (o : Option Command) (command : Command) → o ≡ None → o ≡ Some command → ⊥
nothing_is o command none some = let bad : None ≡ Some command = sym none ∙ some in cc

pub ok_if_asked : (words : List Word) (meant : Command) (o : Option declared.Command) (fault : UsageFault) (r : Result declared.Command UsageFault) → r ≡ ok_or o fault
    → meaning words ≡ Ok meant → ((command : Command) → option_map command_in o ≡ Some command → meant ≡ command) → IfOk r (λ command. meaning words ≡ Ok (command_in command))
ok_if_asked words meant o fault r is means known = subst (λ q. IfOk q (λ command. meaning words ≡ Ok (command_in command))) (sym is) (go o known)
  where
    go : (p : Option declared.Command) → ((command : Command) → option_map command_in p ≡ Some command → meant ≡ command) → IfOk (ok_or p fault) (λ command. meaning words ≡ Ok (command_in command))
    go None known = tt
    go (Some command) known = means ∙ ap Ok (known (command_in command) refl)
