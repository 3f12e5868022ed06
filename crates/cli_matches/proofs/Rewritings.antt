-- The commands that have options: `check`, `sites`, `entry`, `cfi` and `show`.
use Rattle.std.proofs.Common.{◌≡◌, Bool, true, false, cond, not, ◌&&◌, ◌||◌, List, [], ◌∷◌, bytes_eq, inl, inr, refl, ap, ap₂, ◌∙◌, codes}
use Rattle.clap.specs.Simple.{Shape}
use Rattle.clap.specs.Takes.{settle_passes}
use Rattle.clap.specs.Walk.{Text, pushed, settled}
use Rattle.clap.proofs.OnLiterals.{clap_on_literals}
use Rattle.cli_words.specs.Words.{Word, is_function_option, is_names_option, is_same_option, is_show_option}
use Rattle.cli_matches.specs.Definition.{check_app, entry_app, rewriting_app, show_app, sites_app}
use Rattle.cli_matches.proofs.Built.{leaf_of}
use Rattle.cli_matches.proofs.Leaves.{and_false, at_idle, name_passes, name_walked}
use Rattle.cli_matches.proofs.OptionFacts.{HasPlace, HasOptions, HasSwitch, HasValue, rows_held, rule_named, valued}
use Rattle.cli_matches.proofs.OptionWalk.{is_own}
use Rattle.cli_matches.proofs.Rows.{set_appends}

-- `--names=FILE` is the only option that has a value
abbrev pub names_alone : List Text
names_alone = codes "names" ∷ []

-- two words that give a file of names give the same option
same_names : (one other : Word) → is_names_option one ≡ true → is_names_option other ≡ true → is_same_option one other ≡ true
same_names one other e f = ap₂ (λ a b. bytes_eq one other || ((a && b) || (is_function_option one && is_function_option other))) e f ∙ any_true (bytes_eq one other)
  where
    any_true : (b : Bool) → (b || true) ≡ true
    any_true true = refl
    any_true false = refl

-- ---- `check`

abbrev C : Shape
C = leaf_of check_app

check_fp : HasSwitch C names_alone (codes "fp")
unfolding clap_on_literals
check_fp = record { walks = λ h position. refl; passes = λ h position. refl; is_used = λ rows absent. set_appends (rule_named C (codes "fp")) (codes "true" ∷ []) rows absent; settles = λ h. refl; rows_are = λ h. refl; id = refl; no_input = refl; no_output = refl; not_input = λ word. refl; not_output = λ word. refl; apart = record { first = record { gives_no_value = refl; no_row = refl; not_row = λ value. refl; not_word = λ value. refl }; rest = tt }; says = elim [ true ↦ refl | false ↦ refl ] }

check_retpoline : HasSwitch C names_alone (codes "retpoline")
unfolding clap_on_literals
check_retpoline = record { walks = λ h position. refl; passes = λ h position. refl; is_used = λ rows absent. set_appends (rule_named C (codes "retpoline")) (codes "true" ∷ []) rows absent; settles = λ h. refl; rows_are = λ h. refl; id = refl; no_input = refl; no_output = refl; not_input = λ word. refl; not_output = λ word. refl; apart = record { first = record { gives_no_value = refl; no_row = refl; not_row = λ value. refl; not_word = λ value. refl }; rest = tt }; says = elim [ true ↦ refl | false ↦ refl ] }

check_rethunk : HasSwitch C names_alone (codes "rethunk")
unfolding clap_on_literals
check_rethunk = record { walks = λ h position. refl; passes = λ h position. refl; is_used = λ rows absent. set_appends (rule_named C (codes "rethunk")) (codes "true" ∷ []) rows absent; settles = λ h. refl; rows_are = λ h. refl; id = refl; no_input = refl; no_output = refl; not_input = λ word. refl; not_output = λ word. refl; apart = record { first = record { gives_no_value = refl; no_row = refl; not_row = λ value. refl; not_word = λ value. refl }; rest = tt }; says = elim [ true ↦ refl | false ↦ refl ] }

check_uaccess : HasSwitch C names_alone (codes "uaccess")
unfolding clap_on_literals
check_uaccess = record { walks = λ h position. refl; passes = λ h position. refl; is_used = λ rows absent. set_appends (rule_named C (codes "uaccess")) (codes "true" ∷ []) rows absent; settles = λ h. refl; rows_are = λ h. refl; id = refl; no_input = refl; no_output = refl; not_input = λ word. refl; not_output = λ word. refl; apart = record { first = record { gives_no_value = refl; no_row = refl; not_row = λ value. refl; not_word = λ value. refl }; rest = tt }; says = elim [ true ↦ refl | false ↦ refl ] }

check_no_unreachable : HasSwitch C names_alone (codes "no-unreachable")
unfolding clap_on_literals
check_no_unreachable = record { walks = λ h position. refl; passes = λ h position. refl; is_used = λ rows absent. set_appends (rule_named C (codes "no-unreachable")) (codes "true" ∷ []) rows absent; settles = λ h. refl; rows_are = λ h. refl; id = refl; no_input = refl; no_output = refl; not_input = λ word. refl; not_output = λ word. refl; apart = record { first = record { gives_no_value = refl; no_row = refl; not_row = λ value. refl; not_word = λ value. refl }; rest = tt }; says = elim [ true ↦ refl | false ↦ refl ] }

check_link : HasSwitch C names_alone (codes "link")
unfolding clap_on_literals
check_link = record { walks = λ h position. refl; passes = λ h position. refl; is_used = λ rows absent. set_appends (rule_named C (codes "link")) (codes "true" ∷ []) rows absent; settles = λ h. refl; rows_are = λ h. refl; id = refl; no_input = refl; no_output = refl; not_input = λ word. refl; not_output = λ word. refl; apart = record { first = record { gives_no_value = refl; no_row = refl; not_row = λ value. refl; not_word = λ value. refl }; rest = tt }; says = elim [ true ↦ refl | false ↦ refl ] }

check_module : HasSwitch C names_alone (codes "module")
unfolding clap_on_literals
check_module = record { walks = λ h position. refl; passes = λ h position. refl; is_used = λ rows absent. set_appends (rule_named C (codes "module")) (codes "true" ∷ []) rows absent; settles = λ h. refl; rows_are = λ h. refl; id = refl; no_input = refl; no_output = refl; not_input = λ word. refl; not_output = λ word. refl; apart = record { first = record { gives_no_value = refl; no_row = refl; not_row = λ value. refl; not_word = λ value. refl }; rest = tt }; says = elim [ true ↦ refl | false ↦ refl ] }

check_backtrace : HasSwitch C names_alone (codes "backtrace")
unfolding clap_on_literals
check_backtrace = record { walks = λ h position. refl; passes = λ h position. refl; is_used = λ rows absent. set_appends (rule_named C (codes "backtrace")) (codes "true" ∷ []) rows absent; settles = λ h. refl; rows_are = λ h. refl; id = refl; no_input = refl; no_output = refl; not_input = λ word. refl; not_output = λ word. refl; apart = record { first = record { gives_no_value = refl; no_row = refl; not_row = λ value. refl; not_word = λ value. refl }; rest = tt }; says = elim [ true ↦ refl | false ↦ refl ] }

check_all_opcodes : HasSwitch C names_alone (codes "all-opcodes")
unfolding clap_on_literals
check_all_opcodes = record { walks = λ h position. refl; passes = λ h position. refl; is_used = λ rows absent. set_appends (rule_named C (codes "all-opcodes")) (codes "true" ∷ []) rows absent; settles = λ h. refl; rows_are = λ h. refl; id = refl; no_input = refl; no_output = refl; not_input = λ word. refl; not_output = λ word. refl; apart = record { first = record { gives_no_value = refl; no_row = refl; not_row = λ value. refl; not_word = λ value. refl }; rest = tt }; says = elim [ true ↦ refl | false ↦ refl ] }

check_input : HasPlace C (codes "IN") 1
unfolding clap_on_literals
check_input = record {
  walks = λ h word e. name_walked C h 1 word e ∙ ap (λ b. at_idle (pushed (codes "IN") word (cond b h (settled C.rules h))) 2) (and_false _);
  passes = λ h word e settles. name_passes C h 1 word e ∙ ap (λ b. b || settle_passes C.rules false h) (and_false _) ∙ settles;
  settles = λ h word absent. ap (λ b. (not b || false) && true) absent;
  rows_are = λ h word absent. set_appends (rule_named C (codes "IN")) (word ∷ []) (rows_held C h) absent;
}

check_output : HasPlace C (codes "OUT") 2
unfolding clap_on_literals
check_output = record {
  walks = λ h word e. name_walked C h 2 word e ∙ ap (λ b. at_idle (pushed (codes "OUT") word (cond b h (settled C.rules h))) 3) (and_false _);
  passes = λ h word e settles. name_passes C h 2 word e ∙ ap (λ b. b || settle_passes C.rules false h) (and_false _) ∙ settles;
  settles = λ h word absent. ap (λ b. (not b || false) && true) absent;
  rows_are = λ h word absent. set_appends (rule_named C (codes "OUT")) (word ∷ []) (rows_held C h) absent;
}

check_names : HasValue C names_alone (codes "names")
unfolding clap_on_literals
check_names = record {
  among = inl refl;
  walks = λ h value position. refl;
  passes = λ h value position. refl;
  settles = λ h value. refl;
  rows_are = λ h value absent. set_appends (rule_named C (codes "names")) (value ∷ []) (rows_held C h) absent;
  default = refl;
  id = refl;
  gives = λ value. refl;
  same = λ value word is. same_names (valued (codes "names") value) word refl is;
  no_input = λ value. refl;
  no_output = λ value. refl;
  not_input = λ word. refl;
  not_output = λ word. refl;
  others = record { first = λ apart value. cc; rest = tt };
}

abbrev pub check_switches : List Text
check_switches = codes "fp" ∷ (codes "retpoline" ∷ (codes "rethunk" ∷ (codes "uaccess" ∷ (codes "no-unreachable" ∷ (codes "link" ∷ (codes "module" ∷ (codes "backtrace" ∷ (codes "all-opcodes" ∷ []))))))))

pub check_facts : HasOptions C true names_alone check_switches
unfolding clap_on_literals
check_facts = record {
  input = check_input;
  output = λ writes. check_output;
  input_id = refl;
  output_id = refl;
  input_default = refl;
  output_default = refl;
  each = record { first = check_fp; rest = record { first = check_retpoline; rest = record { first = check_rethunk; rest = record { first = check_uaccess; rest = record { first = check_no_unreachable; rest = record { first = check_link; rest = record { first = check_module; rest = record { first = check_backtrace; rest = record { first = check_all_opcodes; rest = tt } } } } } } } } };
  each_value = record { first = check_names; rest = tt };
  level = λ words. refl;
}

-- ---- `sites`

abbrev T : Shape
T = leaf_of sites_app

sites_module : HasSwitch T names_alone (codes "module")
unfolding clap_on_literals
sites_module = record { walks = λ h position. refl; passes = λ h position. refl; is_used = λ rows absent. set_appends (rule_named T (codes "module")) (codes "true" ∷ []) rows absent; settles = λ h. refl; rows_are = λ h. refl; id = refl; no_input = refl; no_output = refl; not_input = λ word. refl; not_output = λ word. refl; apart = record { first = record { gives_no_value = refl; no_row = refl; not_row = λ value. refl; not_word = λ value. refl }; rest = tt }; says = elim [ true ↦ refl | false ↦ refl ] }

sites_all_opcodes : HasSwitch T names_alone (codes "all-opcodes")
unfolding clap_on_literals
sites_all_opcodes = record { walks = λ h position. refl; passes = λ h position. refl; is_used = λ rows absent. set_appends (rule_named T (codes "all-opcodes")) (codes "true" ∷ []) rows absent; settles = λ h. refl; rows_are = λ h. refl; id = refl; no_input = refl; no_output = refl; not_input = λ word. refl; not_output = λ word. refl; apart = record { first = record { gives_no_value = refl; no_row = refl; not_row = λ value. refl; not_word = λ value. refl }; rest = tt }; says = elim [ true ↦ refl | false ↦ refl ] }

sites_input : HasPlace T (codes "IN") 1
unfolding clap_on_literals
sites_input = record {
  walks = λ h word e. name_walked T h 1 word e ∙ ap (λ b. at_idle (pushed (codes "IN") word (cond b h (settled T.rules h))) 2) (and_false _);
  passes = λ h word e settles. name_passes T h 1 word e ∙ ap (λ b. b || settle_passes T.rules false h) (and_false _) ∙ settles;
  settles = λ h word absent. ap (λ b. (not b || false) && true) absent;
  rows_are = λ h word absent. set_appends (rule_named T (codes "IN")) (word ∷ []) (rows_held T h) absent;
}

sites_output : HasPlace T (codes "OUT") 2
unfolding clap_on_literals
sites_output = record {
  walks = λ h word e. name_walked T h 2 word e ∙ ap (λ b. at_idle (pushed (codes "OUT") word (cond b h (settled T.rules h))) 3) (and_false _);
  passes = λ h word e settles. name_passes T h 2 word e ∙ ap (λ b. b || settle_passes T.rules false h) (and_false _) ∙ settles;
  settles = λ h word absent. ap (λ b. (not b || false) && true) absent;
  rows_are = λ h word absent. set_appends (rule_named T (codes "OUT")) (word ∷ []) (rows_held T h) absent;
}

sites_names : HasValue T names_alone (codes "names")
unfolding clap_on_literals
sites_names = record {
  among = inl refl;
  walks = λ h value position. refl;
  passes = λ h value position. refl;
  settles = λ h value. refl;
  rows_are = λ h value absent. set_appends (rule_named T (codes "names")) (value ∷ []) (rows_held T h) absent;
  default = refl;
  id = refl;
  gives = λ value. refl;
  same = λ value word is. same_names (valued (codes "names") value) word refl is;
  no_input = λ value. refl;
  no_output = λ value. refl;
  not_input = λ word. refl;
  not_output = λ word. refl;
  others = record { first = λ apart value. cc; rest = tt };
}

abbrev pub sites_switches : List Text
sites_switches = codes "module" ∷ (codes "all-opcodes" ∷ [])

pub sites_facts : HasOptions T true names_alone sites_switches
unfolding clap_on_literals
sites_facts = record {
  input = sites_input;
  output = λ writes. sites_output;
  input_id = refl;
  output_id = refl;
  input_default = refl;
  output_default = refl;
  each = record { first = sites_module; rest = record { first = sites_all_opcodes; rest = tt } };
  each_value = record { first = sites_names; rest = tt };
  level = λ words. refl;
}

-- ---- `cfi`

abbrev S : Text → Shape
S name = leaf_of (rewriting_app name)

common_all_opcodes : (name : Text) → HasSwitch (S name) names_alone (codes "all-opcodes")
unfolding clap_on_literals
common_all_opcodes name = record { walks = λ h position. refl; passes = λ h position. refl; is_used = λ rows absent. set_appends (rule_named (S name) (codes "all-opcodes")) (codes "true" ∷ []) rows absent; settles = λ h. refl; rows_are = λ h. refl; id = refl; no_input = refl; no_output = refl; not_input = λ word. refl; not_output = λ word. refl; apart = record { first = record { gives_no_value = refl; no_row = refl; not_row = λ value. refl; not_word = λ value. refl }; rest = tt }; says = elim [ true ↦ refl | false ↦ refl ] }

common_input : (name : Text) → HasPlace (S name) (codes "IN") 1
unfolding clap_on_literals
common_input name = record {
  walks = λ h word e. name_walked (S name) h 1 word e ∙ ap (λ b. at_idle (pushed (codes "IN") word (cond b h (settled (S name).rules h))) 2) (and_false _);
  passes = λ h word e settles. name_passes (S name) h 1 word e ∙ ap (λ b. b || settle_passes (S name).rules false h) (and_false _) ∙ settles;
  settles = λ h word absent. ap (λ b. (not b || false) && true) absent;
  rows_are = λ h word absent. set_appends (rule_named (S name) (codes "IN")) (word ∷ []) (rows_held (S name) h) absent;
}

common_output : (name : Text) → HasPlace (S name) (codes "OUT") 2
unfolding clap_on_literals
common_output name = record {
  walks = λ h word e. name_walked (S name) h 2 word e ∙ ap (λ b. at_idle (pushed (codes "OUT") word (cond b h (settled (S name).rules h))) 3) (and_false _);
  passes = λ h word e settles. name_passes (S name) h 2 word e ∙ ap (λ b. b || settle_passes (S name).rules false h) (and_false _) ∙ settles;
  settles = λ h word absent. ap (λ b. (not b || false) && true) absent;
  rows_are = λ h word absent. set_appends (rule_named (S name) (codes "OUT")) (word ∷ []) (rows_held (S name) h) absent;
}

common_names : (name : Text) → HasValue (S name) names_alone (codes "names")
unfolding clap_on_literals
common_names name = record {
  among = inl refl;
  walks = λ h value position. refl;
  passes = λ h value position. refl;
  settles = λ h value. refl;
  rows_are = λ h value absent. set_appends (rule_named (S name) (codes "names")) (value ∷ []) (rows_held (S name) h) absent;
  default = refl;
  id = refl;
  gives = λ value. refl;
  same = λ value word is. same_names (valued (codes "names") value) word refl is;
  no_input = λ value. refl;
  no_output = λ value. refl;
  not_input = λ word. refl;
  not_output = λ word. refl;
  others = record { first = λ apart value. cc; rest = tt };
}

abbrev pub common_switches : List Text
common_switches = codes "all-opcodes" ∷ []

pub common_facts : (name : Text) → HasOptions (S name) true names_alone common_switches
unfolding clap_on_literals
common_facts name = record {
  input = common_input name;
  output = λ writes. common_output name;
  input_id = refl;
  output_id = refl;
  input_default = refl;
  output_default = refl;
  each = record { first = common_all_opcodes name; rest = tt };
  each_value = record { first = common_names name; rest = tt };
  level = λ words. refl;
}

-- ---- `entry`

abbrev E : Shape
E = leaf_of entry_app

entry_noinstr : HasSwitch E names_alone (codes "noinstr")
unfolding clap_on_literals
entry_noinstr = record { walks = λ h position. refl; passes = λ h position. refl; is_used = λ rows absent. set_appends (rule_named E (codes "noinstr")) (codes "true" ∷ []) rows absent; settles = λ h. refl; rows_are = λ h. refl; id = refl; no_input = refl; no_output = refl; not_input = λ word. refl; not_output = λ word. refl; apart = record { first = record { gives_no_value = refl; no_row = refl; not_row = λ value. refl; not_word = λ value. refl }; rest = tt }; says = elim [ true ↦ refl | false ↦ refl ] }

entry_sls : HasSwitch E names_alone (codes "sls")
unfolding clap_on_literals
entry_sls = record { walks = λ h position. refl; passes = λ h position. refl; is_used = λ rows absent. set_appends (rule_named E (codes "sls")) (codes "true" ∷ []) rows absent; settles = λ h. refl; rows_are = λ h. refl; id = refl; no_input = refl; no_output = refl; not_input = λ word. refl; not_output = λ word. refl; apart = record { first = record { gives_no_value = refl; no_row = refl; not_row = λ value. refl; not_word = λ value. refl }; rest = tt }; says = elim [ true ↦ refl | false ↦ refl ] }

entry_ibt : HasSwitch E names_alone (codes "ibt")
unfolding clap_on_literals
entry_ibt = record { walks = λ h position. refl; passes = λ h position. refl; is_used = λ rows absent. set_appends (rule_named E (codes "ibt")) (codes "true" ∷ []) rows absent; settles = λ h. refl; rows_are = λ h. refl; id = refl; no_input = refl; no_output = refl; not_input = λ word. refl; not_output = λ word. refl; apart = record { first = record { gives_no_value = refl; no_row = refl; not_row = λ value. refl; not_word = λ value. refl }; rest = tt }; says = elim [ true ↦ refl | false ↦ refl ] }

entry_all_opcodes : HasSwitch E names_alone (codes "all-opcodes")
unfolding clap_on_literals
entry_all_opcodes = record { walks = λ h position. refl; passes = λ h position. refl; is_used = λ rows absent. set_appends (rule_named E (codes "all-opcodes")) (codes "true" ∷ []) rows absent; settles = λ h. refl; rows_are = λ h. refl; id = refl; no_input = refl; no_output = refl; not_input = λ word. refl; not_output = λ word. refl; apart = record { first = record { gives_no_value = refl; no_row = refl; not_row = λ value. refl; not_word = λ value. refl }; rest = tt }; says = elim [ true ↦ refl | false ↦ refl ] }

entry_input : HasPlace E (codes "IN") 1
unfolding clap_on_literals
entry_input = record {
  walks = λ h word e. name_walked E h 1 word e ∙ ap (λ b. at_idle (pushed (codes "IN") word (cond b h (settled E.rules h))) 2) (and_false _);
  passes = λ h word e settles. name_passes E h 1 word e ∙ ap (λ b. b || settle_passes E.rules false h) (and_false _) ∙ settles;
  settles = λ h word absent. ap (λ b. (not b || false) && true) absent;
  rows_are = λ h word absent. set_appends (rule_named E (codes "IN")) (word ∷ []) (rows_held E h) absent;
}

entry_names : HasValue E names_alone (codes "names")
unfolding clap_on_literals
entry_names = record {
  among = inl refl;
  walks = λ h value position. refl;
  passes = λ h value position. refl;
  settles = λ h value. refl;
  rows_are = λ h value absent. set_appends (rule_named E (codes "names")) (value ∷ []) (rows_held E h) absent;
  default = refl;
  id = refl;
  gives = λ value. refl;
  same = λ value word is. same_names (valued (codes "names") value) word refl is;
  no_input = λ value. refl;
  no_output = λ value. refl;
  not_input = λ word. refl;
  not_output = λ word. refl;
  others = record { first = λ apart value. cc; rest = tt };
}

abbrev pub entry_switches : List Text
entry_switches = codes "noinstr" ∷ (codes "sls" ∷ (codes "ibt" ∷ (codes "all-opcodes" ∷ [])))

pub entry_facts : HasOptions E false names_alone entry_switches
unfolding clap_on_literals
entry_facts = record {
  input = entry_input;
  output = λ writes. cc;
  input_id = refl;
  output_id = refl;
  input_default = refl;
  output_default = refl;
  each = record { first = entry_noinstr; rest = record { first = entry_sls; rest = record { first = entry_ibt; rest = record { first = entry_all_opcodes; rest = tt } } } };
  each_value = record { first = entry_names; rest = tt };
  level = λ words. refl;
}

-- ---- `show`

abbrev W : Shape
W = leaf_of show_app

abbrev pub show_values : List Text
show_values = codes "function" ∷ (codes "names" ∷ [])

-- two words that give the name of a function give the same option
same_function : (one other : Word) → is_function_option one ≡ true → is_function_option other ≡ true → is_same_option one other ≡ true
same_function one other e f = ap₂ (λ a b. bytes_eq one other || ((is_names_option one && is_names_option other) || (a && b))) e f ∙ any_true (bytes_eq one other) (is_names_option one && is_names_option other)
  where
    any_true : (b c : Bool) → (b || (c || true)) ≡ true
    any_true true c = refl
    any_true false true = refl
    any_true false false = refl

show_all_opcodes : HasSwitch W show_values (codes "all-opcodes")
unfolding clap_on_literals
show_all_opcodes = record { walks = λ h position. refl; passes = λ h position. refl; is_used = λ rows absent. set_appends (rule_named W (codes "all-opcodes")) (codes "true" ∷ []) rows absent; settles = λ h. refl; rows_are = λ h. refl; id = refl; no_input = refl; no_output = refl; not_input = λ word. refl; not_output = λ word. refl; apart = record { first = record { gives_no_value = refl; no_row = refl; not_row = λ value. refl; not_word = λ value. refl }; rest = record { first = record { gives_no_value = refl; no_row = refl; not_row = λ value. refl; not_word = λ value. refl }; rest = tt } }; says = elim [ true ↦ refl | false ↦ refl ] }

show_input : HasPlace W (codes "IN") 1
unfolding clap_on_literals
show_input = record {
  walks = λ h word e. name_walked W h 1 word e ∙ ap (λ b. at_idle (pushed (codes "IN") word (cond b h (settled W.rules h))) 2) (and_false _);
  passes = λ h word e settles. name_passes W h 1 word e ∙ ap (λ b. b || settle_passes W.rules false h) (and_false _) ∙ settles;
  settles = λ h word absent. ap (λ b. (not b || false) && true) absent;
  rows_are = λ h word absent. set_appends (rule_named W (codes "IN")) (word ∷ []) (rows_held W h) absent;
}

show_function : HasValue W show_values (codes "function")
unfolding clap_on_literals
show_function = record {
  among = inl refl;
  walks = λ h value position. refl;
  passes = λ h value position. refl;
  settles = λ h value. refl;
  rows_are = λ h value absent. set_appends (rule_named W (codes "function")) (value ∷ []) (rows_held W h) absent;
  default = refl;
  id = refl;
  gives = λ value. refl;
  same = λ value word is. same_function (valued (codes "function") value) word refl is;
  no_input = λ value. refl;
  no_output = λ value. refl;
  not_input = λ word. refl;
  not_output = λ word. refl;
  others = record { first = λ apart value. cc; rest = record { first = λ apart value. refl; rest = tt } };
}

show_names : HasValue W show_values (codes "names")
unfolding clap_on_literals
show_names = record {
  among = inr (inl refl);
  walks = λ h value position. refl;
  passes = λ h value position. refl;
  settles = λ h value. refl;
  rows_are = λ h value absent. set_appends (rule_named W (codes "names")) (value ∷ []) (rows_held W h) absent;
  default = refl;
  id = refl;
  gives = λ value. refl;
  same = λ value word is. same_names (valued (codes "names") value) word refl is;
  no_input = λ value. refl;
  no_output = λ value. refl;
  not_input = λ word. refl;
  not_output = λ word. refl;
  others = record { first = λ apart value. refl; rest = record { first = λ apart value. cc; rest = tt } };
}

abbrev pub show_switches : List Text
show_switches = codes "all-opcodes" ∷ []

pub show_facts : HasOptions W false show_values show_switches
unfolding clap_on_literals
show_facts = record {
  input = show_input;
  output = λ writes. cc;
  input_id = refl;
  output_id = refl;
  input_default = refl;
  output_default = refl;
  each = record { first = show_all_opcodes; rest = tt };
  each_value = record { first = show_function; rest = record { first = show_names; rest = tt } };
  level = λ words. refl;
}

pub show_known : (word : Word) → is_show_option word ≡ true → is_own show_values show_switches word ≡ true
show_known word is = go (is_function_option word) (bytes_eq word (codes "--all-opcodes")) (is_names_option word) is
  where
    go : (a b c : Bool) → (a || (b || c)) ≡ true → (b || (a || c)) ≡ true
    go true true c e = refl
    go true false c e = refl
    go false b c e = e
