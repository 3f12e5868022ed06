-- What clap reads of the definition of the command line.
use Rattle.std.specs.Prelude.{◌≡◌, ℕ, IfOk, Result, Some, codes, true}
use Rattle.clap.specs.Words.{App, Rule, Text, app_of, new_app, new_rule, with_rule, with_subcommand}
use Rattle.clap.specs.declared.builder.command.Command.{Command}
use Rattle.clap.specs.declared.builder.ArgAction.{ArgAction}
use Rattle.clap.specs.declared.builder.ArgAction.TheVariants.{Help, SetTrue, Version}

-- this command is made, unless memory runs out
abbrev pub Makes : {Fault : Type 0} → Result Command Fault → App → Type 0
Makes made app = IfOk made (λ command. app_of command ≡ app)

-- a name or a number that a command asks for
abbrev pub place_rule : Text → Rule
place_rule name = record (new_rule name) { required = true }

-- one that may be left out
abbrev pub optional_rule : Text → Rule
optional_rule name = new_rule name

-- an option that has no value
abbrev pub flag_rule : Text → ArgAction → Rule
flag_rule name action = record (new_rule name) { long = Some name; action = Some action }

abbrev pub switch_rule : Text → Rule
switch_rule name = flag_rule name SetTrue

-- one that asks for a text of the program, also by one letter
abbrev pub text_rule : Text → ℕ → ArgAction → Rule
text_rule name letter action = record (flag_rule name action) { short = Some letter }

-- an option that has a value, as `--names=FILE`
abbrev pub value_rule : Text → Rule
value_rule name = record (new_rule name) { long = Some name; value_names = 1 }

-- with the options that `check`, `sites`, `entry`, `cfi` and `show` have
abbrev pub with_common_options : App → App
with_common_options app = with_rule (with_rule app (switch_rule (codes "all-opcodes"))) (value_rule (codes "names"))

-- a command without arguments
abbrev pub command_app : Text → App
command_app name = let app = new_app name in record app { top = record app.top { disable_help_flag = true } }

-- a command that asks for an object
abbrev pub file_app : Text → App
file_app name = with_rule (command_app name) (place_rule (codes "FILE"))

-- a command that asks for two names, or a name and a number
abbrev pub pair_app : (name first second : Text) → App
pair_app name first second = with_rule (with_rule (command_app name) (place_rule first)) (place_rule second)

-- a command that reads an object, and writes it to a file, with the common options alone
abbrev pub rewriting_app : Text → App
rewriting_app name = with_common_options (pair_app name (codes "IN") (codes "OUT"))

abbrev pub check_app : App
check_app =
    let app = pair_app (codes "check") (codes "IN") (codes "OUT") in
    let app = with_rule app (switch_rule (codes "fp")) in
    let app = with_rule app (switch_rule (codes "retpoline")) in
    let app = with_rule app (switch_rule (codes "rethunk")) in
    let app = with_rule app (switch_rule (codes "uaccess")) in
    let app = with_rule app (switch_rule (codes "no-unreachable")) in
    let app = with_rule app (switch_rule (codes "link")) in
    let app = with_rule app (switch_rule (codes "module")) in
    let app = with_rule app (switch_rule (codes "backtrace")) in
    with_common_options app

abbrev pub sites_app : App
sites_app =
    let app = pair_app (codes "sites") (codes "IN") (codes "OUT") in
    let app = with_rule app (switch_rule (codes "module")) in
    with_common_options app

abbrev pub entry_app : App
entry_app =
    let app = with_rule (command_app (codes "entry")) (place_rule (codes "IN")) in
    let app = with_rule app (switch_rule (codes "noinstr")) in
    let app = with_rule app (switch_rule (codes "sls")) in
    let app = with_rule app (switch_rule (codes "ibt")) in
    with_common_options app

abbrev pub unwind_app : App
unwind_app = pair_app (codes "unwind") (codes "FILE") (codes "IMAGE")

abbrev pub merge_app : App
merge_app = pair_app (codes "merge") (codes "LAYOUT") (codes "OUT")

abbrev pub find_app : App
find_app = pair_app (codes "find") (codes "TABLE") (codes "ADDR")

abbrev pub show_app : App
show_app =
    let app = with_rule (command_app (codes "show")) (place_rule (codes "IN")) in
    let app = with_rule app (value_rule (codes "function")) in
    with_common_options app

abbrev pub explain_app : App
explain_app = with_rule (command_app (codes "explain")) (optional_rule (codes "TOPIC"))

abbrev pub demo_app : App
demo_app = with_rule (command_app (codes "demo")) (place_rule (codes "N"))

-- the program, before its commands and options
abbrev pub program_app : App
program_app =
    let app = new_app (codes "objtool") in
    record app {
      top = record app.top {
        no_binary_name = true;
        has_version = true;
        subcommand_required = true;
        disable_help_flag = true;
        disable_version_flag = true;
        disable_help_subcommand = true;
      };
    }

abbrev pub help_rule : Rule
help_rule = text_rule (codes "help") 104 Help

abbrev pub version_rule : Rule
version_rule = text_rule (codes "version") 86 Version

-- the whole command line
abbrev pub line_app : App
line_app =
    let app = with_subcommand program_app check_app.top in
    let app = with_subcommand app (file_app (codes "dump")).top in
    let app = with_subcommand app unwind_app.top in
    let app = with_subcommand app sites_app.top in
    let app = with_subcommand app (file_app (codes "list")).top in
    let app = with_subcommand app entry_app.top in
    let app = with_subcommand app (rewriting_app (codes "cfi")).top in
    let app = with_subcommand app (file_app (codes "cfa")).top in
    let app = with_subcommand app merge_app.top in
    let app = with_subcommand app find_app.top in
    let app = with_subcommand app show_app.top in
    let app = with_subcommand app explain_app.top in
    let app = with_subcommand app demo_app.top in
    with_rule (with_rule app help_rule) version_rule
