use Rattle.std.proofs.Common.{rules, codes, option_map, refl}
use Rattle.std.proofs.lemmas.Result.{IfOk-weaker}
use Rattle.cli_words.specs.declared.word.CommandWord.TheVariants as the
use Rattle.cli_words.specs.Grammar.{command_in}
use Rattle.cli_matches.specs.Matches.{rows_in}
use Rattle.cli_matches.proofs.SaysLemmas.{said_behind}
use Rattle.cli_matches.proofs.reading.named_command.Goals as goal

pub returns-in-check : goal.returns-in-check
returns-in-check c =
    IfOk-weaker c.check_of.result _ _ (λ read known. said_behind (codes "check") the.Check c.args.name.now (rows_in c.args.found.now) (option_map command_in read) (search rules) refl known) c.check_of.ensures

pub returns-in-dump : goal.returns-in-dump
returns-in-dump c =
    IfOk-weaker c.dump_of.result _ _ (λ read known. said_behind (codes "dump") the.Dump c.args.name.now (rows_in c.args.found.now) (option_map command_in read) (search rules) refl known) c.dump_of.ensures

pub returns-in-unwind : goal.returns-in-unwind
returns-in-unwind c =
    IfOk-weaker c.unwind_of.result _ _ (λ read known. said_behind (codes "unwind") the.Unwind c.args.name.now (rows_in c.args.found.now) (option_map command_in read) (search rules) refl known) c.unwind_of.ensures

pub returns-in-sites : goal.returns-in-sites
returns-in-sites c =
    IfOk-weaker c.sites_of.result _ _ (λ read known. said_behind (codes "sites") the.Sites c.args.name.now (rows_in c.args.found.now) (option_map command_in read) (search rules) refl known) c.sites_of.ensures

pub returns-in-list : goal.returns-in-list
returns-in-list c =
    IfOk-weaker c.list_of.result _ _ (λ read known. said_behind (codes "list") the.List c.args.name.now (rows_in c.args.found.now) (option_map command_in read) (search rules) refl known) c.list_of.ensures

pub returns-in-entry : goal.returns-in-entry
returns-in-entry c =
    IfOk-weaker c.entry_of.result _ _ (λ read known. said_behind (codes "entry") the.Entry c.args.name.now (rows_in c.args.found.now) (option_map command_in read) (search rules) refl known) c.entry_of.ensures

pub returns-in-cfi : goal.returns-in-cfi
returns-in-cfi c =
    IfOk-weaker c.cfi_of.result _ _ (λ read known. said_behind (codes "cfi") the.Cfi c.args.name.now (rows_in c.args.found.now) (option_map command_in read) (search rules) refl known) c.cfi_of.ensures

pub returns-in-cfa : goal.returns-in-cfa
returns-in-cfa c =
    IfOk-weaker c.cfa_of.result _ _ (λ read known. said_behind (codes "cfa") the.Cfa c.args.name.now (rows_in c.args.found.now) (option_map command_in read) (search rules) refl known) c.cfa_of.ensures

pub returns-in-merge : goal.returns-in-merge
returns-in-merge c =
    IfOk-weaker c.merge_of.result _ _ (λ read known. said_behind (codes "merge") the.Merge c.args.name.now (rows_in c.args.found.now) (option_map command_in read) (search rules) refl known) c.merge_of.ensures

pub returns-in-show : goal.returns-in-show
returns-in-show c =
    IfOk-weaker c.show_of.result _ _ (λ read known. said_behind (codes "show") the.Show c.args.name.now (rows_in c.args.found.now) (option_map command_in read) (search rules) refl known) c.show_of.ensures

pub returns-in-explain : goal.returns-in-explain
returns-in-explain c =
    IfOk-weaker c.explain_of.result _ _ (λ read known. said_behind (codes "explain") the.Explain c.args.name.now (rows_in c.args.found.now) (option_map command_in read) (search rules) refl known) c.explain_of.ensures

pub returns-in-find : goal.returns-in-find
returns-in-find c =
    IfOk-weaker c.find_of.result _ _ (λ read known. said_behind (codes "find") the.Find c.args.name.now (rows_in c.args.found.now) (option_map command_in read) (search rules) refl known) c.find_of.ensures
