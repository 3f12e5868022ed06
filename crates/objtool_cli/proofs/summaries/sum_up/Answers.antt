use Rattle.std.proofs.Common.{◌∙◌, refl, sym, subst}
use Rattle.ot_base.specs.NameLists.{NameLists, built_in}
use Rattle.command_base.specs.declared.stop.CommandStop.TheVariants as stop
use Rattle.command_base.specs.Printing.{silent}
use Rattle.flow_defs.specs.Coded.{coded_by}
use Rattle.object_check.specs.Outcome.{IsOutcome}
use Rattle.objtool_cli.specs.Checked.{IsUncheckableStop}
use Rattle.objtool_cli.specs.Summary.{no_options, passed, stopped}
use Rattle.objtool_cli.proofs.ParseLemmas.{check_uncheckable, parse_uncheckable}
use Rattle.objtool_cli.proofs.SummaryLemmas.{passes_of, warned_of}
use Rattle.objtool_cli.proofs.summaries.sum_up.Goals as goal

pub returns-in_default-clause-ends : goal.returns-in_default-clause-ends
returns-in_default-clause-ends g c = stopped stop.NoMemory tt (silent refl refl)

pub returns-in-Err-clause-ends : goal.returns-in-Err-clause-ends
returns-in-Err-clause-ends g c =
    stopped c.parse_stop.result
    (subst (IsUncheckableStop no_options.map c.args.bytes.now built_in) (sym c.parse_stop.ensures) (parse_uncheckable no_options.map c.args.bytes.now built_in c.in-Err.fault c.in-Err.ensures.err))
    c.conclude.ensures.concluded

pub returns-in-Ok-Accepted-clause-ends : goal.returns-in-Ok-Accepted-clause-ends
returns-in-Ok-Accepted-clause-ends g c =
    passed c.in-Ok-Accepted.counts c.len-rows.result
    (passes_of c.args.bytes.now c.in-Ok-parse.object c.in-Ok.lists c.in-Ok-Accepted.counts c.in-Ok-Accepted.rows.items c.len-rows.result c.in-Ok.ensures c.in-Ok-parse.ensures.ok
    (subst (IsOutcome (coded_by no_options.map c.in-Ok-parse.object) c.in-Ok.lists no_options.rules) c.in-Ok-Accepted.field-0-is c.in-Ok-Accepted.ensures.ok) (c.len-rows.ensures ∙ c.in-Ok-Accepted.rows.ok.0))
    c.print_summary.ensures.printed

pub returns-in-Ok-Broken-clause-ends : goal.returns-in-Ok-Broken-clause-ends
returns-in-Ok-Broken-clause-ends g c =
    warned_of c.args.title.now c.args.bytes.now c.in-Ok-parse.object c.in-Ok.lists c.in-Ok-Broken.warnings.items c.deref.result.now _ _ _ c.in-Ok.ensures c.in-Ok-parse.ensures.ok
    (subst (IsOutcome (coded_by no_options.map c.in-Ok-parse.object) c.in-Ok.lists no_options.rules) c.in-Ok-Broken.field-0-is c.in-Ok-Broken.ensures.ok) c.deref.ensures.value c.print_warnings.ensures.printed

pub returns-clause-ends : goal.returns-clause-ends
returns-clause-ends g c =
    stopped c.check_stop.result
    (subst (λ (lists : NameLists). IsUncheckableStop no_options.map c.args.bytes.now lists c.check_stop.result) c.in-Ok.ensures
    (check_uncheckable no_options.map c.args.bytes.now c.in-Ok.lists c.in-Ok-parse.object c.check_stop.result c.in-Ok-parse.ensures.ok (c.check_stop.ensures no_options.map c.in-Ok.lists c.in-Err-check_object.ensures.err)))
    c.conclude-in-Err-check_object.ensures.concluded

pub check_stop-requires : goal.check_stop-requires
check_stop-requires g c = (no_options.map, c.in-Ok.lists, c.in-Err-check_object.ensures.err)
