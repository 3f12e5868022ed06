use Rattle.std.proofs.Common.{refl, subst, sym}
use Rattle.objtool_cli.specs.Checked.{IsUncheckableStop}
use Rattle.objtool_cli.specs.Command.{refused, stopped}
use Rattle.objtool_cli.proofs.ParseLemmas.{parse_uncheckable, uncheckable_refusal}
use Rattle.objtool_cli.proofs.check.check.Goals as goal

pub returns-in-Err-clause-ends : goal.returns-in-Err-clause-ends
returns-in-Err-clause-ends g c =
    stopped c.parse_stop.result
    (refused c.args.bytes.now c.args.lists.now c.requires.read (uncheckable_refusal c.args.bytes.now c.args.lists.now c.args.asked.options c.parse_stop.result (subst (IsUncheckableStop c.args.asked.options.map c.args.bytes.now c.args.lists.now) (sym c.parse_stop.ensures) (parse_uncheckable c.args.asked.options.map c.args.bytes.now c.args.lists.now c.in-Err.fault c.in-Err.ensures.err))) refl)
    c.conclude.ensures.concluded
