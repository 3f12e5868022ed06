use Rattle.std.proofs.Common.{subst, sym}
use Rattle.code_commands.specs.Entry.{IsUncheckable, refused, stopped}
use Rattle.code_commands.proofs.EntryUncheckable.{no_object}
use Rattle.code_commands.proofs.entry_answering.answer.Goals as goal

pub returns-in-Ok-clause-ends : goal.returns-in-Ok-clause-ends
returns-in-Ok-clause-ends g c before after read = c.answer_object.ensures.ends before after read

pub returns-in-Err-clause-ends : goal.returns-in-Err-clause-ends
returns-in-Err-clause-ends g c before after read =
    stopped c.parse_stop.result
    (refused c.args.bytes.now c.args.lists.now read (subst (IsUncheckable c.args.asked.map c.args.bytes.now c.args.lists.now) (sym c.parse_stop.ensures) (no_object c.args.asked.map c.args.bytes.now c.args.lists.now c.in-Err.fault c.in-Err.ensures.err)))
    c.conclude.ensures.concluded
