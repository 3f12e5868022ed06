use Rattle.std.proofs.Common.{◌≡◌, []}
use Rattle.code_commands.specs.Entry.{refused, stopped, warned}
use Rattle.code_commands.proofs.Empty.{is_empty, not_empty}
use Rattle.code_commands.proofs.EntryEnds.{done_silently, may_check, printed_as}
use Rattle.code_commands.proofs.EntryLaws.{none_broken}
use Rattle.code_commands.proofs.entry_answering.answer_object.Goals as goal

pub returns-in-Err-clause-ends : goal.returns-in-Err-clause-ends
returns-in-Err-clause-ends g c before after read =
    stopped c.in-Err.stop (refused c.args.bytes.now c.args.lists.now read (c.in-Err.ensures.stopped c.args.bytes.now c.requires.object)) c.conclude.ensures.concluded

pub returns-then-is_empty-clause-ends : goal.returns-then-is_empty-clause-ends
returns-then-is_empty-clause-ends g c before after read =
    let all = c.in-Ok.warnings in
    let none : c.in-Ok.warnings.items ≡ [] = is_empty c.is_empty.result all.len all.items c.is_empty.ensures all.ok.0 c.if-is_empty.true in
    done_silently _ _ _ _ _ _ _ c.args.object.now c.args.lists.now (may_check _ _ _ _ c.args.bytes.now c.args.object.now c.args.lists.now read c.requires.object c.in-Ok.ensures.right)
    (none_broken _ c.args.lists.now c.args.asked.options c.in-Ok.warnings.items c.in-Ok.ensures.are none)
    (c.in-Ok.ensures.keeps none)

pub returns-clause-ends : goal.returns-clause-ends
returns-clause-ends g c before after read =
    let all = c.in-Ok.warnings in
    warned c.args.object.now c.args.lists.now c.in-Ok.warnings.items (may_check _ _ _ _ c.args.bytes.now c.args.object.now c.args.lists.now read c.requires.object c.in-Ok.ensures.right)
    c.in-Ok.ensures.are (not_empty c.is_empty.result all.len all.items c.is_empty.ensures all.ok.0 c.if-is_empty.false)
    (printed_as c.args.object.now c.deref.result.now all.items _ _ _ c.deref.ensures.value c.print_warnings.ensures.printed)
