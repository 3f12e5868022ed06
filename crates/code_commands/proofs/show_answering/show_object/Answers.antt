use Rattle.std.proofs.Common.{refl}
use Rattle.flow_defs.specs.Coded.{coded_by}
use Rattle.flow_defs.specs.Program.{program_of}
use Rattle.code_commands.specs.Entry.{refused}
use Rattle.code_commands.specs.Show.{no_function, shown, stopped, unchecked}
use Rattle.code_commands.proofs.EntryEnds.{may_check}
use Rattle.code_commands.proofs.show_answering.show_object.Goals as goal

pub returns-in-Err-clause-ends : goal.returns-in-Err-clause-ends
returns-in-Err-clause-ends g c before after read =
    stopped c.in-Err.stop (unchecked (refused c.args.bytes.now c.args.lists.now read (c.in-Err.ensures.stopped c.args.bytes.now c.requires.object))) c.conclude.ensures.concluded

pub returns-in-Some-clause-ends : goal.returns-in-Some-clause-ends
returns-in-Some-clause-ends g c before after read =
    let o = c.args.object.now in
    let code = c.in-Ok.ensures.shown in
    let lacks = c.in-Some.ensures (program_of (coded_by c.args.asked.map o) c.args.lists.now) code.tells in
    stopped _
    (no_function o c.args.lists.now _ (may_check _ _ _ _ c.args.bytes.now o c.args.lists.now read c.requires.object c.in-Ok.ensures.right) lacks.0 lacks.1 refl)
    c.conclude-in-Some.ensures.concluded

pub returns-clause-ends : goal.returns-clause-ends
returns-clause-ends g c before after read =
    let o = c.args.object.now in
    let code = c.in-Ok.ensures.shown in
    let p = program_of (coded_by c.args.asked.map o) c.args.lists.now in
    shown o c.args.lists.now _
    (record {
      may = may_check _ _ _ _ c.args.bytes.now o c.args.lists.now read c.requires.object c.in-Ok.ensures.right;
      kept = code.states;
      code = c.in-None.ensures p code.tells;
    })
    (c.print_listing.ensures.printed p code.tells)
