use Rattle.std.proofs.Common.{refl, sym, subst}
use Rattle.objtool_cli.specs.Cfi.{GetNoFrames, refused, stopped}
use Rattle.objtool_cli.proofs.FramesGets.{no_object}
use Rattle.objtool_cli.proofs.frames_adding.check_and_add.Goals as goal

pub returns-in-Err-clause-ends : goal.returns-in-Err-clause-ends
returns-in-Err-clause-ends g c =
    stopped c.parse_stop.result
    (refused c.args.bytes.now c.args.lists.now c.requires.read (subst (GetNoFrames c.args.asked.map c.args.bytes.now c.args.lists.now) (sym c.parse_stop.ensures) (no_object c.args.asked.map c.args.bytes.now c.args.lists.now c.in-Err.fault c.in-Err.ensures.err)) refl)
    c.conclude.ensures.concluded
