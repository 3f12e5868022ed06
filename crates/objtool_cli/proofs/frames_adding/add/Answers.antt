use Rattle.std.proofs.Common.{refl}
use Rattle.objtool_cli.specs.Cfi.{done, refused, stopped, unwritten}
use Rattle.objtool_cli.proofs.FramesEnds.{crowded, may_get, wrote}
use Rattle.objtool_cli.proofs.frames_adding.add.Goals as goal

pub returns-in-Err-clause-ends : goal.returns-in-Err-clause-ends
returns-in-Err-clause-ends g c =
    stopped c.in-Err.stop
    (refused c.args.bytes.now c.args.lists.now c.requires.read
    (crowded c.args.asked.map c.args.bytes.now c.args.lists.now c.args.object.now c.args.rows.now c.args.rows.now c.in-Err.stop c.requires.object
    (c.requires.checkable, c.requires.unbroken, c.requires.rows) refl c.in-Err.ensures.crowded) refl)
    c.conclude.ensures.concluded

pub returns-in-Ok-write_file-clause-ends : goal.returns-in-Ok-write_file-clause-ends
returns-in-Ok-write_file-clause-ends g c =
    done c.args.object.now c.args.rows.now c.in-Ok.file.items
    (may_get _ _ _ _ c.args.bytes.now c.args.lists.now c.args.object.now c.args.rows.now c.args.rows.now c.in-Ok.file.items c.find_is_exact.ensures.found c.find_is_exact.ensures.none c.requires.read c.requires.object
    (c.requires.checkable, c.requires.unbroken, c.requires.rows) c.requires.unwinds refl c.in-Ok.ensures.few c.in-Ok.ensures.tells)
    (wrote _ _ _ _ _ c.as_slice.ensures.value c.in-Ok-write_file.ensures.written)
    refl

pub returns-clause-ends : goal.returns-clause-ends
returns-clause-ends g c =
    stopped c.in-Err-write_file.stop
    (unwritten c.args.object.now c.args.rows.now c.in-Ok.file.items
    (may_get _ _ _ _ c.args.bytes.now c.args.lists.now c.args.object.now c.args.rows.now c.args.rows.now c.in-Ok.file.items c.find_is_exact.ensures.found c.find_is_exact.ensures.none c.requires.read c.requires.object
    (c.requires.checkable, c.requires.unbroken, c.requires.rows) c.requires.unwinds refl c.in-Ok.ensures.few c.in-Ok.ensures.tells)
    c.in-Err-write_file.ensures.stopped c.in-Err-write_file.ensures.others)
    c.conclude-in-Err-write_file.ensures.concluded
