use Rattle.std.proofs.Common.{refl, sym}
use Rattle.machine_defs.specs.Step.{sibling, indirect}
use Rattle.machine_model.proofs.goes.jumps_to.Goals as goal

pub returns-then-has_edge : goal.returns-then-has_edge
returns-then-has_edge c = λ set _. sibling c.args.to (c.if-has_edge.ensures refl)

pub returns-in-JumpAny : goal.returns-in-JumpAny
returns-in-JumpAny c = λ set h.
    let e = c.is_at_entry.ensures set h in
    indirect c.args.to e.entry (sym c.in-JumpAny.ensures) e.listed e.arrives
