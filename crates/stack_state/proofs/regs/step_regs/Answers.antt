use Rattle.std.proofs.Common.{rules}
use Rattle.stack_state.proofs.RegsStay.{regs_stay}
use Rattle.stack_state.proofs.regs.step_regs.Goals as goal

-- src/regs.rt:58:1
pub returns-in_default : goal.returns-in_default
returns-in_default c =
    let d = c.in_default in
    let stays = regs_stay c.args.full c.args.depth c.args.op d.not-Push d.not-PushBp d.not-Hop d.not-Pop d.not-Popf d.not-AddSp d.not-PopBp d.not-LeaBpSp d.not-LeaBpRoom d.not-LoadBp d.not-BpOther d.not-AndSp d.not-LeaSpBp d.not-Leave d.not-SpOther d.not-SubSp d.not-SpReg d.not-IretNext in
    search (rules, stays)
