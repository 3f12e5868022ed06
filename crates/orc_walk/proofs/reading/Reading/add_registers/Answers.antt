use Rattle.std.proofs.Common.{sym, ◌∙◌}
use Rattle.orc_walk.proofs.SayingLemmas.{registers_fit, holds_registers}
use Rattle.orc_walk.proofs.reading.Reading.add_registers.Goals as goal

pub returns-clause-adds : goal.returns-clause-adds
returns-clause-adds c = λ earlier is.
    let none = sym c.is_some.ensures ∙ c.if-is_some.false in
    (registers_fit earlier c.args.self.now c.args.regs is none, holds_registers earlier c.args.self.now c.args.regs is none)
