use Rattle.std.proofs.Common.{arith, ap}
use Rattle.operation_defs.specs.declared.insn.Insn.{Insn}
use Rattle.program_model.proofs.Points.{sum_at}
use Rattle.program_model.proofs.placement.return_address.Goals as goal

pub returns-in-Some : goal.returns-in-Some
returns-in-Some c = λ set. sum_at _ _ _ (omega (arith, c.in-Some.ensures set, ap (λ (i : Insn). i.len) c.insn.ensures)) c.sum.ensures
