-- The entry that the edge leads to.
use Rattle.std.proofs.Common.{arith}
use Rattle.std.proofs.lemmas.Result.{on_ok_weaker}
use Rattle.machine_defs.specs.Program.{IsPoint}
use Rattle.stack_rules.proofs.GainsLemmas.{gains_same}
use Rattle.program_check.specs.PointWarns.{EdgeCalls, PointIsCalled}
use Rattle.program_check.proofs.callees.push_edge.Goals as goal

pub returns-in-Sibling : goal.returns-in-Sibling
returns-in-Sibling c = on_ok_weaker c.push_point.result (λ h p allowed t.
    let point : IsPoint p c.args.edge.to = omega (arith, c.requires, t.tells.count) in
    gains_same _ _ (PointIsCalled p allowed c.args.place c.args.edge.to) (EdgeCalls p allowed c.args.place c.args.edge) (h p allowed t point) (λ w. (λ k. (c.in-Sibling.is, k), λ k. k.1))) c.push_point.ensures
