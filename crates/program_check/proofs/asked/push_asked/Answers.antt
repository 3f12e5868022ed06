-- With a table, what it tells is tracked.
use Rattle.std.proofs.Common.{option_copied, subst}
use Rattle.std.proofs.lemmas.Result.{on_ok_weaker}
use Rattle.program_check.specs.AskedRules.{IsTracked}
use Rattle.program_check.proofs.Tracked.{tracks}
use Rattle.program_check.proofs.asked.push_asked.Goals as goal

pub returns-in-Some : goal.returns-in-Some
returns-in-Some c = on_ok_weaker c.push_by_table.result (λ h p allowed t.
    h p allowed (tracks p allowed c.args.graph.now.parts c.in-Some.table.now (subst (λ o. IsTracked p allowed c.args.graph.now.parts (option_copied o)) c.in-Some.is t))) c.push_by_table.ensures
