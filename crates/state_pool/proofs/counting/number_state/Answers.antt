-- The state that is kept gets a number.
use Rattle.std.proofs.Common.{sym, ◌∙◌}
use Rattle.state_pool.proofs.Numbered.{one_numbered}
use Rattle.state_pool.proofs.counting.number_state.Goals as goal

pub returns-in-Some-clause-numbered : goal.returns-in-Some-clause-numbered
returns-in-Some-clause-numbered c = one_numbered c.args.kept.now c.args.n c.args.pool.now c.requires.numbered c.in-Some.state (sym c.state.ensures ∙ c.in-Some.is) c.number.new.self c.number.result.0 c.number.ensures.number c.number.ensures.known c.number.ensures.fresh c.number.ensures.kept c.number.ensures.different
