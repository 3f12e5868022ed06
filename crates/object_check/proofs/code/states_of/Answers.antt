use Rattle.flow_defs.specs.Program.{program_of}
use Rattle.object_check.proofs.code.states_of.Goals as goal

pub returns-clause-kept : goal.returns-clause-kept
returns-clause-kept c = λ o lists options is.
    c.spread.ensures.kept (program_of o lists) is.graph.tells (c.program_is_one.ensures o lists is.graph.object) (c.program_is_laid_out.ensures o lists is.graph.object).hint_points
