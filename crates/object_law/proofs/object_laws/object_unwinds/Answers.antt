use Rattle.flow_defs.specs.Program.{program_of}
use Rattle.object_law.proofs.object_laws.object_unwinds.Goals as goal

pub returns : goal.returns
returns c o lists states bases ranges order right accepted kept placed =
    c.rows_unwind.ensures (program_of o lists) bases ranges states (c.program_is_one.ensures o lists order) (c.program_is_laid_out.ensures o lists order) (c.program_enters_sites.ensures o lists order right) placed accepted kept
