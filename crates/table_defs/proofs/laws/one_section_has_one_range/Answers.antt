use Rattle.table_defs.proofs.OneSection.{one_range}
use Rattle.table_defs.proofs.laws.one_section_has_one_range.Goals as goal

pub returns : goal.returns
returns c = one_range
