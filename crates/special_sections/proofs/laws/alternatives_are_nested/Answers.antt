use Rattle.special_sections.proofs.Written.{nested_from}
use Rattle.special_sections.proofs.laws.alternatives_are_nested.Goals as goal

pub returns : goal.returns
returns c = nested_from
