use Rattle.std.proofs.Common.{rules}
use Rattle.ot_base.specs.NameLists.{with_line}
use Rattle.ot_base.proofs.lists.Lists.add.Goals as goal

pub returns : goal.returns
unfolding with_line
returns c = rw (← c.self.view_is) (search rules)
