use Rattle.std.proofs.Common.{subst}
use Rattle.ot_base.specs.NameLists.{NameLists}
use Rattle.flow_defs.specs.Coded.{Coded}
use Rattle.object_points.specs.Linked.{IsLinked}
use Rattle.object_points.proofs.linked.Linked.texts.Goals as goal

pub returns-clause-linked : goal.returns-clause-linked
returns-clause-linked c = subst (λ (o : Coded). (lists : NameLists) × IsLinked o lists) c.self.view_is c.self.invariant.linked
