use Rattle.std.proofs.Common.{ap, ◌∙◌}
use Rattle.flow_defs.specs.Coded.{Coded}
use Rattle.special_sections.specs.Special.{special_of}
use Rattle.object_points.proofs.linked.Linked.special.Goals as goal

pub returns : goal.returns
returns c = c.self.invariant.all_special ∙ ap (λ (o : Coded). special_of o.elf) c.self.view_is
