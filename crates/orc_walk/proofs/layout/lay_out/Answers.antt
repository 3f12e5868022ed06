use Rattle.std.proofs.Common.{ap, sym, subst, ◌∙◌}
use Rattle.table_defs.specs.Placement.{is_inside}
use Rattle.orc_walk.specs.Blocks.{IsAscending}
use Rattle.orc_walk.proofs.Values.{values_ascend, same_inside}
use Rattle.orc_walk.proofs.layout.lay_out.Goals as goal

pub returns-clause-ascending : goal.returns-clause-ascending
returns-clause-ascending c = subst IsAscending (sym c.in_ok-ascending.ensures.all) (values_ascend c.args.ranges.now c.in_ok-laid.laid c.in_ok-ascending.ensures.ordered c.in_ok-laid.ensures.laid)

pub returns-clause-inside : goal.returns-clause-inside
returns-clause-inside c = λ address. ap (λ ranges. is_inside ranges address) c.in_ok-ascending.ensures.all ∙ same_inside c.args.ranges.now c.in_ok-laid.laid address c.in_ok-ascending.ensures.ordered c.in_ok-laid.ensures.laid
