use Rattle.std.proofs.Common.{◌∙◌}
use Rattle.jump_tables.proofs.Order.{contains_is}
use Rattle.jump_tables.proofs.places.contains.Goals as goal

pub returns : goal.returns
returns c = c.is_found.ensures ∙ contains_is c.args.places.now c.args.place c.find_first.result c.find_first.ensures
