use Rattle.std.proofs.Common.{sym, ◌∙◌}
use Rattle.symbols_relocs.proofs.Counted.{behind_on, counted_to}
use Rattle.symbols_relocs.proofs.order.count_from.Goals as goal

pub returns-in-Some-clause-to : goal.returns-in-Some-clause-to
returns-in-Some-clause-to c = counted_to c.args.functions.now c.in-Some.count c.args.place c.requires c.in-Some.ensures.0 c.in-Some.ensures.1

pub returns-in-Some-clause-behind : goal.returns-in-Some-clause-behind
returns-in-Some-clause-behind c = behind_on c.args.functions.now c.in-Some.count c.args.place c.requires (sym c.is_behind.ensures ∙ c.if-is_behind.true)
