use Rattle.symbols_relocs.proofs.Counted.{behind_on, counted_to}
use Rattle.symbols_relocs.proofs.order.count_near.Goals as goal

pub returns-then-are_counted-clause-to : goal.returns-then-are_counted-clause-to
returns-then-are_counted-clause-to c = counted_to c.args.functions.now c.near_count-count.result c.args.place c.requires (c.are_counted.ensures.within c.if-are_counted.true) (c.are_counted.ensures.upto c.if-are_counted.true)

pub returns-then-are_counted-clause-behind : goal.returns-then-are_counted-clause-behind
returns-then-are_counted-clause-behind c = behind_on c.args.functions.now c.near_count-count.result c.args.place c.requires (c.are_counted.ensures.behind c.if-are_counted.true)
