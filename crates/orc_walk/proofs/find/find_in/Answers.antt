use Rattle.std.proofs.Common.{◌≡◌, ◌-◌, Some, arith, sym, ap, subst}
use Rattle.std.proofs.lemmas.Option.{get_or_from_slice_get}
use Rattle.std.specs.Prelude.{slice_get}
use Rattle.ot_base.specs.CountedItems.{CountedItems, one_more}
use Rattle.orc_walk.proofs.LastRow.{IsSplit, ascends, none_below, last_below}
use Rattle.orc_walk.proofs.Halving.{reads_few, one_more_counted}
use Rattle.orc_walk.proofs.find.find_in.Goals as goal

pub items_near-low-requires-clause-ascending : goal.items_near-low-requires-clause-ascending
items_near-low-requires-clause-ascending c = ascends c.args.tape.now.items c.requires.in_order

pub items_up_to-count-requires-clause-ascending : goal.items_up_to-count-requires-clause-ascending
items_up_to-count-requires-clause-ascending c = ascends c.args.tape.now.items c.requires.in_order

pub returns-then-count-eq0-clause-found : goal.returns-then-count-eq0-clause-found
returns-then-count-eq0-clause-found c = sym (none_below c.args.tape.now.items c.args.addr c.items_up_to-count.result c.if-count-eq0.true c.items_up_to-count.ensures.bound c.items_up_to-count.ensures.split)

pub returns-clause-found : goal.returns-clause-found
returns-clause-found c =
    let count = c.items_up_to-count.result in
    let item = c.read-address.result in
    let read = subst (λ items. slice_get items (count - 1) ≡ Some item) c.items_up_to-count.ensures.only_reads c.read-address.ensures.item in
    let is = sym (get_or_from_slice_get c.args.tape.now.items (count - 1) item item read) in
    sym (last_below c.args.tape.now.items c.args.addr (count - 1) item c.requires.in_order (omega (arith, c.items_up_to-count.ensures.bound)) (subst (λ n. IsSplit c.args.tape.now.items c.args.addr n) (omega arith) c.items_up_to-count.ensures.split) is)

pub returns-clause-counted : goal.returns-clause-counted
returns-clause-counted c =
    let middle = c.items_up_to-count.new.tape.reads in
    let reads : c.read-address.new.self.reads ≡ one_more middle = ap (λ (t : CountedItems). t.reads) c.read-address.ensures.counted in
    let more = one_more_counted middle in
    reads_few c.args.tape.now.reads middle c.read-address.new.self.reads c.items_near-low.result.0 c.items_near-low.result.1 _ c.items_up_to-count.ensures.no_fewer (omega (arith, more.0)) (omega (arith, more.1)) c.items_up_to-count.ensures.few c.items_near-low.ensures.number
