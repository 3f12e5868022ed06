-- The entry is listed for one point more.
use Rattle.control_flow.proofs.Listing.{listed_for_all, listed_for_more, listed_for_none}
use Rattle.control_flow.proofs.entering.enter.Goals as goal

pub loop-q-init : goal.loop-q-init
loop-q-init c = listed_for_none c.args.entered.now.items c.args.stands.now c.args.entry

pub loop-q-preserved : goal.loop-q-preserved
loop-q-preserved c =
    rw c.some.ensures (listed_for_more c.args.entered.now.items c.loop-q.entered.items c.args.stands.now c.args.entry c.loop-q.q-index c.loop-q-test.true (c.requires.stands c.loop-q.q-index 0 c.loop-q-test.true) c.loop-q.invariant)

pub returns-clause-listed : goal.returns-clause-listed
returns-clause-listed c = listed_for_all c.args.entered.now.items c.loop-q.entered.items c.args.stands.now c.args.entry c.loop-q.q-index c.loop-q-test.false c.loop-q.invariant

pub returns-clause-kept : goal.returns-clause-kept
returns-clause-kept c = c.loop-q.invariant.kept
