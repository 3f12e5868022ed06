use Rattle.control_flow.proofs.Fields.{marked_listed, unmarked_listed}
use Rattle.control_flow.proofs.listed.is_listed.Goals as goal

pub returns-then-is_marked-clause-is : goal.returns-then-is_marked-clause-is
returns-then-is_marked-clause-is c = marked_listed c.args.places.now c.args.lists.now c.args.n c.args.is_marked c.requires.marked c.if-is_marked.true

pub returns-clause-is : goal.returns-clause-is
returns-clause-is c =
    unmarked_listed c.args.places.now c.args.lists.now c.args.n c.args.is_marked c.is_listed_call.result c.args.role c.requires.marked c.if-is_marked.false c.requires.role c.is_listed_call.ensures.is
