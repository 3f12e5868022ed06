-- The place is one of level 0 or one behind the settled points.
use Rattle.kept_states.proofs.DonePoints.{first_given, later_given}
use Rattle.kept_states.proofs.done.Batch.has_given.Goals as goal

pub returns-then-is_between : goal.returns-then-is_between
returns-then-is_between c holds reached h k = let r = c.is_between.ensures.0 c.if-is_between.true in first_given c.args.settled c.args.front c.args.self reached c.args.place c.if-front-settled.false r.0 r.1 h

pub returns : goal.returns
returns c holds reached h k = let r = c.is_between-2.ensures.0 holds in later_given c.args.settled c.args.front c.args.self reached c.args.place c.if-front-settled.false r.0 r.1 k
