use Rattle.std.proofs.Common.{◌-◌, length}
use Rattle.eh_frame.proofs.FollowedSteps.{Progress}
use Rattle.eh_frame.proofs.rules.list_rules.Given as goal

abbrev pub invariant-loop-pos : goal.invariant-loop-pos
invariant-loop-pos l = Progress l.sec l.size l.spelled l.pos l.followed l.initial.rules.items l.rules.items

abbrev pub decreases-loop-pos : goal.decreases-loop-pos
decreases-loop-pos l = length l.spelled - l.pos
