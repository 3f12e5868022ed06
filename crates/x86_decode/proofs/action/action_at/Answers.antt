use Rattle.std.proofs.Common.{rules, tests}
use Rattle.x86_decode.specs.Action.{action_of}
use Rattle.x86_decode.proofs.action.action_at.Goals as goal

pub returns-in_default : goal.returns-in_default
unfolding action_of
returns-in_default c = search (tests, rules)
