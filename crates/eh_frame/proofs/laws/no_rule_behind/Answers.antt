use Rattle.eh_frame.proofs.FrameLaw.{no_rule_behind}
use Rattle.eh_frame.proofs.laws.no_rule_behind.Goals as goal

pub returns : goal.returns
returns c = no_rule_behind
