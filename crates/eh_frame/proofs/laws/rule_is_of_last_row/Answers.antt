use Rattle.eh_frame.proofs.FrameLaw.{rule_is_of_last_row}
use Rattle.eh_frame.proofs.laws.rule_is_of_last_row.Goals as goal

pub returns : goal.returns
returns c = rule_is_of_last_row
