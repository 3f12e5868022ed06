use Rattle.eh_frame.proofs.FrameLaw.{rows_are_read_back}
use Rattle.eh_frame.proofs.laws.rows_are_read_back.Goals as goal

pub returns : goal.returns
returns c = rows_are_read_back
