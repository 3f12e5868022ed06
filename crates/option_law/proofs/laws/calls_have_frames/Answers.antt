use Rattle.option_law.proofs.Frames.{law_from}
use Rattle.option_law.proofs.laws.calls_have_frames.Goals as goal

pub returns : goal.returns
returns c = law_from c.unwinding_law.ensures
