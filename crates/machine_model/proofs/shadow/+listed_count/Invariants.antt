use Rattle.std.proofs.Common.{length}
use Rattle.machine_model.proofs.shadow.+listed_count.Given as goal

abbrev pub decreases-listed_count : goal.decreases-listed_count
decreases-listed_count l = length l.frames.now
