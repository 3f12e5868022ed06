use Rattle.std.proofs.Common.{take}
use Rattle.orc_merge.specs.Ends.{HasLasts}
use Rattle.orc_merge.proofs.ends.last_rows.Given as goal

abbrev pub invariant-loop-placed : goal.invariant-loop-placed
invariant-loop-placed l = HasLasts (take l.placed-index l.rows) l.lasts
