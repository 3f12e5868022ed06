use Rattle.std.proofs.Common.{◌≡◌, take, None}
use Rattle.orc_merge.specs.Parts.{first_in}
use Rattle.orc_merge.specs.MergeFaults.{unended}
use Rattle.orc_merge.proofs.ends.check_ends.Given as goal

abbrev pub invariant-loop-number : goal.invariant-loop-number
invariant-loop-number l = first_in unended 0 (take l.number l.parts) ≡ None
