use Rattle.std.proofs.Common.{◌≡◌, map, drop}
use Rattle.program_graph.specs.Tells.{text_of}
use Rattle.program_check.specs.Ends.{with_ends}
use Rattle.program_check.proofs.ends.without_first_empty.Given as goal

abbrev pub invariant-loop-i : goal.invariant-loop-i
invariant-loop-i l = with_ends (map text_of (drop l.i l.texts)) l.changes ≡ with_ends (map text_of l.texts) l.changes
