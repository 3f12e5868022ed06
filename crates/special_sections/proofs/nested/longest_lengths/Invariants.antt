use Rattle.std.proofs.Common.{take}
use Rattle.special_sections.specs.Longest.{AreLongest}
use Rattle.special_sections.proofs.nested.longest_lengths.Given as goal

abbrev pub invariant-loop-entry : goal.invariant-loop-entry
invariant-loop-entry l = AreLongest (take l.entry-index l.entries) l.lengths
