use Rattle.std.proofs.Common.{◌≡◌, map, take}
use Rattle.special_sections.specs.Nested.{with_longest}
use Rattle.special_sections.proofs.nested.nest.Given as goal

abbrev pub invariant-loop-entry : goal.invariant-loop-entry
invariant-loop-entry l = l.list.items ≡ map (with_longest l.entries) (take l.entry-index l.entries)
