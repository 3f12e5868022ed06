use Rattle.std.proofs.Common.{◌≡◌, ◌++◌, map, drop}
use Rattle.program_graph.specs.Tells.{text_of}
use Rattle.program_check.specs.Ends.{with_ends}
use Rattle.program_check.proofs.ends.push_sections.Given as goal

abbrev pub invariant-loop-text : goal.invariant-loop-text
invariant-loop-text l = l.rows.items ++ with_ends (map text_of (drop l.text-index l.texts)) l.rest ≡ l.initial.rows.items ++ with_ends (map text_of l.texts) l.changes
