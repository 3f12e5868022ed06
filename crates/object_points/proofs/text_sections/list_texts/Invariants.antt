use Rattle.std.proofs.Common.{◌≡◌}
use Rattle.std.specs.Prelude.{map}
use Rattle.program_graph.specs.Tells.{text_of}
use Rattle.object_points.proofs.ListedFields.{sections_below}
use Rattle.object_points.proofs.text_sections.list_texts.Given as goal

abbrev pub invariant-loop-sec : goal.invariant-loop-sec
invariant-loop-sec l = map text_of l.texts.items ≡ sections_below l.object l.sec
