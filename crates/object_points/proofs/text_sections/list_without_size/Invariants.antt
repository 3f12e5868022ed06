use Rattle.std.proofs.Common.{◌≡◌}
use Rattle.object_points.proofs.ListedFields.{unsized_below}
use Rattle.object_points.proofs.text_sections.list_without_size.Given as goal

abbrev pub invariant-loop-k : goal.invariant-loop-k
invariant-loop-k l = l.places.items ≡ unsized_below l.object l.k
