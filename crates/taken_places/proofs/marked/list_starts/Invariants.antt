use Rattle.taken_places.specs.Marks.{AreStarts}
use Rattle.taken_places.proofs.marked.list_starts.Given as goal

abbrev pub invariant-loop-at : goal.invariant-loop-at
invariant-loop-at l = AreStarts l.text l.table l.at l.starts.items
