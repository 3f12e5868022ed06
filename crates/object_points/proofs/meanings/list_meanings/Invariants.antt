use Rattle.std.proofs.Common.{◌≡◌, ◌≤◌, length, take}
use Rattle.std.specs.Prelude.{filter_map}
use Rattle.object_points.specs.Meanings.{meaning_of}
use Rattle.object_points.proofs.meanings.list_meanings.Given as goal

abbrev pub invariant-loop-restore : goal.invariant-loop-restore
invariant-loop-restore l = (l.meanings.items ≡ filter_map (meaning_of l.places) (take l.restore-index l.restores)) × (length l.meanings.items ≤ l.restore-index)
