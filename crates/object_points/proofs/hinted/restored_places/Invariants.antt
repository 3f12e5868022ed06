use Rattle.std.proofs.Common.{◌≡◌, take}
use Rattle.std.specs.Prelude.{filter_map}
use Rattle.special_sections.specs.Special.{special_of}
use Rattle.object_points.specs.Hinted.{place_of_restored}
use Rattle.object_points.proofs.hinted.restored_places.Given as goal

abbrev pub invariant-loop-entry : goal.invariant-loop-entry
invariant-loop-entry l = l.list.items ≡ filter_map (place_of_restored (special_of l.places.elf).hints) (take l.entry-index l.entries)
