use Rattle.std.proofs.Common.{◌≡◌, take}
use Rattle.std.specs.Prelude.{filter_map}
use Rattle.flow_defs.specs.Owners.{owner_of_start}
use Rattle.object_points.proofs.unchecked.list_owners.Given as goal

abbrev pub invariant-loop-place : goal.invariant-loop-place
invariant-loop-place l = l.owners.items ≡ filter_map (owner_of_start l.index.elf) (take l.place-index l.places)
