use Rattle.std.proofs.Common.{◌≡◌, ◌++◌, take}
use Rattle.std.specs.Prelude.{filter_map}
use Rattle.elf_objects.specs.Contents.{relocs_at}
use Rattle.taken_places.specs.Taken.{address_in_data}
use Rattle.taken_places.proofs.targets.push_section.Given as goal

abbrev pub invariant-loop-i : goal.invariant-loop-i
invariant-loop-i l = l.places.items ≡ l.fn.places.items ++ filter_map (address_in_data l.object) (take l.i (relocs_at l.object l.sec))
