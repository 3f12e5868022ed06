use Rattle.std.proofs.Common.{◌≡◌, ◌++◌, length, take}
use Rattle.std.specs.Prelude.{filter, flat_map}
use Rattle.std.specs.List.{range_with_len}
use Rattle.taken_places.specs.Listed.{addresses_in_section, is_data}
use Rattle.taken_places.proofs.targets.push_data.Given as goal

abbrev pub invariant-loop-sec : goal.invariant-loop-sec
invariant-loop-sec l = l.places.items ≡ l.fn.places.items ++ flat_map (addresses_in_section l.object) (filter (is_data l.object) (take l.sec (range_with_len 0 (length l.object.sections))))
