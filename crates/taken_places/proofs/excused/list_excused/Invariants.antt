use Rattle.std.proofs.Common.{◌≡◌, length, take}
use Rattle.std.specs.Prelude.{filter, flat_map}
use Rattle.std.specs.List.{range_with_len}
use Rattle.taken_places.specs.Taken.{excused_in, is_excusing}
use Rattle.taken_places.proofs.excused.list_excused.Given as goal

abbrev pub invariant-loop-sec : goal.invariant-loop-sec
invariant-loop-sec l = l.places.items ≡ flat_map (excused_in l.object) (filter (is_excusing l.object) (take l.sec (range_with_len 0 (length l.object.sections))))
