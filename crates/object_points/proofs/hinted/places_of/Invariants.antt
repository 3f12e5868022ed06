use Rattle.std.proofs.Common.{◌≡◌, take}
use Rattle.std.specs.Prelude.{filter_map}
use Rattle.object_points.specs.Hinted.{place_of_either}
use Rattle.object_points.proofs.hinted.places_of.Given as goal

abbrev pub invariant-loop-hint : goal.invariant-loop-hint
invariant-loop-hint l = l.places.items ≡ filter_map place_of_either (take l.hint-index l.hints)
