use Rattle.std.proofs.Common.{◌≡◌, ℕ, ◌<◌, true, length}
use Rattle.std.specs.Prelude.{slice_index_or}
use Rattle.ot_base.specs.declared.place.Place.{Place}
use Rattle.object_points.specs.Marks.{is_marked}
use Rattle.object_points.proofs.marks.mark_places.Given as goal

abbrev pub invariant-loop-place : goal.invariant-loop-place
invariant-loop-place l = record {
  many : length l.marks.items ≡ l.count;
  set : (k : ℕ) (d : Place) → k < l.place-index → is_marked l.count l.marks.items (slice_index_or l.places k d) ≡ true;
}
