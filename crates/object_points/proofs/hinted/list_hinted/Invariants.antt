use Rattle.std.proofs.Common.{ℕ, ◌<◌, ◌≤◌, ◌^◌, length}
use Rattle.std.specs.Prelude.{slice_index_or}
use Rattle.ot_base.specs.declared.place.Place.{Place}
use Rattle.flow_defs.specs.Code.{points_of_object}
use Rattle.object_points.specs.Hinted.{AreListed, HaveNoneUpTo}
use Rattle.object_points.proofs.hinted.list_hinted.Given as goal

abbrev pub invariant-loop-place : goal.invariant-loop-place
invariant-loop-place l = record {
  inside : l.next ≤ length (points_of_object l.places);
  few : l.next < 2 ^ 32;
  listed : AreListed l.places l.next l.hinted.saves.items l.hinted.restores.items;
  none : (k : ℕ) (d : Place) → k < l.place-index → HaveNoneUpTo l.places l.next (slice_index_or l.place-items k d);
}
