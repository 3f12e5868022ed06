use Rattle.std.proofs.Common.{◌≡◌, ◌<◌, Bool, ℕ, length, slice_index_or, take}
use Rattle.std.specs.Prelude.{◌||◌}
use Rattle.site_lists.specs.Needed.{has_place}
use Rattle.site_lists.proofs.needed.mark_sections.Given as goal

abbrev pub invariant-loop-place : goal.invariant-loop-place
invariant-loop-place l = record {
  long : length l.marks.items ≡ length l.initial.marks.items;
  marks : (sec : ℕ) (d : Bool) → sec < length l.initial.marks.items → slice_index_or l.marks.items sec d ≡ (slice_index_or l.initial.marks.items sec d || has_place (take l.place-index l.places) sec);
}
