use Rattle.std.proofs.Common.{◌≡◌, None, take}
use Rattle.std.specs.Prelude.{find, not}
use Rattle.command_base.specs.Unwind.{is_text_section, ranges_of}
use Rattle.command_base.proofs.unwinding.ranges_of.Given as goal

abbrev pub invariant-loop-place : goal.invariant-loop-place
invariant-loop-place l = record {
  ranges : l.ranges.items ≡ ranges_of l.object (take l.place-index l.places);
  texts : find (λ place. not (is_text_section l.object place.0)) (take l.place-index l.places) ≡ None;
}
