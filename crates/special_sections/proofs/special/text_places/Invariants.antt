use Rattle.std.proofs.Common.{◌≡◌, filter, take}
use Rattle.special_sections.specs.declared.fields.Bound.TheVariants.{BelowEnd}
use Rattle.special_sections.specs.Fields.{is_text_place}
use Rattle.special_sections.proofs.special.text_places.Given as goal

abbrev pub invariant-loop-place : goal.invariant-loop-place
invariant-loop-place l = l.list.items ≡ filter (is_text_place l.object BelowEnd) (take l.place-index l.places)
