use Rattle.std.proofs.Common.{List, sym, ap, ◌∙◌}
use Rattle.ot_base.specs.declared.place.Place.{Place}
use Rattle.object_points.specs.Places.{is_among}
use Rattle.object_points.proofs.Starts.{no_other_start}
use Rattle.object_points.proofs.function_starts.list_starts.Goals as goal

pub returns : goal.returns
returns c = λ place other.
    no_other_start c.args.index.now.elf c.functions.result.now place c.functions.ensures.all
    (sym (ap (λ (list : List Place). is_among list place) (c.as_slice.ensures.value ∙ c.in_ok-starts.ensures)) ∙ sym (c.in_ok-build.ensures.same place) ∙ other)
