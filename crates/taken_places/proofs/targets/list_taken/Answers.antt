use Rattle.std.proofs.Common.{◌≡◌, ◌++◌, List, sym, ap, ◌∙◌, subst}
use Rattle.ot_base.specs.declared.place.Place.{Place}
use Rattle.elf_objects.specs.Elf.{Elf}
use Rattle.flow_defs.specs.Coded.{Coded}
use Rattle.object_points.specs.Places.{HaveSamePlaces}
use Rattle.taken_places.specs.Listed.{taken_by_code, taken_by_data}
use Rattle.taken_places.specs.Taken.{taken_places}
use Rattle.taken_places.proofs.EverySection.{listed_are_taken}
use Rattle.taken_places.proofs.targets.list_taken.Goals as goal

pub returns : goal.returns
returns c =
    let o : Coded = c.args.linked.now in
    let all : c.push_data.new.places.items ≡ taken_by_code o ++ taken_by_data o.elf =
    c.in_ok-push_data.ensures ∙ ap (λ (ps : List Place). ps ++ taken_by_data c.object-object.result.now) c.in_ok-places.ensures ∙ ap (λ (e : Elf). taken_by_code o ++ taken_by_data e) c.object-object.ensures in
    subst (λ (ps : List Place). HaveSamePlaces (taken_places o) ps) (sym all) (listed_are_taken o)
