use Rattle.std.proofs.Common.{◌≡◌, ◌++◌, false, List, sym, ap, ◌∙◌}
use Rattle.std.specs.Prelude.{filter_map}
use Rattle.std.proofs.lemmas.List.Folds.{list_any-append}
use Rattle.std.proofs.lemmas.List.Sorted.{list_any-IsPermutation}
use Rattle.ot_base.specs.declared.place.Place.{Place}
use Rattle.ot_base.specs.Places.{same_place}
use Rattle.special_sections.specs.Special.{SpecialEntries, special_of}
use Rattle.flow_defs.specs.Coded.{Coded}
use Rattle.flow_defs.specs.Code.{alternatives_of, point_at}
use Rattle.object_points.specs.Hinted.{place_of_either, place_of_restored}
use Rattle.object_points.specs.Places.{is_among}
use Rattle.object_points.proofs.Order.{by_place}
use Rattle.object_points.proofs.EitherPlaces.{neither_elsewhere, no_other}
use Rattle.object_points.proofs.hinted.sorted_places.Goals as goal

pub returns-clause-ordered : goal.returns-clause-ordered
returns-clause-ordered c = by_place _ c.sort_unstable.ensures.sorted

pub returns-clause-all : goal.returns-clause-all
returns-clause-all c = λ n inside other.
    let o : Coded = c.args.places.now in
    let place : Place = (point_at o n).place in
    let special : c.special-special.result.now ≡ special_of o.elf = c.special-special.ensures ∙ ap (λ (e : Coded). special_of e.elf) c.linked.ensures in
    let hints : List Place = filter_map place_of_either (special_of o.elf).hints in
    let restored : List Place = filter_map (place_of_restored (special_of o.elf).hints) (alternatives_of o) in
    let one : c.in_ok-list.list.items ≡ hints = c.in_ok-list.ensures ∙ ap (filter_map place_of_either) (c.hints.ensures ∙ ap (λ (s : SpecialEntries). s.hints) special) in
    let two : c.deref.result.now ≡ restored = c.deref.ensures.value ∙ c.in_ok-restored.ensures ∙ ap (filter_map (place_of_restored (special_of o.elf).hints)) (c.alternatives.ensures ∙ ap (λ (s : SpecialEntries). s.alternatives) special) in
    let both : c.extend_from_slice.new.self.items ≡ hints ++ restored = c.in_ok-extend_from_slice.ensures.items ∙ ap (λ (list : List Place). list ++ c.deref.result.now) one ∙ ap (λ (list : List Place). hints ++ list) two in
    let none : is_among (hints ++ restored) place ≡ false =
    ap (λ (list : List Place). is_among list place) (sym both)
    ∙ list_any-IsPermutation (same_place place) _ c.sort_unstable.new.self.items c.sort_unstable.ensures.permutation
    ∙ other in
    let parts = no_other (is_among hints place) (is_among restored place) (sym (list_any-append (same_place place) hints restored) ∙ none) in
    neither_elsewhere o n inside parts.0 parts.1
