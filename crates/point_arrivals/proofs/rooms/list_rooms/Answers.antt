use Rattle.std.proofs.Common.{ℕ, List, eqb, sym, ap, ◌∙◌}
use Rattle.std.proofs.lemmas.List.Sorted.{list_any-IsPermutation, IsNonDecreasingBy-from_sort}
use Rattle.flow_defs.specs.Coded.{Coded}
use Rattle.object_points.specs.Unchecked.{is_among}
use Rattle.point_arrivals.proofs.AllRooms.{all_rooms}
use Rattle.point_arrivals.proofs.rooms.list_rooms.Goals as goal

pub returns : goal.returns
returns c =
    let o : Coded = c.args.places.now in
    let sorted : List ℕ = c.sort.new.self.items in
    record {
      ascending = λ i j order inside. IsNonDecreasingBy-from_sort (λ n. n) sorted c.in_ok-sort.ensures.sorted i j 0 order inside;
      all = λ owner. sym (list_any-IsPermutation (λ k. eqb k owner) c.in_ok-owners.owners.items sorted c.sort.ensures.permutation) ∙ ap (λ (list : List ℕ). is_among list owner) c.in_ok-owners.ensures ∙ all_rooms o owner;
    }
