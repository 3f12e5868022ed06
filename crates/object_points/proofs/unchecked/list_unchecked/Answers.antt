use Rattle.std.proofs.Common.{◌≡◌, ℕ, List, eqb, sym, ap, ◌∙◌}
use Rattle.std.specs.Prelude.{filter_map}
use Rattle.std.proofs.lemmas.List.Sorted.{list_any-IsPermutation, IsNonDecreasingBy-from_sort}
use Rattle.elf_objects.specs.Elf.{Elf}
use Rattle.flow_defs.specs.Coded.{Coded}
use Rattle.special_sections.specs.Special.{special_of}
use Rattle.flow_defs.specs.Owners.{is_unchecked_owner, owner_of_start}
use Rattle.object_points.specs.Unchecked.{is_among}
use Rattle.object_points.proofs.Found.{among_made}
use Rattle.object_points.proofs.unchecked.list_unchecked.Goals as goal

all_unchecked : (o : Elf) (owner : ℕ) → is_among (filter_map (owner_of_start o) (special_of o).unchecked) owner ≡ is_unchecked_owner o owner
unfolding is_unchecked_owner
all_unchecked o owner = among_made (owner_of_start o) (special_of o).unchecked owner

pub returns : goal.returns
returns c =
    let o : Coded = c.args.linked.now in
    let sorted : List ℕ = c.sort.new.self.items in
    let listed : c.in_ok-owners.owners.items ≡ filter_map (owner_of_start o.elf) (special_of o.elf).unchecked =
    c.in_ok-owners.ensures ∙ ap (λ (e : Elf). filter_map (owner_of_start e) c.unchecked.result.now) c.index.ensures ∙ ap (filter_map (owner_of_start o.elf)) (c.unchecked.ensures ∙ ap (λ s. s.unchecked) c.special.ensures) in
    record {
      ascending = λ i j order inside. IsNonDecreasingBy-from_sort (λ n. n) sorted c.in_ok-sort.ensures.sorted i j 0 order inside;
      all = λ owner. sym (list_any-IsPermutation (λ k. eqb k owner) c.in_ok-owners.owners.items sorted c.sort.ensures.permutation) ∙ ap (λ (list : List ℕ). is_among list owner) listed ∙ all_unchecked o.elf owner;
    }
