use Rattle.std.proofs.Common.{rules}
use Rattle.std.proofs.lemmas.List.Sorted.{IsNonDecreasingBy-from_sort_by_key}
use Rattle.object_points.specs.declared.meanings.Meaning.{Meaning}
use Rattle.object_points.proofs.meanings.sort_meanings.Goals as goal

pub returns-clause-sorted : goal.returns-clause-sorted
returns-clause-sorted c =
    IsNonDecreasingBy-from_sort_by_key (λ (m : Meaning). m.save) _ c.in_ok-sort_by_key.ensures.sorted (λ a r q k. search rules)
