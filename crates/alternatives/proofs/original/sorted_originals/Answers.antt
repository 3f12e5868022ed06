use Rattle.std.proofs.Common.{rules}
use Rattle.std.proofs.lemmas.List.Sorted.{answers_always}
use Rattle.alternatives.specs.declared.original.Original.{Original}
use Rattle.alternatives.proofs.original.sorted_originals.Goals as goal

pub returns-clause-sorted : goal.returns-clause-sorted
returns-clause-sorted c =
    c.sort_unstable_by_key.ensures.sorted (λ (o : Original). (o.place, o.entry)) (answers_always _ _ _ (λ f a r g h. search rules))
