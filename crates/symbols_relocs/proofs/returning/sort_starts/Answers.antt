use Rattle.std.proofs.Common.{rules}
use Rattle.std.proofs.lemmas.List.Sorted.{answers_always}
use Rattle.symbols_relocs.specs.declared.returning.NamedStart.{NamedStart}
use Rattle.symbols_relocs.proofs.Naming.{starts_sorted, starts_stable}
use Rattle.symbols_relocs.proofs.returning.sort_starts.Goals as goal

pub returns-clause-sorted : goal.returns-clause-sorted
returns-clause-sorted c =
    starts_sorted _ (c.in_ok-sort_by_key.ensures.sorted (λ (s : NamedStart). s.start) (answers_always _ _ _ (λ f a r g h. search rules)))

pub returns-clause-same : goal.returns-clause-same
returns-clause-same c =
    starts_stable _ _ (c.in_ok-sort_by_key.ensures.stable (λ (s : NamedStart). s.start) (answers_always _ _ _ (λ f a r g h. search rules)))
