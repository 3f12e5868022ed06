use Rattle.std.proofs.Common.{rules}
use Rattle.std.proofs.lemmas.List.Sorted.{answers_always}
use Rattle.symbols_relocs.specs.declared.function.Function.{Function}
use Rattle.symbols_relocs.proofs.PlaceOrder.{sorted_by_start}
use Rattle.symbols_relocs.proofs.merge.sort_by_start.Goals as goal

pub returns-clause-sorted : goal.returns-clause-sorted
returns-clause-sorted c =
    sorted_by_start _ (c.in_ok-sort_by_key.ensures.sorted (λ (f : Function). f.start) (answers_always _ _ _ (λ f a r g h. search rules)))
