use Rattle.std.proofs.Common.{rules}
use Rattle.std.proofs.lemmas.List.Sorted.{answers_always}
use Rattle.symbols_relocs.specs.declared.extents.Extent.{Extent}
use Rattle.symbols_relocs.proofs.ExtentOrder.{sorted_by_start}
use Rattle.symbols_relocs.proofs.extents.sort_by_start.Goals as goal

pub returns-clause-sorted : goal.returns-clause-sorted
returns-clause-sorted c =
    sorted_by_start _ (c.sort_unstable_by_key.ensures.sorted (λ (e : Extent). e.start) (answers_always _ _ _ (λ f a r g h. search rules)))
