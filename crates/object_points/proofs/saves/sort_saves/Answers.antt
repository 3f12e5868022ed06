use Rattle.std.proofs.Common.{rules}
use Rattle.std.proofs.lemmas.List.Sorted.{answers_always}
use Rattle.object_points.specs.declared.saves.SavePoint.{SavePoint}
use Rattle.object_points.proofs.HintOrder.{in_order}
use Rattle.object_points.proofs.saves.sort_saves.Goals as goal

pub returns-clause-sorted : goal.returns-clause-sorted
returns-clause-sorted c =
    in_order _ (c.in_ok-sort_by_key.ensures.sorted (λ (s : SavePoint). (s.owner, s.address, record { 0 = s.variant }, record { 0 = s.number })) (answers_always _ _ _ (λ f a r g h. search rules)))
