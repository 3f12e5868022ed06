use Rattle.std.proofs.Common.{rules}
use Rattle.std.proofs.lemmas.List.Sorted.{answers_always}
use Rattle.ot_base.specs.declared.place.Place.{Place}
use Rattle.object_points.proofs.Order.{by_first, stable_keeps}
use Rattle.object_points.proofs.place_map.sort_by_first.Goals as goal

pub returns-clause-sorted : goal.returns-clause-sorted
returns-clause-sorted c =
    by_first _ (c.in_ok-sort_by_key.ensures.sorted (λ (e : Place × Place). e.0) (answers_always _ _ _ (λ f a r g h. search rules)))

pub returns-clause-same : goal.returns-clause-same
returns-clause-same c =
    stable_keeps _ _ (c.in_ok-sort_by_key.ensures.stable (λ (e : Place × Place). e.0) (answers_always _ _ _ (λ f a r g h. search rules)))
