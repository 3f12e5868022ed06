use Rattle.std.proofs.Common.{rules}
use Rattle.std.proofs.lemmas.List.Sorted.{answers_always}
use Rattle.special_sections.specs.declared.entries.HintEntry.{HintEntry}
use Rattle.special_sections.proofs.Order.{sorted_by_place, stable_keeps_last}
use Rattle.special_sections.proofs.hints_by_place.sort_by_place.Goals as goal

pub returns-clause-sorted : goal.returns-clause-sorted
returns-clause-sorted c =
    sorted_by_place _ (c.in_ok-sort_by_key.ensures.sorted (λ (h : HintEntry). h.place) (answers_always _ _ _ (λ f a r g h. search rules)))

pub returns-clause-same : goal.returns-clause-same
returns-clause-same c =
    stable_keeps_last _ _ (c.in_ok-sort_by_key.ensures.stable (λ (h : HintEntry). h.place) (answers_always _ _ _ (λ f a r g h. search rules)))
