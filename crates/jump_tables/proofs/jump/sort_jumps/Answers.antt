use Rattle.std.proofs.Common.{rules}
use Rattle.std.proofs.lemmas.List.Sorted.{answers_always}
use Rattle.jump_tables.specs.declared.jump.Jump.{Jump}
use Rattle.jump_tables.proofs.JumpOrder.{by_jump, stable_keeps}
use Rattle.jump_tables.proofs.jump.sort_jumps.Goals as goal

pub returns-clause-sorted : goal.returns-clause-sorted
returns-clause-sorted c =
    by_jump _ (c.in_ok-sort_by_key.ensures.sorted (λ (j : Jump). j.place) (answers_always _ _ _ (λ f a r g h. search rules)))

pub returns-clause-same : goal.returns-clause-same
returns-clause-same c =
    stable_keeps _ _ (c.in_ok-sort_by_key.ensures.stable (λ (j : Jump). j.place) (answers_always _ _ _ (λ f a r g h. search rules)))
