-- The one batch has all points of level 0, so that none is settled.
use Rattle.std.proofs.Common.{◌≡◌, ℕ, List, [], inr, drop, length, refl, subst, arith}
use Rattle.std.proofs.lemmas.List.{drop_all}
use Rattle.kept_states.specs.Batches.{InBatch}
use Rattle.kept_states.proofs.Rounds.{batch_begins_of, none_settled}
use Rattle.kept_states.proofs.batches.spread_at_once.Goals as goal

pub returns-clause-spread : goal.returns-clause-spread
returns-clause-spread c p t is =
    let firsts : List ℕ = c.keep_first.new.levels.firsts in
    let all : c.firsts-end.result ≡ length firsts = c.firsts-end.ensures in
    let begun : InBatch p c.begin_batch.new.self (drop c.firsts-end.result firsts) =
    batch_begins_of p c.keep_first.new.levels firsts 0 c.firsts-end.result c.begin_batch.new.self refl (λ q l. omega (arith, l, t.count, c.keep_first.ensures.points)) (c.keep_first.ensures.first p t) (omega arith) (omega (arith, all)) (c.keep_first.ensures.spread p t)
    c.begin_batch.ensures.kept c.begin_batch.ensures.front c.begin_batch.ensures.in_front c.begin_batch.ensures.settled in
    c.spread_levels.ensures.spread p [] t is (subst (λ (l : List ℕ). InBatch p c.begin_batch.new.self l) (drop_all c.firsts-end.result firsts (omega (arith, all))) begun)
    (inr (none_settled c.keep_first.new.levels c.begin_batch.new.self c.spread_levels.new.levels c.begin_batch.ensures.settled c.keep_first.ensures.all c.spread_levels.ensures.same.1))
