-- A batch begins with some of the points that wait, and the others wait still.
use Rattle.std.proofs.Common.{ℕ, ◌≤◌, List, inl, drop, length, sym, ◌∙◌, subst, arith}
use Rattle.kept_states.proofs.Rounds.{batch_begins_of}
use Rattle.kept_states.proofs.batches.spread_batches.Goals as goal

pub batches-preserved : goal.batches-preserved
batches-preserved c =
    let firsts : List ℕ = c.args.levels.now.firsts in
    let to : c.batch_end-to.result ≤ length firsts = subst (λ (l : List ℕ). c.batch_end-to.result ≤ length l) c.batches.invariant.firsts c.batch_end-to.ensures.inside in
    record {
      points = c.spread_levels.ensures.points;
      next = c.spread_levels.ensures.next;
      none = c.spread_levels.ensures.none;
      firsts = c.spread_levels.ensures.same.0 ∙ (c.begin_batch.ensures.firsts ∙ c.batches.invariant.firsts);
      inside = to;
      spread = λ p t is. c.spread_levels.ensures.spread p (drop c.batch_end-to.result firsts) t is
          (batch_begins_of p c.batches.levels firsts c.batches.from c.batch_end-to.result c.begin_batch.new.self c.batches.invariant.firsts (λ q l. omega (arith, l, t.count, c.batches.invariant.points)) (c.requires.first p t) (omega (arith, c.batch_end-to.ensures.more)) to (c.batches.invariant.spread p t is)
          c.begin_batch.ensures.kept c.begin_batch.ensures.front c.begin_batch.ensures.in_front c.begin_batch.ensures.settled)
          (inl (sym c.is_met.ensures ∙ c.if-is_met.false));
    }
