-- Each round goes to the next level, and keeps a point more.
use Rattle.std.proofs.Common.{◌≡◌, ℕ, List, [], ◌∷◌, length, refl, ap, sym, ◌∙◌, arith}
use Rattle.kept_states.proofs.DonePoints.{done_after, none_done}
use Rattle.kept_states.proofs.Rounds.{after_round, batch_done, same_still}
use Rattle.kept_states.proofs.spreading.spread_levels.Goals as goal

no_front : (front : List ℕ) → length front ≡ 0 → front ≡ []
no_front [] h = refl
no_front (x ∷ xs) h = absurd (omega (arith, h))

pub returns-then-front_len-eq0-clause-spread : goal.returns-then-front_len-eq0-clause-spread
returns-then-front_len-eq0-clause-spread c p waiting t is begun clean =
    batch_done p c.advance.new.self waiting (no_front c.advance.new.self.front (omega (arith, c.front_len.ensures.len)))
    (after_round p c.rounds.levels c.give_all.new.levels c.advance.new.self waiting (t.count ∙ sym c.rounds.invariant.points) (c.rounds.invariant.batch p waiting t is begun) c.give_all.ensures.kept c.give_all.ensures.front c.give_all.ensures.same (c.give_all.ensures.given p t)
    c.advance.ensures.kept c.advance.ensures.front c.advance.ensures.fresh c.advance.ensures.settled c.advance.ensures.met clean)

pub returns-then-front_len-eq0-clause-same : goal.returns-then-front_len-eq0-clause-same
returns-then-front_len-eq0-clause-same c = same_still c.args.levels.now c.give_all.new.levels c.advance.new.self (same_still c.args.levels.now c.rounds.levels c.give_all.new.levels c.rounds.invariant.same c.give_all.ensures.same) (c.advance.ensures.firsts, c.advance.ensures.settled, λ e. sym c.advance.ensures.met ∙ e)

pub rounds-init : goal.rounds-init
rounds-init c = record {
  points = c.requires.points;
  next = c.requires.next;
  none = c.requires.none;
  front = c.requires.front;
  front_kept = c.requires.front_kept;
  done = λ p t. none_done p c.args.levels.now c.requires.begins;
  same = (refl, refl, λ e. e);
  batch = λ p waiting t is begun clean. begun;
}

pub rounds-preserved : goal.rounds-preserved
rounds-preserved c = record {
  points = c.advance.ensures.len ∙ (ap length c.give_all.ensures.kept ∙ c.rounds.invariant.points);
  next = c.advance.ensures.next_len ∙ (c.give_all.ensures.next ∙ (ap length (sym c.give_all.ensures.kept) ∙ sym c.advance.ensures.len));
  none = c.advance.ensures.next;
  front = c.front_len.ensures.points;
  front_kept = λ q k. (c.advance.ensures.fresh q k).1;
  done = λ p t. done_after p c.rounds.levels c.give_all.new.levels c.advance.new.self (t.count ∙ sym c.rounds.invariant.points) (c.rounds.invariant.done p t) c.rounds.invariant.front_kept c.give_all.ensures.kept c.give_all.ensures.front c.give_all.ensures.done c.give_all.ensures.same (c.give_all.ensures.given p t)
      c.advance.ensures.kept c.advance.ensures.done c.advance.ensures.settled c.advance.ensures.met;
  same = same_still c.args.levels.now c.give_all.new.levels c.advance.new.self (same_still c.args.levels.now c.rounds.levels c.give_all.new.levels c.rounds.invariant.same c.give_all.ensures.same) (c.advance.ensures.firsts, c.advance.ensures.settled, λ e. sym c.advance.ensures.met ∙ e);
  batch = λ p waiting t is begun clean. after_round p c.rounds.levels c.give_all.new.levels c.advance.new.self waiting (t.count ∙ sym c.rounds.invariant.points) (c.rounds.invariant.batch p waiting t is begun) c.give_all.ensures.kept c.give_all.ensures.front c.give_all.ensures.same (c.give_all.ensures.given p t)
      c.advance.ensures.kept c.advance.ensures.front c.advance.ensures.fresh c.advance.ensures.settled c.advance.ensures.met clean;
}
