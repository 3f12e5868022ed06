-- A point that isn't special is not of level 0.
use Rattle.std.proofs.Common.{◌≡◌, None, sym, ◌∙◌, arith}
use Rattle.machine_defs.specs.Kept.{state_at}
use Rattle.kept_states.specs.LevelStates.{at}
use Rattle.kept_states.proofs.LevelSteps.{none_of, not_none}
use Rattle.kept_states.proofs.spreading.offer_missing_first.Goals as goal

pub returns-then-not-is_special-clause-first : goal.returns-then-not-is_special-clause-first
returns-then-not-is_special-clause-first c p t =
    let first : state_at p 0 c.args.n ≡ None = c.is_special.ensures.first (let h = c.if-not-is_special.true in grind arith) p c.args.n (c.passage_at.ensures p (c.requires.told p t)) in
    let none : at c.args.levels.now.next.states c.args.n ≡ None = none_of (at c.args.levels.now.next.states c.args.n) (λ some. not_none (at c.args.levels.now.next.states c.args.n) (c.requires.offered p t some ∙ first) some) in
    none ∙ sym first
