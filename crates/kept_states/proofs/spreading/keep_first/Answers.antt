-- What is offered is level 0, and nothing was kept before.
use Rattle.std.proofs.Common.{◌≡◌, ℕ, length, ap, ◌∙◌, arith}
use Rattle.machine_defs.specs.Program.{IsPoint}
use Rattle.machine_defs.specs.Kept.{state_at}
use Rattle.kept_states.specs.LevelStates.{at}
use Rattle.kept_states.proofs.Rounds.{first_spread, level_first, level_is_first}
use Rattle.kept_states.proofs.spreading.keep_first.Goals as goal

pub returns-clause-first : goal.returns-clause-first
returns-clause-first c p t =
    let same : (q : ℕ) → IsPoint p q → at c.keep_first.new.self.kept q ≡ state_at p 0 q = level_first p c.args.levels.now.kept c.offer_all_first.new.levels c.keep_first.new.self c.requires.not_kept c.offer_all_first.ensures.kept (c.offer_all_first.ensures.first p t) c.keep_first.ensures.kept in
    let long : length c.keep_first.new.self.kept ≡ length c.args.levels.now.kept = c.keep_first.ensures.len ∙ ap length c.offer_all_first.ensures.kept in
    level_is_first p c.keep_first.new.self same c.keep_first.ensures.firsts (λ q l. omega (arith, l, long, t.count, c.requires.points))

pub returns-clause-spread : goal.returns-clause-spread
returns-clause-spread c p t =
    let same : (q : ℕ) → IsPoint p q → at c.keep_first.new.self.kept q ≡ state_at p 0 q = level_first p c.args.levels.now.kept c.offer_all_first.new.levels c.keep_first.new.self c.requires.not_kept c.offer_all_first.ensures.kept (c.offer_all_first.ensures.first p t) c.keep_first.ensures.kept in
    first_spread p c.keep_first.new.self.kept c.keep_first.new.self.firsts same (λ q some. (c.keep_first.ensures.firsts q).1 some)
