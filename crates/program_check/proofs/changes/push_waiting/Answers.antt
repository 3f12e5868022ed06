-- Where the first doesn't lie before the place none does.
use Rattle.std.proofs.Common.{◌≡◌, ℕ, ◌-◌, take, drop, sym, ap, ◌∙◌, arith}
use Rattle.kept_states.specs.LevelStates.{at}
use Rattle.ot_base.specs.declared.place.Place.{Place}
use Rattle.ot_base.specs.Places.{is_before}
use Rattle.program_check.specs.Changes.{add_all, rows_in_sites}
use Rattle.program_check.proofs.changes.push_waiting.Goals as goal

pub returns-then-not-is_before-clause-other : goal.returns-then-not-is_before-clause-other
returns-then-not-is_before-clause-other c p t d l = ap (λ (a : Place). is_before a c.args.place) (sym (c.requires.waiting p t d l)) ∙ (sym c.is_before.ensures ∙ c.if-not-is_before.true)

pub returns-then-not-is_before-clause-pushed : goal.returns-then-not-is_before-clause-pushed
returns-then-not-is_before-clause-pushed c p t =
    let none : c.args.from - c.args.from ≡ 0 = omega arith in
    sym (ap (λ (n : ℕ). add_all c.args.rows.now.items (rows_in_sites p (at c.args.kept.now) (take n (drop c.args.from c.args.more.now)))) none)
