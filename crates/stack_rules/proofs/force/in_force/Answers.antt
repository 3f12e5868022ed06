-- The first at the last address up to the place.
use Rattle.std.proofs.Common.{◌≡◌, ◌-◌, ◌<◌, ℕ, true, false, get_or, arith, subst}
use Rattle.ot_base.specs.declared.place.Place.{Place}
use Rattle.ot_base.specs.Places.{is_before}
use Rattle.stack_rules.specs.Disagree.{ahead_of}
use Rattle.stack_rules.proofs.OneInForce.{first_in_force}
use Rattle.stack_rules.proofs.Places.{not_before_itself}
use Rattle.stack_rules.proofs.force.in_force.Goals as goal

pub returns-then-first-points-clause-some : goal.returns-then-first-points-clause-some
returns-then-first-points-clause-some c p t up =
    let last : c.address-last.result ≡ p.address (get_or c.args.points.now (c.count_up_to-count.result - 1) 0) = c.address-last.ensures p t in
    first_in_force p c.args.points.now up (ahead_of c.args.address c.args.ahead) c.count_up_to-count.result c.count_before-first.result 0
    (omega (arith, c.if-count-eq0.false)) c.count_up_to-count.ensures.within c.if-first-points.true
    (λ k. c.count_up_to-count.ensures.up_to p t up k 0) (λ k. c.count_up_to-count.ensures.behind p t up k 0)
    (λ k l. subst (λ (a : Place). is_before (p.address (get_or c.args.points.now k 0)) a ≡ true) last (c.count_before-first.ensures.before p t up k 0 l))
    (λ k l i. subst (λ (a : Place). is_before (p.address (get_or c.args.points.now k 0)) a ≡ false) last (c.count_before-first.ensures.from p t up k 0 l i))

pub returns-else-first-points-clause-none : goal.returns-else-first-points-clause-none
returns-else-first-points-clause-none c p t up y force =
    let k : ℕ = c.count_up_to-count.result - 1 in
    let here : Place = p.address (get_or c.args.points.now k 0) in
    let last : c.address-last.result ≡ here = c.address-last.ensures p t in
    let low : k < c.count_before-first.result = omega (arith, c.if-count-eq0.false, c.count_up_to-count.ensures.within, c.if-first-points.false) in
    not_before_itself here (subst (λ (a : Place). is_before here a ≡ true) last (c.count_before-first.ensures.before p t up k 0 low))
