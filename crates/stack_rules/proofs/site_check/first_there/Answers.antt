-- It is the point itself, or the one before is where it is.
use Rattle.std.proofs.Common.{◌≡◌, ◌≢◌, ◌<◌, ◌-◌, ℕ, List, get_or, length, ap, sym, subst, ◌∙◌, arith}
use Rattle.std.proofs.lemmas.Bool.{both_ways}
use Rattle.std.proofs.lemmas.List.{get_or_default}
use Rattle.ot_base.specs.declared.place.Place.{Place}
use Rattle.ot_base.specs.Places.{same_place}
use Rattle.table_law.proofs.Equal.{same_place_is, is_same_place}
use Rattle.stack_rules.specs.Disagree.{IsInForceAt}
use Rattle.stack_rules.proofs.OneInForce.{new_in_force}
use Rattle.stack_rules.proofs.site_check.first_there.Goals as goal

pub returns-then-i-eq0-clause-address : goal.returns-then-i-eq0-clause-address
returns-then-i-eq0-clause-address c p t d = c.address-address.ensures p t ∙ ap p.address (get_or_default c.args.points.now c.args.i 0 d c.requires.inside)

pub returns-then-eq-clause-address : goal.returns-then-eq-clause-address
returns-then-eq-clause-address c p t d =
    same_place_is c.args.before.address c.address-address.result (sym c.eq.ensures ∙ c.if-eq.true)
    ∙ c.address-address.ensures p t ∙ ap p.address (get_or_default c.args.points.now c.args.i 0 d c.requires.inside)

pub returns-else-eq-clause-address : goal.returns-else-eq-clause-address
returns-else-eq-clause-address c p t d = c.address-address.ensures p t ∙ ap p.address (get_or_default c.args.points.now c.args.i 0 d c.requires.inside)

pub returns-then-i-eq0-clause-force : goal.returns-then-i-eq0-clause-force
returns-then-i-eq0-clause-force c p t up d before =
    let points : List ℕ = c.args.points.now in
    let i : ℕ = c.args.i in
    let inside : i < length points = c.requires.inside in
    subst (λ (q : ℕ). IsInForceAt p points (p.address q) (get_or points i 0)) (get_or_default points i 0 d inside)
    (new_in_force p points up i 0 inside (λ some. absurd (omega (arith, some, c.if-i-eq0.true))))

pub returns-then-eq-clause-force : goal.returns-then-eq-clause-force
returns-then-eq-clause-force c p t up d before =
    let points : List ℕ = c.args.points.now in
    let i : ℕ = c.args.i in
    let inside : i < length points = c.requires.inside in
    let some : 0 < i = omega (arith, c.if-i-eq0.false) in
    let one : p.address (get_or points (i - 1) 0) ≡ p.address (get_or points i 0) = sym (c.requires.address p t 0 some) ∙ (same_place_is c.args.before.address c.address-address.result (sym c.eq.ensures ∙ c.if-eq.true) ∙ c.address-address.ensures p t) in
    let start : get_or points (i - 1) d ≡ get_or points (i - 1) 0 = get_or_default points (i - 1) d 0 (omega (arith, inside)) in
    let same : get_or points i 0 ≡ get_or points i d = get_or_default points i 0 d inside in
    subst (λ (q : ℕ). IsInForceAt p points (p.address q) c.args.before.point) same
    (subst (λ (a : Place). IsInForceAt p points a c.args.before.point) one
    (subst (λ (q : ℕ). IsInForceAt p points (p.address q) c.args.before.point) start (before some)))

pub returns-else-eq-clause-force : goal.returns-else-eq-clause-force
returns-else-eq-clause-force c p t up d before =
    let points : List ℕ = c.args.points.now in
    let i : ℕ = c.args.i in
    let inside : i < length points = c.requires.inside in
    let differ : p.address (get_or points (i - 1) 0) ≢ p.address (get_or points i 0) = λ e.
    both_ways (same_place c.args.before.address c.address-address.result) (sym c.eq.ensures ∙ c.if-eq.false)
    (is_same_place c.args.before.address c.address-address.result (c.requires.address p t 0 (omega (arith, c.if-i-eq0.false)) ∙ (e ∙ sym (c.address-address.ensures p t)))) in
    subst (λ (q : ℕ). IsInForceAt p points (p.address q) (get_or points i 0)) (get_or_default points i 0 d inside)
    (new_in_force p points up i 0 inside (λ some. differ))
