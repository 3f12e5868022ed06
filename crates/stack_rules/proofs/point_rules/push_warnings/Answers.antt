-- The points up to the one that is looked at, and at the end the functions without a size.
use Rattle.std.proofs.Common.{◌<◌, ℕ, List, length, subst, arith}
use Rattle.std.proofs.lemmas.Result.{on_ok_weaker}
use Rattle.ot_base.specs.declared.place.Place.{Place}
use Rattle.stack_rules.specs.Gains.{Gains}
use Rattle.stack_rules.specs.PointWarns.{PointWarns, SizesWarn}
use Rattle.stack_rules.proofs.AllWarnings.{IsFound, IsOfRules, found_are_of_rules}
use Rattle.stack_rules.proofs.GainsLemmas.{OfBelow, gains_both, gains_number, gains_passed, gains_same}
use Rattle.stack_rules.proofs.Lookups.{where_none, where_some}
use Rattle.stack_rules.proofs.point_rules.push_warnings.Goals as goal

pub loop-n-preserved : goal.loop-n-preserved
loop-n-preserved c =
    let n : ℕ = c.in-Some.n in
    let far : ℕ → Type 0 = λ k. k < length c.args.graph.now.parts.points.items in
    record {
      to = omega (arith, c.in-Some.ensures.within.1);
      passing = c.in_ok-push_point.ensures.passing;
      warnings = λ p ch.
          let passed : Gains c.args.into.now.items c.loop-n.into.items (OfBelow n (PointWarns p c.args.kept.now)) =
          gains_passed c.args.into.now.items c.loop-n.into.items (PointWarns p c.args.kept.now) c.loop-n.from n c.in-Some.ensures.within.0
          (λ k low high. c.next_to_tell.ensures.nothing p ch.tells k low (where_some c.next_to_tell.result (far k) (λ m. k < m) n c.in-Some.is high)) (c.loop-n.invariant.warnings p ch) in
          gains_number c.args.into.now.items c.loop-n.into.items c.push_point.new.into.items (PointWarns p c.args.kept.now) n passed (c.in_ok-push_point.ensures.warnings p ch);
    }

pub returns : goal.returns
returns c = on_ok_weaker c.push_sizes.result (λ h p ch.
    let old = c.args.into.now.items in
    let mid = c.loop-n.into.items in
    let new = c.push_sizes.new.into.items in
    let kept = c.args.kept.now in
    let far : ℕ → Type 0 = λ k. k < length c.args.graph.now.parts.points.items in
    let points : Gains old mid (OfBelow p.count (PointWarns p kept)) =
    gains_passed old mid (PointWarns p kept) c.loop-n.from p.count (omega (arith, c.loop-n.invariant.to, ch.tells.count))
    (λ k low high. c.next_to_tell.ensures.nothing p ch.tells k low (where_none c.next_to_tell.result (far k) (λ m. k < m) c.in_default.not-Some (omega (arith, high, ch.tells.count)))) (c.loop-n.invariant.warnings p ch) in
    let sizes : Gains mid new (SizesWarn p.unsized) = subst (λ (places : List Place). Gains mid new (SizesWarn places)) (c.without_size.ensures p ch.tells) h in
    gains_same old new (IsFound p kept) (IsOfRules p) (gains_both old mid new (OfBelow p.count (PointWarns p kept)) (SizesWarn p.unsized) points sizes) (found_are_of_rules p c.args.graph.now.parts kept ch)) c.push_sizes.ensures
