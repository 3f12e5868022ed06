-- One point more.
use Rattle.std.proofs.Common.{◌≡◌, ◌+◌, ◌-◌, ℕ, List, get_or, arith, ap, subst, ◌∙◌}
use Rattle.std.proofs.lemmas.List.{take_all}
use Rattle.std.proofs.lemmas.List.Elements.{All-get_or}
use Rattle.kept_states.specs.LevelStates.{at}
use Rattle.stack_rules.specs.Gains.{Gains}
use Rattle.stack_rules.proofs.GainsLemmas.{OfSome, gains_element}
use Rattle.stack_rules.specs.Disagree.{FitPoint, IsInForceAt, PointDisagrees}
use Rattle.stack_rules.proofs.site_check.push_points.Goals as goal

pub loop-i-preserved : goal.loop-i-preserved
loop-i-preserved c =
    let points : List ℕ = c.args.points.now in
    let i : ℕ = c.loop-i.i in
    let here : i ≡ i + 1 - 1 = omega arith in
    record {
      known = λ some. omega (arith, c.first_there-first.ensures.point, c.requires.states);
      force = λ p t up d some. subst (λ (k : ℕ). IsInForceAt p points (p.address (get_or points k d)) c.first_there-first.result.point) here (c.first_there-first.ensures.force p t up d (c.loop-i.invariant.force p t up d));
      address = λ p t d some. c.first_there-first.ensures.address p t d ∙ ap (λ (k : ℕ). p.address (get_or points k d)) here;
      gains = λ p t index laid up fits.
          gains_element c.args.into.now.items c.loop-i.into.items c.push_point.new.into.items points (PointDisagrees p (at c.args.kept.now) points) i 0 c.loop-i-test.true (c.loop-i.invariant.gains p t index laid up fits)
          (c.in_ok-push_point.ensures p t index laid up (All-get_or (FitPoint p) points i 0 c.loop-i-test.true fits) (c.first_there-first.ensures.force p t up 0 (c.loop-i.invariant.force p t up 0)));
    }

pub returns : goal.returns
returns c p t index laid up fits =
    let points : List ℕ = c.args.points.now in
    subst (λ (xs : List ℕ). Gains c.args.into.now.items c.loop-i.into.items (OfSome xs (PointDisagrees p (at c.args.kept.now) points))) (take_all c.loop-i.i points c.loop-i-test.false) (c.loop-i.invariant.gains p t index laid up fits)
