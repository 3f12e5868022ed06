-- One point that isn't plain, and those behind it that are.
use Rattle.std.proofs.Common.{◌≡◌, ◌+◌, ℕ, sym, subst, arith}
use Rattle.return_search.specs.Told.{start_of}
use Rattle.return_search.specs.Shape.{points_of}
use Rattle.return_search.specs.Backward.{IsBackwardTo}
use Rattle.return_search.proofs.Leading.{backward_plain, leaving_plain}
use Rattle.return_search.proofs.backward.Backward.new.Goals as goal

pub points-init : goal.points-init
points-init c =
    let flow = c.args.flow.now in
    let shape = c.requires.shape in
    let told = c.end_of_plain-at.ensures in
    let end = c.end_of_plain-at.result in
    let none : IsBackwardTo flow c.in_ok-backward.backward 0 (start_of flow 0) = subst (IsBackwardTo flow c.in_ok-backward.backward 0) (sym shape.first) c.in_ok-backward.ensures in
    record {
      within = told.within;
      backward = backward_plain flow shape 0 end told.from told.within told.plain c.in_ok-backward.backward none;
      search = leaving_plain flow shape 0 end told.from told.within told.plain c.args.search.now c.requires.search;
    }

pub points-preserved : goal.points-preserved
points-preserved c =
    let flow = c.args.flow.now in
    let shape = c.requires.shape in
    let at : ℕ = c.points.at in
    let told = c.end_of_plain-at-in-points.ensures in
    let end = c.end_of_plain-at-in-points.result in
    record {
      within = told.within;
      backward = backward_plain flow shape (at + 1) end told.from told.within told.plain c.add_point.new.self c.in_ok-add_point.ensures.one_more;
      search = leaving_plain flow shape (at + 1) end told.from told.within told.plain c.add_point.new.search c.in_ok-add_point.ensures.search;
    }

pub returns-clause-backward : goal.returns-clause-backward
returns-clause-backward c =
    let flow = c.args.flow.now in
    let end : c.points.at ≡ points_of flow = omega (arith, c.points-test.false, c.points.invariant.within) in
    subst (IsBackwardTo flow c.points.backward (points_of flow)) c.requires.shape.last (subst (λ (n : ℕ). IsBackwardTo flow c.points.backward n (start_of flow n)) end c.points.invariant.backward)
