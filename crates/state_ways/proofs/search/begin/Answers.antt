-- One point after another.
use Rattle.std.proofs.Common.{◌≡◌, ℕ, length, ◌∙◌, subst, arith}
use Rattle.state_ways.specs.Marks.{IsBegun}
use Rattle.state_ways.proofs.search.begin.Goals as goal

pub loop-n-preserved : goal.loop-n-preserved
loop-n-preserved c = record {
  points = c.in_ok-begin_at.ensures.points ∙ c.loop-n.invariant.points;
  fresh = λ q l. c.in_ok-begin_at.ensures.others q (λ e. omega (arith, e, l)) ∙ c.loop-n.invariant.fresh q (omega (arith, l));
  shown = c.in_ok-begin_at.ensures.shown c.loop-n.invariant.shown;
  begun = λ p t. c.in_ok-begin_at.ensures.begun p t (c.loop-n.invariant.begun p t);
  spent = c.begin_at.ensures.spent ∙ c.loop-n.invariant.spent;
}

pub returns-clause-begun : goal.returns-clause-begun
returns-clause-begun c = λ p t.
    let e : c.loop-n.n ≡ length c.args.graph.now.parts.points.items = omega (arith, c.points-n-end.ensures.points) in
    subst (λ (n : ℕ). IsBegun p n c.loop-n.search.ways c.loop-n.search.next.items) e (c.loop-n.invariant.begun p t)
