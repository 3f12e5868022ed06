-- One point of the run after another is told of.
use Rattle.std.proofs.Common.{◌≡◌, ◌∙◌, ℕ, subst, arith}
use Rattle.kept_states.specs.Passages.{AreLinked}
use Rattle.kept_states.proofs.runs.tell_run.Goals as goal

pub loop-n-preserved : goal.loop-n-preserved
loop-n-preserved c = record {
  passages = c.tell_point.ensures.passages ∙ c.loop-n.invariant.passages;
  told = λ p t told. c.tell_point.ensures.told p t (c.loop-n.invariant.told p t told);
  linked = λ linked. c.tell_point.ensures.linked (c.loop-n.invariant.linked linked);
}

pub returns-clause-told : goal.returns-clause-told
returns-clause-told c p t told k d less =
    c.loop-n.invariant.told p t told k d (omega (arith, less, c.loop-n-test.false, c.points-n-end.ensures.points, c.points.ensures.points))

pub returns-clause-linked : goal.returns-clause-linked
returns-clause-linked c linked =
    let end : c.loop-n.n ≡ c.points.result = omega (arith, c.loop-n-test.false, c.points-n-end.ensures.points, c.points.ensures.points) in
    subst (λ (n : ℕ). AreLinked c.loop-n.passages.items n) end (c.loop-n.invariant.linked linked)
