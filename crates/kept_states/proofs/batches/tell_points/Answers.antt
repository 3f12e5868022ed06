-- One run after another is told of.
use Rattle.std.proofs.Common.{◌≡◌, ℕ, length, ap, ◌∙◌, subst, arith}
use Rattle.kept_states.specs.LevelStates.{at}
use Rattle.kept_states.specs.Passages.{AreLinked}
use Rattle.kept_states.proofs.LevelSteps.{not_none}
use Rattle.kept_states.proofs.batches.tell_points.Goals as goal

pub runs-init : goal.runs-init
runs-init c = record {
  within = omega (arith, c.no_run-run.ensures);
  passages = grind arith;
  told = λ p t k d less. absurd (omega (arith, less, c.no_run-run.ensures));
  linked = λ k d less straight. absurd (omega (arith, less, c.no_run-run.ensures));
  kept = grind arith;
  next = c.requires.next;
  offered = λ p t q point some. not_none (at c.args.levels.now.next.states q) (c.requires.not_offered q) some;
  others = λ q low. c.requires.not_offered q;
}

pub returns-then-from-points-clause-told : goal.returns-then-from-points-clause-told
returns-then-from-points-clause-told c p t k d less = c.runs.invariant.told p t k d (omega (arith, less, c.if-from-points.true, c.points.ensures.points, c.runs.invariant.passages, c.requires.passages))

pub runs-preserved-then-run : goal.runs-preserved-then-run
runs-preserved-then-run c = record {
  within = c.tell_run-run.ensures.within;
  passages = c.tell_run-run.ensures.passages ∙ c.runs.invariant.passages;
  told = λ p t. c.tell_run-run.ensures.told p t (c.runs.invariant.told p t);
  linked = c.tell_run-run.ensures.linked c.runs.invariant.linked;
  kept = c.offer_run_first.ensures.kept ∙ c.runs.invariant.kept;
  next = c.offer_run_first.ensures.next ∙ ap length c.runs.invariant.kept;
  offered = c.offer_run_first.ensures.offered;
  others = c.offer_run_first.ensures.others;
}

pub runs-preserved : goal.runs-preserved
runs-preserved c = record {
  within = c.tell_run-run.ensures.within;
  passages = c.tell_run-run.ensures.passages ∙ c.runs.invariant.passages;
  told = λ p t. c.tell_run-run.ensures.told p t (c.runs.invariant.told p t);
  linked = c.tell_run-run.ensures.linked c.runs.invariant.linked;
  kept = c.runs.invariant.kept;
  next = c.runs.invariant.next;
  offered = c.runs.invariant.offered;
  others = λ q low. c.runs.invariant.others q (omega (arith, low, c.tell_run-run.ensures.more));
}

pub returns-then-from-points-clause-linked : goal.returns-then-from-points-clause-linked
returns-then-from-points-clause-linked c =
    let all : c.runs.run.end ≡ length c.runs.passages.items = omega (arith, c.if-from-points.true, c.points.ensures.points, c.runs.invariant.passages, c.requires.passages) in
    subst (λ (n : ℕ). AreLinked c.runs.passages.items n) all c.runs.invariant.linked
