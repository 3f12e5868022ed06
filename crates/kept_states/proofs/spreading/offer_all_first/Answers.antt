-- One more point was offered what it has on level 0.
use Rattle.std.proofs.Common.{◌≡◌, ℕ, inl, inr, List, Option, None, IsSome, length, rules, ap, sym, ◌∙◌, subst, arith}
use Rattle.state_defs.specs.declared.state.State.{State}
use Rattle.machine_defs.specs.Kept.{state_at}
use Rattle.kept_states.specs.LevelStates.{at}
use Rattle.kept_states.proofs.LevelSteps.{none_of, not_none}
use Rattle.kept_states.proofs.Places.{same_or_not, within}
use Rattle.kept_states.proofs.spreading.offer_all_first.Goals as goal

pub points-preserved : goal.points-preserved
points-preserved c =
    let n : ℕ = c.points.n in
    let old : List (Option State) = c.points.levels.next.states in
    let new : List (Option State) = c.offer_missing_first.new.levels.next.states in
    record {
      inside = search rules;
      kept = c.offer_missing_first.ensures.kept ∙ c.points.invariant.kept;
      next = c.offer_missing_first.ensures.next ∙ ap length c.points.invariant.kept;
      first = λ p t q less. elim (same_or_not n q) [
        | inl e ↦ subst (λ (m : ℕ). at new m ≡ state_at p 0 m) (sym e) (c.offer_missing_first.ensures.first p t)
        | inr other ↦ c.offer_missing_first.ensures.others q other ∙ c.points.invariant.first p t q (let h = other in grind arith)
      ];
      others = λ p t q point some. elim (same_or_not n q) [
        | inl e ↦ subst (λ (m : ℕ). at new m ≡ state_at p 0 m) (sym e) (c.offer_missing_first.ensures.first p t)
        | inr other ↦ c.offer_missing_first.ensures.others q other ∙ c.points.invariant.others p t q point (subst (λ (o : Option State). IsSome o) (c.offer_missing_first.ensures.others q other) some)
      ];
    }

pub points-preserved-then-are_ordinary : goal.points-preserved-then-are_ordinary
points-preserved-then-are_ordinary c =
    let n : ℕ = c.points.n in
    let new : List (Option State) = c.points.levels.next.states in
    record {
      inside = search rules;
      kept = c.points.invariant.kept;
      next = c.points.invariant.next;
      first = λ p t q less. elim (within q n) [
        | inl below ↦ c.points.invariant.first p t q below
        | inr behind ↦ (let none : state_at p 0 q ≡ None = c.are_ordinary.ensures c.if-are_ordinary.true p (c.requires.told p t) q behind less in
            none_of (at new q) (λ some. not_none (at new q) (c.points.invariant.others p t q (search rules) some ∙ none) some) ∙ sym none)
      ];
      others = c.points.invariant.others;
    }

pub points-preserved-then-are_all_ordinary : goal.points-preserved-then-are_all_ordinary
points-preserved-then-are_all_ordinary c =
    let n : ℕ = c.points.n in
    let new : List (Option State) = c.points.levels.next.states in
    record {
      inside = search rules;
      kept = c.points.invariant.kept;
      next = c.points.invariant.next;
      first = λ p t q less. elim (within q n) [
        | inl below ↦ c.points.invariant.first p t q below
        | inr behind ↦ (let none : state_at p 0 q ≡ None = c.are_all_ordinary.ensures c.if-are_all_ordinary.true p (c.requires.told p t) q behind less in
            none_of (at new q) (λ some. not_none (at new q) (c.points.invariant.others p t q (search rules) some ∙ none) some) ∙ sym none)
      ];
      others = c.points.invariant.others;
    }
