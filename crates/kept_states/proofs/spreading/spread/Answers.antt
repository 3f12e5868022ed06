-- All has been given.
use Rattle.std.proofs.Common.{◌≡◌, ℕ, ◌<◌, List, Option, Some, length, sym, subst, arith}
use Rattle.state_defs.specs.declared.state.State.{State}
use Rattle.machine_defs.specs.Program.{IsPoint}
use Rattle.kept_states.specs.LevelStates.{at}
use Rattle.kept_states.specs.declared.passages.Passage.{Passage}
use Rattle.kept_states.specs.Passages.{ArePassages}
use Rattle.kept_states.proofs.Ranks.{spread_are_kept}
use Rattle.kept_states.proofs.Rounds.{at_some}
use Rattle.kept_states.proofs.spreading.spread.Goals as goal

pub returns-clause-kept : goal.returns-clause-kept
returns-clause-kept c p t is hints =
    let kept : List (Option State) = c.spread_batches.new.levels.kept in
    let point : (q : ℕ) (s : State) → at kept q ≡ Some s → IsPoint p q =
    λ q s e. let l : q < length kept = at_some kept q s e in omega (arith, l, t.count, c.spread_batches.ensures.points) in
    spread_are_kept p is hints (at kept) (c.spread_batches.ensures.spread p t is) point

pub spread_batches-requires-clause-told : goal.spread_batches-requires-clause-told
spread_batches-requires-clause-told c p t = subst (λ (passages : List Passage). ArePassages p passages) (sym c.deref-2.ensures.value) (c.tell_points-mixed.ensures.told p t)

pub keep_first-requires-clause-told : goal.keep_first-requires-clause-told
keep_first-requires-clause-told c p t = subst (λ (passages : List Passage). ArePassages p passages) (sym c.deref.ensures.value) (c.tell_points-mixed.ensures.told p t)
