-- What one point has given, the other gives in vain.
use Rattle.std.proofs.Common.{inr, refl}
use Rattle.kept_states.specs.LevelStates.{at}
use Rattle.kept_states.proofs.DonePoints.{vain_after, vain_beside}
use Rattle.kept_states.proofs.LevelSteps.{state_of_some}
use Rattle.kept_states.proofs.alike.many_edges.Goals as goal

pub returns-then-has_brought-clause-edges : goal.returns-then-has_brought-clause-edges
returns-then-has_brought-clause-edges c p t given =
    let done = c.has_brought.ensures.done c.if-has_brought.true in
    let s = state_of_some (at c.args.levels.now.kept c.in-Some.first) (given.kept c.in-Some.first done) in
    inr (refl, vain_after p c.args.levels.now c.args.i c.args.n c.in-Some.first s.0 given done s.1 (c.has_brought.ensures.moves c.if-has_brought.true p s.0 t s.1) (c.in-Some.ensures.edges p t))

pub returns-then-brought_the_same-clause-edges : goal.returns-then-brought_the_same-clause-edges
returns-then-brought_the_same-clause-edges c p t given =
    let same = c.if-brought_the_same.true in
    inr (refl, vain_beside p c.args.levels.now c.args.i c.args.n c.in-Some.first (c.brought_the_same.ensures.before same) (c.brought_the_same.ensures.alike same) (λ s has. c.brought_the_same.ensures.moves same p s t has) (c.in-Some.ensures.edges p t))
