-- A way leads on to the RESTORE, or no more than is noted.
use Rattle.std.proofs.Common.{◌≡◌, ℕ, ◌<◌, ◌++◌, ◌∷◌, [], List, IsSome, sym, refl, subst, set, length, arith}
use Rattle.kept_states.specs.LevelStates.{at}
use Rattle.state_ways.specs.declared.steps.WayKind.TheVariants.{Restore}
use Rattle.state_ways.specs.declared.steps.WayStep.{WayStep}
use Rattle.state_ways.specs.Marks.{GoesOn, IsMarked}
use Rattle.state_ways.specs.Ways.{step, turns, turns_at}
use Rattle.state_ways.proofs.Edges.{both_ok}
use Rattle.state_ways.proofs.Marking.{more_some, new_marked, none_at, on_restored}
use Rattle.state_ways.proofs.search.lead_to_restore.Goals as goal

pub note-requires-clause-fresh : goal.note-requires-clause-fresh
note-requires-clause-fresh c = none_at c.args.search.now.ways c.args.restore (λ m. let k = c.is_shown.ensures.1 m in let h = c.if-is_shown.false in grind arith)

pub returns-clause-on : goal.returns-clause-on
returns-clause-on c =
    let ways : List (List WayStep) = c.args.search.now.ways in
    let next : List ℕ = c.args.search.now.next.items in
    let q : ℕ = c.args.restore in
    let fresh : turns_at ways q ≡ [] = none_at ways q (λ m. let k = c.is_shown.ensures.1 m in let h = c.if-is_shown.false in grind arith) in
    let inside : q < length ways = omega (arith, c.requires.restore, c.requires.points) in
    let kept : IsSome (at c.args.kept.now q) = c.is_kept.ensures.0 (let h = c.if-not-is_kept.false in grind arith) in
    both_ok c.note.result c.note.ensures.ways c.note.ensures.next (λ are items parts front point means in_front.
    subst (λ (w : List (List WayStep)). GoesOn parts (at c.args.kept.now) front ways next w c.note.new.search.next.items) (sym are)
    (subst (λ (n : List ℕ). GoesOn parts (at c.args.kept.now) front ways next (set ways q (turns_at ways c.args.from ++ turns (step q Restore ∷ []))) n) (sym items)
    (on_restored parts (at c.args.kept.now) front ways next c.args.from q Restore in_front c.requires.shown inside fresh refl point means kept)))

pub returns-clause-led : goal.returns-clause-led
returns-clause-led c =
    let ways : List (List WayStep) = c.args.search.now.ways in
    let q : ℕ = c.args.restore in
    let fresh : turns_at ways q ≡ [] = none_at ways q (λ m. let k = c.is_shown.ensures.1 m in let h = c.if-is_shown.false in grind arith) in
    let inside : q < length ways = omega (arith, c.requires.restore, c.requires.points) in
    let x : List WayStep = turns_at ways c.args.from ++ turns (step q Restore ∷ []) in
    both_ok c.note.result c.note.ensures.ways c.note.ensures.next (λ are items some. subst (λ (w : List (List WayStep)). IsMarked w q) (sym are) (new_marked ways q x inside fresh (more_some (turns_at ways c.args.from) (turns (step q Restore ∷ [])) c.requires.shown)))
