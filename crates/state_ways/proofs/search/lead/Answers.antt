-- A way leads on along the edge, or no more than is noted.
use Rattle.std.proofs.Common.{◌≡◌, ℕ, ◌<◌, ◌++◌, ◌∷◌, [], List, sym, ◌∙◌, subst, set, length, arith}
use Rattle.machine_defs.specs.Program.{Program}
use Rattle.program_graph.specs.Tells.{Tells}
use Rattle.kept_states.specs.LevelStates.{at}
use Rattle.state_ways.specs.declared.steps.WayStep.{WayStep}
use Rattle.state_ways.specs.Marks.{BringsKept, GoesOn, IsMarked}
use Rattle.state_ways.specs.Ways.{step, turns, turns_at}
use Rattle.state_ways.proofs.Edges.{both_ok}
use Rattle.state_ways.proofs.Marking.{more_some, new_marked, none_at, on_along}
use Rattle.state_ways.proofs.search.lead.Goals as goal

pub note-requires-clause-fresh : goal.note-requires-clause-fresh
note-requires-clause-fresh c = none_at c.args.search.now.ways c.args.edge.to (λ m. let k = c.is_shown.ensures.1 m in let h = c.if-is_shown.false in grind arith)

pub returns-in-Some-clause-on : goal.returns-in-Some-clause-on
returns-in-Some-clause-on c =
    let ways : List (List WayStep) = c.args.search.now.ways in
    let next : List ℕ = c.args.search.now.next.items in
    let q : ℕ = c.args.edge.to in
    let fresh : turns_at ways q ≡ [] = none_at ways q (λ m. let k = c.is_shown.ensures.1 m in let h = c.if-is_shown.false in grind arith) in
    let inside : q < length ways = omega (arith, c.requires.to, c.requires.ways) in
    let brings : (p : Program) → Tells p c.args.graph.now.parts → BringsKept p (at c.args.kept.now) c.args.from c.args.edge = λ p t. (c.brings_kept.ensures p t).0 (let h = c.if-not-brings_kept.false in grind arith) in
    both_ok c.note.result c.note.ensures.ways c.note.ensures.next (λ are items front in_front.
    subst (λ (w : List (List WayStep)). GoesOn c.args.graph.now.parts (at c.args.kept.now) front ways next w c.note.new.search.next.items) (sym are)
    (subst (λ (n : List ℕ). GoesOn c.args.graph.now.parts (at c.args.kept.now) front ways next (set ways q (turns_at ways c.args.from ++ turns (step q c.in-Some.kind ∷ []))) n) (sym items)
    (on_along c.args.graph.now.parts (at c.args.kept.now) front ways next c.args.from q c.in-Some.kind in_front c.requires.shown inside fresh c.args.edge.kind c.requires.to c.requires.own brings (sym c.way_kind.ensures ∙ c.in-Some.is))))

pub returns-in-Some-clause-led : goal.returns-in-Some-clause-led
returns-in-Some-clause-led c =
    let ways : List (List WayStep) = c.args.search.now.ways in
    let q : ℕ = c.args.edge.to in
    let fresh : turns_at ways q ≡ [] = none_at ways q (λ m. let k = c.is_shown.ensures.1 m in let h = c.if-is_shown.false in grind arith) in
    let inside : q < length ways = omega (arith, c.requires.to, c.requires.ways) in
    let x : List WayStep = turns_at ways c.args.from ++ turns (step q c.in-Some.kind ∷ []) in
    both_ok c.note.result c.note.ensures.ways c.note.ensures.next (λ are items p t b. subst (λ (w : List (List WayStep)). IsMarked w q) (sym are) (new_marked ways q x inside fresh (more_some (turns_at ways c.args.from) (turns (step q c.in-Some.kind ∷ [])) c.requires.shown)))

pub returns-then-not-brings_kept-clause-led : goal.returns-then-not-brings_kept-clause-led
returns-then-not-brings_kept-clause-led c = λ p t b. absurd (let k = (c.brings_kept.ensures p t).1 b in let h = c.if-not-brings_kept.true in grind arith)
