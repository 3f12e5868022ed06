-- One point more.
use Rattle.std.proofs.Common.{ℕ, ◌<◌, ◌+◌, ◌∷◌, [], List, ap, sym, ◌∙◌, subst, set, length, length-set, arith}
use Rattle.machine_defs.specs.Program.{IsPoint}
use Rattle.state_ways.specs.declared.steps.WayStep.{WayStep}
use Rattle.state_ways.specs.Marks.{AreShown, IsBegun}
use Rattle.state_ways.specs.Ways.{step, turns_at}
use Rattle.state_ways.proofs.Begins.{begun_more, some_step}
use Rattle.state_ways.proofs.Marking.{at_old, more_shown}
use Rattle.state_ways.proofs.search.begin_at.Goals as goal

pub returns-clause-points : goal.returns-clause-points
returns-clause-points c = ap length c.in_ok-begin.ensures ∙ length-set c.args.search.now.ways c.args.n (step c.args.n c.in-Some.kind ∷ [])

pub returns-clause-others : goal.returns-clause-others
returns-clause-others c = λ q ne. ap (λ (w : List (List WayStep)). turns_at w q) c.in_ok-begin.ensures ∙ at_old c.args.search.now.ways c.args.n (step c.args.n c.in-Some.kind ∷ []) (omega (arith, c.requires.point, c.requires.ways)) c.requires.fresh (some_step c.args.n c.in-Some.kind) q ne

pub returns-clause-shown : goal.returns-clause-shown
returns-clause-shown c = λ shown.
    let x : List WayStep = step c.args.n c.in-Some.kind ∷ [] in
    subst (λ (w : List (List WayStep)). AreShown w c.push.new.self.items) (sym c.in_ok-begin.ensures)
    (subst (λ (n : List ℕ). AreShown (set c.args.search.now.ways c.args.n x) n) (sym c.in_ok-push.ensures.items)
    (more_shown c.args.search.now.ways c.args.n x (omega (arith, c.requires.point, c.requires.ways)) c.requires.fresh (some_step c.args.n c.in-Some.kind) c.args.search.now.next.items shown))

pub returns-clause-begun : goal.returns-clause-begun
returns-clause-begun c = λ p t b.
    let x : List WayStep = step c.args.n c.in-Some.kind ∷ [] in
    let pn : IsPoint p c.args.n = subst (λ (m : ℕ). c.args.n < m) (sym t.count) c.requires.point in
    let way = c.in-Some.ensures.way p t in
    subst (λ (w : List (List WayStep)). IsBegun p (c.args.n + 1) w c.push.new.self.items) (sym c.in_ok-begin.ensures)
    (subst (λ (n : List ℕ). IsBegun p (c.args.n + 1) (set c.args.search.now.ways c.args.n x) n) (sym c.in_ok-push.ensures.items)
    (begun_more p c.args.n c.in-Some.kind c.args.search.now.ways c.args.search.now.next.items (omega (arith, c.requires.point, c.requires.ways)) c.requires.fresh pn c.in-Some.ensures.turn way.0 way.1 b))
