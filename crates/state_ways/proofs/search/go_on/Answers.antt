-- The points that were listed are in front.
use Rattle.std.proofs.Common.{◌≡◌, ℕ, List, [], ap, ◌∙◌, subst}
use Rattle.kept_states.specs.LevelStates.{at}
use Rattle.state_ways.specs.Marks.{GoesOn}
use Rattle.state_ways.proofs.Edges.{map_ok}
use Rattle.state_ways.proofs.search.go_on.Goals as goal

pub returns-clause-on : goal.returns-clause-on
returns-clause-on c =
    let front : c.deref.result.now ≡ c.args.search.now.next.items = c.deref.ensures.value ∙ ap (λ v. v.items) c.replace-front.ensures.value in
    let none : c.replace-front.new.dest.items ≡ [] = ap (λ v. v.items) c.replace-front.ensures.after ∙ c.new.ensures.items in
    map_ok c.lead_all.result c.lead_all.ensures.on (λ on.
    subst (λ (f : List ℕ). GoesOn c.args.graph.now.parts (at c.args.kept.now) f c.args.search.now.ways [] c.lead_all.new.search.ways c.lead_all.new.search.next.items) front
    (subst (λ (n : List ℕ). GoesOn c.args.graph.now.parts (at c.args.kept.now) c.deref.result.now c.args.search.now.ways n c.lead_all.new.search.ways c.lead_all.new.search.next.items) none on))
