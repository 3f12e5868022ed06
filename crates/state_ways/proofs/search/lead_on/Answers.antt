-- First along edges, then to RESTOREs.
use Rattle.std.proofs.Common.{[], ◌∷◌, sym, ◌∙◌, subst}
use Rattle.unwinding_law.proofs.Lists.{here}
use Rattle.kept_states.specs.LevelStates.{at}
use Rattle.state_ways.specs.Marks.{AreSpent}
use Rattle.state_ways.proofs.Edges.{both_ok, map_ok, spent_stays}
use Rattle.state_ways.proofs.Marking.{then_on}
use Rattle.state_ways.proofs.search.lead_on.Goals as goal

pub lead_to_restores-requires-clause-ways : goal.lead_to_restores-requires-clause-ways
lead_to_restores-requires-clause-ways c = (c.in_ok-lead_along.ensures.on (c.args.from ∷ []) (here c.args.from [])).points ∙ c.requires.ways

pub lead_to_restores-requires-clause-shown : goal.lead_to_restores-requires-clause-shown
lead_to_restores-requires-clause-shown c = (c.in_ok-lead_along.ensures.on (c.args.from ∷ []) (here c.args.from [])).stays c.args.from c.requires.shown

pub returns-clause-on : goal.returns-clause-on
returns-clause-on c = map_ok c.lead_to_restores.result c.lead_to_restores.ensures.on (λ on front m. then_on c.args.graph.now.parts (at c.args.kept.now) front c.args.search.now.ways c.args.search.now.next.items c.lead_along.new.search.ways c.lead_along.new.search.next.items c.lead_to_restores.new.search.ways c.lead_to_restores.new.search.next.items (c.in_ok-lead_along.ensures.on front m) (on front m))

pub returns-clause-led : goal.returns-clause-led
returns-clause-led c = both_ok c.lead_to_restores.result c.lead_to_restores.ensures.on c.lead_to_restores.ensures.led (λ on led p t spent. record {
  edges = λ e m b. (on (c.args.from ∷ []) (here c.args.from [])).stays e.to (c.in_ok-lead_along.ensures.led p e t spent m b);
  restores = λ r m some. led p r t m some;
})

pub returns-clause-spent : goal.returns-clause-spent
returns-clause-spent c = map_ok c.lead_to_restores.result c.lead_to_restores.ensures.on (λ on p t spent.
    subst (λ v. AreSpent p (at c.args.kept.now) c.lead_to_restores.new.search.ways v.items) (sym c.lead_to_restores.ensures.spent) (spent_stays p (at c.args.kept.now) c.lead_along.new.search.ways c.lead_to_restores.new.search.ways c.lead_along.new.search.spent.items (on (c.args.from ∷ []) (here c.args.from [])).stays (c.in_ok-lead_along.ensures.spent p t spent)))
