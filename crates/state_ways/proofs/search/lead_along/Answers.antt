-- Few edges lead each; many by the point that has them.
use Rattle.std.proofs.Common.{List, [], ◌∷◌, Contains, sym, subst}
use Rattle.machine_defs.specs.declared.flow.Edge.{Edge}
use Rattle.unwinding_law.proofs.Lists.{here}
use Rattle.kept_states.specs.LevelStates.{at}
use Rattle.state_ways.specs.Marks.{AreSpent}
use Rattle.state_ways.proofs.Edges.{map_ok, spent_stays}
use Rattle.state_ways.proofs.search.lead_along.Goals as goal

pub returns-then-edges-le-FEW_EDGES-clause-led : goal.returns-then-edges-le-FEW_EDGES-clause-led
returns-then-edges-le-FEW_EDGES-clause-led c = map_ok c.lead_each.result c.lead_each.ensures.led (λ led p e t spent m b. led p e t (subst (λ (es : List Edge). Contains es e) (sym (c.successors-edges.ensures.edges p t)) m) b)

pub returns-then-edges-le-FEW_EDGES-clause-spent : goal.returns-then-edges-le-FEW_EDGES-clause-spent
returns-then-edges-le-FEW_EDGES-clause-spent c = map_ok c.lead_each.result c.lead_each.ensures.on (λ on p t spent.
    subst (λ v. AreSpent p (at c.args.kept.now) c.lead_each.new.search.ways v.items) (sym c.lead_each.ensures.spent) (spent_stays p (at c.args.kept.now) c.args.search.now.ways c.lead_each.new.search.ways c.args.search.now.spent.items (on (c.args.from ∷ []) (here c.args.from [])).stays spent))

pub returns-in-Some-clause-led : goal.returns-in-Some-clause-led
returns-in-Some-clause-led c = map_ok c.lead_by_table.result c.lead_by_table.ensures.led (λ led p e t spent m b. led p e t spent (subst (λ (es : List Edge). Contains es e) (sym (c.successors-edges.ensures.edges p t)) m) b)

pub returns-in-None-clause-led : goal.returns-in-None-clause-led
returns-in-None-clause-led c = map_ok c.lead_by_table-in-None.result c.lead_by_table-in-None.ensures.led (λ led p e t spent m b. led p e t spent (subst (λ (es : List Edge). Contains es e) (sym (c.successors-edges.ensures.edges p t)) m) b)
