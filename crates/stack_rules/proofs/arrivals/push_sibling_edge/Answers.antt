-- At an edge to another function.
use Rattle.std.proofs.lemmas.Result.{on_ok_weaker}
use Rattle.stack_rules.specs.PointWarns.{SiblingWarns}
use Rattle.stack_rules.proofs.GainsLemmas.{gains_same}
use Rattle.stack_rules.proofs.arrivals.push_sibling_edge.Goals as goal

pub returns-in-Sibling : goal.returns-in-Sibling
returns-in-Sibling c = on_ok_weaker c.push_sibling.result (λ h consistent. gains_same _ _ (SiblingWarns c.args.place c.args.state c.args.may_leave) _ (h consistent) (λ w. (λ k. (c.in-Sibling.is, k), λ k. k.1))) c.push_sibling.ensures
