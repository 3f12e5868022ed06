-- The edges lead, or all of their ends have ways.
use Rattle.std.proofs.Common.{◌<◌, ℕ, List, [], ◌∷◌, Contains, get_or, length, sym, ◌∙◌, subst, arith}
use Rattle.machine_defs.specs.declared.flow.Edge.{Edge}
use Rattle.unwinding_law.proofs.Lists.{here}
use Rattle.kept_states.specs.LevelStates.{at}
use Rattle.kept_states.proofs.LevelSteps.{is_some_of}
use Rattle.state_ways.specs.Marks.{AreSpent}
use Rattle.state_ways.proofs.Edges.{read_test, spent_more, spent_stays}
use Rattle.state_ways.proofs.search.lead_by_table.Goals as goal

pub returns-then-index-clause-led : goal.returns-then-index-clause-led
returns-then-index-clause-led c = λ p e t spent m b.
    let inside : c.args.owner < length c.args.search.now.spent.items = omega (arith, c.requires.owner, c.requires.spent) in
    spent c.args.owner e (read_test c.args.search.now.spent.items c.args.owner c.index.result.now inside c.index.ensures ∙ c.if-index.true) (subst (λ (es : List Edge). Contains es e) (c.requires.alike p t) m) (is_some_of (at c.args.kept.now e.to) b.brought b.to)

pub are_spent-requires-clause-ways : goal.are_spent-requires-clause-ways
are_spent-requires-clause-ways c = λ k d l.
    let same = (c.in_ok-lead_each.ensures.on (c.args.from ∷ []) (here c.args.from [])).points ∙ c.requires.ways in
    subst (λ (n : ℕ). (get_or c.args.edges.now k d).to < n) (sym same) (c.requires.within k d l)

pub returns-then-are_spent-clause-spent : goal.returns-then-are_spent-clause-spent
returns-then-are_spent-clause-spent c = λ p t spent.
    let one = c.in_ok-lead_each.ensures.on (c.args.from ∷ []) (here c.args.from []) in
    let old : AreSpent p (at c.args.kept.now) c.lead_each.new.search.ways c.lead_each.new.search.spent.items = subst (λ v. AreSpent p (at c.args.kept.now) c.lead_each.new.search.ways v.items) (sym c.lead_each.ensures.spent) (spent_stays p (at c.args.kept.now) c.args.search.now.ways c.lead_each.new.search.ways c.args.search.now.spent.items one.stays spent) in
    spent_more p (at c.args.kept.now) c.lead_each.new.search.ways c.lead_each.new.search.spent.items c.args.owner old (λ e m some. c.are_spent.ensures (let h = c.if-are_spent.true in grind arith) e (subst (λ (es : List Edge). Contains es e) (sym (c.requires.alike p t)) m) some)

pub returns-else-are_spent-clause-led : goal.returns-else-are_spent-clause-led
returns-else-are_spent-clause-led c = λ p e t spent m b. c.in_ok-lead_each.ensures.led p e t m b

pub returns-else-are_spent-clause-spent : goal.returns-else-are_spent-clause-spent
returns-else-are_spent-clause-spent c = λ p t spent.
    let one = c.in_ok-lead_each.ensures.on (c.args.from ∷ []) (here c.args.from []) in
    subst (λ v. AreSpent p (at c.args.kept.now) c.lead_each.new.search.ways v.items) (sym c.lead_each.ensures.spent) (spent_stays p (at c.args.kept.now) c.args.search.now.ways c.lead_each.new.search.ways c.args.search.now.spent.items one.stays spent)
