-- Where a rule of the stack is broken, its warnings are among all.
use Rattle.std.proofs.Common.{option_copied, sym, subst, inl}
use Rattle.program_graph.specs.declared.parts.GraphParts.{GraphParts}
use Rattle.program_check.specs.Verdict.{IsStackVerdict}
use Rattle.program_check.proofs.Empty.{element}
use Rattle.program_check.specs.AskedRules.{IsTracked}
use Rattle.program_check.proofs.OptionSums.{all_warned, has_some}
use Rattle.program_check.proofs.Tracked.{tracked}
use Rattle.program_check.proofs.option_verdict.check.Goals as goal

pub returns-in_ok-with_asked-in-Broken : goal.returns-in_ok-with_asked-in-Broken
returns-in_ok-with_asked-in-Broken c = λ p allowed ask.
    let parts = c.args.graph.parts in
    let verdict = subst (IsStackVerdict p c.args.options parts c.args.kept) c.in-Broken.is (c.in_ok-checked.ensures p ask.checkable) in
    let stack = c.in-Broken.warnings.items in
    let all = c.in_ok-with_asked-in-Broken.field-0.items in
    let t = subst (λ (g : GraphParts). IsTracked p allowed g (option_copied c.args.table)) (sym verdict.graph) (tracked p allowed parts c.args.kept (option_copied c.args.table) ask) in
    let gains = c.in_ok-with_asked-in-Broken.ensures.gains p allowed t in
    let first = element stack verdict.some in
    record {
      some = has_some all first.0 ((gains first.0).1 (inl first.1));
      ascending = c.in_ok-with_asked-in-Broken.ensures.ascending;
      all = all_warned p allowed c.args.options stack all verdict.broken gains;
    }
