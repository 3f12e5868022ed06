-- Where no rule of the stack is broken, all warnings are those that options ask for besides.
use Rattle.std.proofs.Common.{List, [], option_copied, refl, sym, subst}
use Rattle.ot_base.specs.declared.warning.Warning.{Warning}
use Rattle.program_graph.specs.declared.parts.GraphParts.{GraphParts}
use Rattle.program_check.proofs.Empty.{is_empty, is_longer}
use Rattle.stack_rules.specs.Gains.{Gains}
use Rattle.program_check.specs.AskedRules.{AskedWarns, IsTracked}
use Rattle.program_check.proofs.OptionSums.{all_warned, none_is_clean, none_of_stack}
use Rattle.program_check.proofs.Tracked.{tracked}
use Rattle.program_check.proofs.option_verdict.if_clean.Goals as goal

pub returns-then-is_empty : goal.returns-then-is_empty
returns-then-is_empty c = λ p allowed ask unbroken.
    let all = c.in_ok-warnings.warnings in
    let t = subst (λ (g : GraphParts). IsTracked p allowed g (option_copied c.args.table)) (sym c.graph.ensures) (tracked p allowed c.args.checked.graph.parts c.args.checked.kept (option_copied c.args.table) ask) in
    let gains = subst (λ (xs : List Warning). Gains xs all.items (AskedWarns p allowed c.args.options)) c.new.ensures.items (c.in_ok-warnings.ensures.gains p allowed t) in
    let none = is_empty c.is_empty.result all.len all.items c.is_empty.ensures all.ok.0 c.if-is_empty.true in
    record {
      graph = refl;
      kept = refl;
      accepted = unbroken.accepted;
      clean = none_is_clean p allowed c.args.options all.items none (all_warned p allowed c.args.options [] all.items (none_of_stack p allowed c.args.options unbroken.unbroken) gains);
    }

pub returns-else-is_empty : goal.returns-else-is_empty
returns-else-is_empty c = λ p allowed ask unbroken.
    let all = c.in_ok-warnings.warnings in
    let t = subst (λ (g : GraphParts). IsTracked p allowed g (option_copied c.args.table)) (sym c.graph.ensures) (tracked p allowed c.args.checked.graph.parts c.args.checked.kept (option_copied c.args.table) ask) in
    let gains = subst (λ (xs : List Warning). Gains xs all.items (AskedWarns p allowed c.args.options)) c.new.ensures.items (c.in_ok-warnings.ensures.gains p allowed t) in
    record {
      some = is_longer c.is_empty.result all.len all.items c.is_empty.ensures all.ok.0 c.if-is_empty.false;
      ascending = c.in_ok-warnings.ensures.ascending;
      all = all_warned p allowed c.args.options [] all.items (none_of_stack p allowed c.args.options unbroken.unbroken) gains;
    }
