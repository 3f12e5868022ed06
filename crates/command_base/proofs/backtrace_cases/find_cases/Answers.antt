use Rattle.std.proofs.Common.{◌≡◌, length, refl, sym, ap, ◌∙◌, arith, subst}
use Rattle.std.specs.Prelude.{slice_index_or, None}
use Rattle.command_base.specs.BacktraceCases.{IsMade}
use Rattle.command_base.proofs.CaseLists.{are_cases, made_more, no_case, no_spot, no_warning, same_warnings}
use Rattle.command_base.proofs.backtrace_cases.find_cases.Goals as goal

pub returns-clause-cases : goal.returns-clause-cases
returns-clause-cases c p warned =
    are_cases p c.args.graph.now.parts c.args.kept.now c.args.warnings.now c.in_ok-firsts.firsts.items c.in_ok-clashes.clashes.items c.loop-i.cases.items (omega (arith, c.loop-i.invariant.len, c.loop-i-test.false, c.loop-i.auto.i-end)) c.in_ok-firsts.ensures.len c.in_ok-clashes.ensures.len c.loop-i.invariant.made
    (c.in_ok-firsts.ensures.first p warned.tells) (c.in_ok-clashes.ensures.clashes p warned.tells warned.is_program warned.hints warned.kept) warned

pub returns-clause-warnings : goal.returns-clause-warnings
returns-clause-warnings c =
    same_warnings c.args.warnings.now c.in_ok-firsts.firsts.items c.in_ok-clashes.clashes.items c.loop-i.cases.items no_warning no_spot no_case (omega (arith, c.loop-i.invariant.len, c.loop-i-test.false, c.loop-i.auto.i-end)) c.loop-i.invariant.made

pub loop-i-preserved : goal.loop-i-preserved
loop-i-preserved c = record {
  len = grind (arith, c.in_ok-push.ensures.len, c.loop-i.invariant.len);
  made = made_more c.args.warnings.now c.in_ok-firsts.firsts.items c.in_ok-clashes.clashes.items c.loop-i.cases.items c.push.new.self.items c.case_of.result c.loop-i.i c.loop-i.invariant.len c.loop-i.invariant.made
      (λ w s. subst (λ ns. IsMade (slice_index_or c.args.warnings.now c.loop-i.i w) (slice_index_or c.in_ok-firsts.firsts.items c.loop-i.i s) (slice_index_or ns c.loop-i.i None) c.case_of.result) c.deref-in-loop-i.ensures.value
      (subst (λ fs. IsMade (slice_index_or c.args.warnings.now c.loop-i.i w) (slice_index_or fs c.loop-i.i s) (slice_index_or c.deref-in-loop-i.result.now c.loop-i.i None) c.case_of.result) c.deref.ensures.value (c.case_of.ensures w s))) c.in_ok-push.ensures.items;
}
