-- One mark after another.
use Rattle.std.proofs.lemmas.Result.{on_ok_weaker}
use Rattle.stack_rules.proofs.GainsLemmas.{gains_both, gains_for, gains_told}
use Rattle.stack_rules.proofs.exits.push_marks.Goals as goal

pub returns : goal.returns
returns c = on_ok_weaker c.push_if-5.result (λ last.
    gains_both _ _ _ _ _ (gains_told _ _ _ _ _ c.bare_warning.ensures c.in_ok-push_if.ensures)
    (gains_both _ _ _ _ _ (gains_for _ _ _ _ _ _ c.bare_warning-2.ensures c.runs_off.ensures c.in_ok-push_if-2.ensures)
    (gains_both _ _ _ _ _ (gains_told _ _ _ _ _ c.bare_warning-3.ensures c.in_ok-push_if-3.ensures)
    (gains_both _ _ _ _ _ (gains_told _ _ _ _ _ c.bare_warning-4.ensures c.in_ok-push_if-4.ensures)
    (gains_for _ _ _ _ _ _ c.bare_warning-5.ensures c.is_relocated.ensures last))))) c.push_if-5.ensures
