-- One rule after the other.
use Rattle.std.proofs.Common.{refl}
use Rattle.std.proofs.lemmas.Result.{on_ok_weaker}
use Rattle.stack_rules.proofs.GainsLemmas.{gains_both, gains_for}
use Rattle.program_check.proofs.operations.push_operation.Goals as goal

pub returns : goal.returns
returns c = on_ok_weaker c.push_if-4.result (λ h.
    gains_both _ _ _ _ _ (gains_for _ _ _ _ _ _ refl c.turns_on_twice.ensures c.in_ok-push_if.ensures)
    (gains_both _ _ _ _ _ (gains_for _ _ _ _ _ _ refl c.turns_off_twice.ensures c.in_ok-push_if-2.ensures)
    (gains_both _ _ _ _ _ (gains_for _ _ _ _ _ _ refl c.safe_turns_off.ensures c.in_ok-push_if-3.ensures)
    (gains_for _ _ _ _ _ _ refl c.pops_flags.ensures h)))) c.push_if-4.ensures
