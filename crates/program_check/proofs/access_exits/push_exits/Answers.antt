-- One rule after the other.
use Rattle.std.proofs.Common.{ap}
use Rattle.std.proofs.lemmas.Result.{on_ok_weaker}
use Rattle.ot_base.specs.Warnings.{bare_warning}
use Rattle.stack_rules.proofs.GainsLemmas.{gains_both, gains_for}
use Rattle.program_check.proofs.access_exits.push_exits.Goals as goal

pub returns : goal.returns
returns c = on_ok_weaker c.push_if-2.result (λ h p t.
    gains_both _ _ _ _ _ (gains_for _ _ _ _ _ _ (ap (λ place. bare_warning place 42) (c.place-place.ensures p t)) (c.is_left_on.ensures p t) c.in_ok-push_if.ensures)
    (gains_for _ _ _ _ _ _ (ap (λ place. bare_warning place 43) (c.place-place.ensures p t)) (c.is_left_off.ensures p t) h)) c.push_if-2.ensures
