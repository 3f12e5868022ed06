-- By whether a state is kept there.
use Rattle.std.proofs.Common.{◌≡◌, ◌↔◌, IsTrue, true, Option, Some, None, sym, ap, ◌∙◌, subst}
use Rattle.std.proofs.lemmas.Result.{on_ok_weaker}
use Rattle.ot_base.specs.declared.place.Place.{Place}
use Rattle.ot_base.specs.Warnings.{bare_warning}
use Rattle.state_defs.specs.declared.state.HintState.{HintState}
use Rattle.state_defs.specs.declared.state.HintState.TheVariants.{Restore}
use Rattle.machine_defs.specs.Kept.{is_free}
use Rattle.kept_states.specs.LevelStates.{at}
use Rattle.stack_rules.specs.Gains.{Gains}
use Rattle.stack_rules.specs.PointWarns.{MismatchWarns}
use Rattle.stack_rules.proofs.Consistency.{consistent_there}
use Rattle.stack_rules.proofs.GainsLemmas.{gains_for}
use Rattle.stack_rules.proofs.ByState.{arrival_kept, arrival_unkept}
use Rattle.stack_rules.proofs.arrivals.push_arrival.Goals as goal

pub returns-in-Some : goal.returns-in-Some
returns-in-Some c = on_ok_weaker c.push_mismatch.result (λ h p ch consistent.
    let some : at c.args.kept.now c.args.to ≡ Some c.in-Some.state = sym c.state.ensures ∙ c.in-Some.is in
    let free : is_free (p.hint c.args.to) ≡ true = ap is_free (sym (c.hint-hint.ensures p ch.tells)) ∙ (sym c.is_free.ensures ∙ c.if-is_free.true) in
    arrival_kept p c.args.kept.now c.args.into.now.items c.push_mismatch.new.into.items c.args.to c.in-Some.state c.args.brought some free
    (subst (λ (place : Place). Gains c.args.into.now.items c.push_mismatch.new.into.items (MismatchWarns place c.in-Some.state c.args.brought)) (c.place-place.ensures p ch.tells)
    (h (consistent_there p c.args.graph.now.parts c.args.kept.now ch c.args.to c.in-Some.state some) consistent))) c.push_mismatch.ensures

pub returns-in-None : goal.returns-in-None
returns-in-None c = on_ok_weaker c.push_if.result (λ h p ch consistent.
    let none : at c.args.kept.now c.args.to ≡ None = sym c.state.ensures ∙ c.in-None.is in
    arrival_unkept p c.args.kept.now c.args.into.now.items c.push_if.new.into.items c.args.to c.args.brought none
    (gains_for _ _ _ _ _ _ (c.bare_warning.ensures ∙ ap (λ place. bare_warning place 18) (c.place-place.ensures p ch.tells))
    (subst (λ (hint : Option HintState). IsTrue c.is_restore.result ↔ (hint ≡ Some Restore)) (c.hint-hint.ensures p ch.tells) c.is_restore.ensures) h)) c.push_if.ensures
