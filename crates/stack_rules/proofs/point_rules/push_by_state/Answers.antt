-- By whether a state is kept there.
use Rattle.std.proofs.Common.{◌≡◌, Some, None, sym, ◌∙◌}
use Rattle.std.proofs.lemmas.Result.{on_ok_weaker}
use Rattle.kept_states.specs.LevelStates.{at}
use Rattle.stack_rules.proofs.ByState.{point_kept, point_unkept}
use Rattle.stack_rules.proofs.point_rules.push_by_state.Goals as goal

pub returns-in-Some : goal.returns-in-Some
returns-in-Some c = on_ok_weaker c.push_kept.result (λ h p ch.
    let some : at c.args.kept.now c.args.n ≡ Some c.in-Some.state = sym c.state.ensures ∙ c.in-Some.is in
    point_kept p c.args.kept.now c.args.into.now.items c.push_kept.new.into.items c.args.n c.in-Some.state some (h p ch some)) c.push_kept.ensures

pub returns-in-None : goal.returns-in-None
returns-in-None c = on_ok_weaker c.push_unkept.result (λ h p ch.
    let none : at c.args.kept.now c.args.n ≡ None = sym c.state.ensures ∙ c.in-None.is in
    point_unkept p c.args.kept.now c.args.into.now.items c.push_unkept.new.into.items c.args.n none (h p ch.tells)) c.push_unkept.ensures
