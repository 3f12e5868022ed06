-- By the role, and by the edges.
use Rattle.std.proofs.Common.{sym, subst, arith}
use Rattle.std.proofs.lemmas.Result.{on_ok_weaker}
use Rattle.ot_base.specs.declared.place.Place.{Place}
use Rattle.machine_defs.specs.declared.flow.Role.{Role}
use Rattle.machine_defs.specs.Program.{IsPoint}
use Rattle.stack_rules.specs.Gains.{Gains}
use Rattle.stack_rules.proofs.GainsLemmas.{gains_both, gains_same}
use Rattle.program_check.specs.PointWarns.{CallWarns, EdgesCall, RoleCalls}
use Rattle.program_check.proofs.AllWarnings.{calls_are}
use Rattle.program_check.proofs.callees.push_calls.Goals as goal

pub returns : goal.returns
returns c = on_ok_weaker c.push_edges.result (λ h p allowed t.
    let n = c.args.n in
    let old = c.args.into.now.items in
    let mid = c.push_role.new.into.items in
    let point : IsPoint p n = omega (arith, c.requires, t.tells.count) in
    let by_role : Gains old mid (RoleCalls p allowed (p.place n) (p.role n)) =
    subst (λ (place : Place). Gains old mid (RoleCalls p allowed place (p.role n))) (c.place.ensures p t.tells)
    (subst (λ (r : Role). Gains old mid (RoleCalls p allowed c.place.result r)) (c.role.ensures p t.tells) (c.in_ok-push_role.ensures p allowed n t point (sym (c.role.ensures p t.tells)))) in
    gains_same old c.push_edges.new.into.items _ (CallWarns p allowed n) (gains_both old mid c.push_edges.new.into.items (RoleCalls p allowed (p.place n) (p.role n)) (EdgesCall p allowed n) by_role (h p allowed t)) (calls_are p allowed n)) c.push_edges.ensures
