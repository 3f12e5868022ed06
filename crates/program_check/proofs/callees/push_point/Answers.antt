-- Of a function that isn't safe, or of none.
use Rattle.std.proofs.Common.{◌≡◌, true, false, sym, ap, ◌∙◌, arith, rules, w64}
use Rattle.std.proofs.lemmas.Int.{to_z-of_z}
use Rattle.std.proofs.lemmas.Result.{on_ok_weaker}
use Rattle.machine_defs.specs.Allowances.{is_safe}
use Rattle.machine_defs.specs.AccessRules.{function_number}
use Rattle.stack_rules.proofs.GainsLemmas.{gains_none, gains_same}
use Rattle.program_check.specs.PointWarns.{PointIsCalled, callee_warning}
use Rattle.program_check.proofs.callees.push_point.Goals as goal
use Rattle.program_check.proofs.callees.push_point.Goals.{then-n-points-via-then-n-points, then-n-points-via-else-n-points+then-is_safe}

pub returns : goal.returns
returns c = on_ok_weaker c.push.result (λ h p allowed t point.
    let told : c.callee_warning.result ≡ callee_warning c.args.place (function_number (p.function c.args.n)) =
    c.callee_warning.ensures ∙ ap (callee_warning c.args.place) (to_z-of_z w64 c.function_number-callee.result (search rules) ∙ (c.function_number-callee.ensures ∙ ap function_number (c.function.ensures p t.tells))) in
    let unsafe : is_safe p allowed c.args.n ≡ false = sym (c.is_safe.ensures p allowed t) ∙ c.if-is_safe.false in
    gains_same _ _ (λ w. w ≡ c.callee_warning.result) (PointIsCalled p allowed c.args.place c.args.n) h (λ w. (λ e. (unsafe, e ∙ told), λ k. k.1 ∙ sym told))) c.push.ensures

pub returns-then-n-points : goal.returns-then-n-points
returns-then-n-points c p allowed t point = gains_none c.args.into.now.items (PointIsCalled p allowed c.args.place c.args.n) (λ w k. elim c.then-n-points.branch [
  | then-n-points-via-then-n-points b ↦ omega (arith, b.if-n-points.true, c.points.ensures.count p t.tells, point)
  | then-n-points-via-else-n-points+then-is_safe b ↦
      let both : true ≡ false = sym b.if-is_safe.true ∙ (b.is_safe.ensures p allowed t ∙ k.0) in
      let z : ⊥ = cc in z
])
