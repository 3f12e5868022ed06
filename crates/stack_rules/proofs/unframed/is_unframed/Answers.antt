-- A point that keeps a state, and one that keeps none.
use Rattle.std.proofs.Common.{◌≡◌, Some, None, sym, ap, ◌∙◌}
use Rattle.state_defs.specs.Rules.{call_rule}
use Rattle.kept_states.specs.LevelStates.{at}
use Rattle.stack_rules.proofs.Consistency.{kept_there, has_state}
use Rattle.stack_rules.proofs.unframed.is_unframed.Goals as goal

pub returns-then-wants_frame : goal.returns-then-wants_frame
returns-then-wants_frame c p ch =
    let some : at c.args.kept.now c.args.n ≡ Some c.in-Some.state = sym c.state.ensures ∙ c.in-Some.is in
    let wants = (c.wants_frame.ensures p ch.tells).0 c.if-wants_frame.true in (
      λ h. (c.in-Some.state, kept_there p c.args.graph.now.parts c.args.kept.now ch c.args.n c.in-Some.state some, wants.0, wants.1, sym c.call_rule.ensures ∙ c.is_rule.ensures.0 h),
      λ (s, k, is, not, h).
          let other : at c.args.kept.now c.args.n ≡ Some s = has_state p c.args.graph.now.parts c.args.kept.now ch c.args.n s k in
          let same : s ≡ c.in-Some.state = cc in
          c.is_rule.ensures.1 (c.call_rule.ensures ∙ (ap call_rule (sym same) ∙ h)),
    )

pub returns-in-None : goal.returns-in-None
returns-in-None c p ch =
    let none : at c.args.kept.now c.args.n ≡ None = sym c.state.ensures ∙ c.in-None.is in (
      λ h. absurd (let z : ⊥ = cc in z),
      λ (s, k, is, not, h). absurd (let some : at c.args.kept.now c.args.n ≡ Some s = has_state p c.args.graph.now.parts c.args.kept.now ch c.args.n s k in let z : ⊥ = cc in z),
    )
