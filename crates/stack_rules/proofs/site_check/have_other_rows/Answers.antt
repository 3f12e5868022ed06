use Rattle.kept_states.specs.LevelStates.{at}
use Rattle.stack_rules.proofs.Pushed.{alike_not_other}
use Rattle.stack_rules.proofs.site_check.have_other_rows.Goals as goal

pub returns-then-are_alike : goal.returns-then-are_alike
returns-then-are_alike c = (
  λ h. absurd (let z : ⊥ = cc in z),
  λ h. absurd (alike_not_other (at c.args.kept.now) c.args.one c.args.other (c.are_alike.ensures c.if-are_alike.true) h),
)
