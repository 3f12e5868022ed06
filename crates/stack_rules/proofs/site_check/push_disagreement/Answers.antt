-- Only one point is in force.
use Rattle.kept_states.specs.LevelStates.{at}
use Rattle.stack_rules.proofs.GainsLemmas.{gains_none}
use Rattle.stack_rules.specs.Disagree.{Disagrees, IsOfSite, IsOutOfForce}
use Rattle.stack_rules.proofs.Pushed.{gains_known, out_of_force}
use Rattle.stack_rules.proofs.site_check.push_disagreement.Goals as goal

pub returns-in_ok-push_warning : goal.returns-in_ok-push_warning
returns-in_ok-push_warning c p points t index laid up fits force =
    gains_known c.args.into.now.items c.push_warning.new.into.items (IsOutOfForce p (at c.args.kept.now) points c.args.point c.args.ahead) (IsOfSite p c.args.point c.args.ahead)
    (c.args.other, force, c.have_other_rows.ensures.0 c.if-have_other_rows.true)
    (c.in_ok-push_warning.ensures p t index laid fits)

pub returns-else-have_other_rows : goal.returns-else-have_other_rows
returns-else-have_other_rows c p points t index laid up fits force =
    gains_none c.args.into.now.items (Disagrees p (at c.args.kept.now) points c.args.point c.args.ahead)
    (λ w k. let yes = c.have_other_rows.ensures.1 (out_of_force p (at c.args.kept.now) points c.args.point c.args.other c.args.ahead up force k.0) in let no = c.if-have_other_rows.false in let z : ⊥ = cc in z)
