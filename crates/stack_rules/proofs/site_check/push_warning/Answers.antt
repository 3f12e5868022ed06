use Rattle.stack_rules.proofs.Pushed.{none_found, one_found}
use Rattle.stack_rules.proofs.site_check.push_warning.Goals as goal

pub returns-in_ok-push : goal.returns-in_ok-push
returns-in_ok-push c p t index laid fits =
    one_found p c.args.point c.args.ahead c.args.into.now.items c.push.new.self.items c.in-Some.warning laid (c.in-Some.ensures.some p t index fits) c.in_ok-push.ensures.items

pub returns-in_default : goal.returns-in_default
returns-in_default c p t index laid fits =
    none_found p c.args.point c.args.ahead c.args.into.now.items (c.in_default.ensures.none p t index laid)
