-- Putting them in order leaves the warnings that there are.
use Rattle.program_check.specs.AskedRules.{AskedWarns}
use Rattle.program_check.proofs.OptionSums.{gains_sorted}
use Rattle.program_check.proofs.asked.with_asked.Goals as goal

pub returns-clause-gains : goal.returns-clause-gains
returns-clause-gains c p allowed t =
    gains_sorted c.args.warnings.items c.push_asked.new.warnings.items c.sort_warnings.new.warnings.items (AskedWarns p allowed c.args.options) (c.in_ok-push_asked.ensures p allowed t) c.sort_warnings.ensures.members
