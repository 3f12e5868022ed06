-- Branches first, then user access.
use Rattle.std.proofs.Common.{◌≡◌, true}
use Rattle.std.proofs.lemmas.Result.{on_ok_weaker}
use Rattle.stack_rules.proofs.GainsLemmas.{gains_both}
use Rattle.program_check.specs.Branches.{BranchWarns}
use Rattle.program_check.specs.PointWarns.{IsAccessWarning}
use Rattle.program_check.proofs.asked.push_by_table.Goals as goal

pub returns : goal.returns
returns c = on_ok_weaker c.push_access.result (λ h p allowed t.
    gains_both c.args.warnings.now.items c.push_branches.new.warnings.items c.push_access.new.warnings.items (BranchWarns p allowed c.args.options) (λ w. (c.args.options.uaccess ≡ true) × IsAccessWarning p allowed w)
    (c.in_ok-push_branches.ensures.asked p allowed t.tells t.allows) (h p allowed t)) c.push_access.ensures.asked
