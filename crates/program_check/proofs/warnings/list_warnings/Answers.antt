-- One list after another, put in order.
use Rattle.program_check.proofs.SomeAccepted.{checks}
use Rattle.program_check.proofs.Sums.{all_broken}
use Rattle.program_check.proofs.warnings.list_warnings.Goals as goal

pub returns-clause-broken : goal.returns-clause-broken
returns-clause-broken c p ch =
    let rules = checks p c.args.graph.now.parts c.args.kept.now ch in
    let unasked = c.in_ok-warnings.ensures p ch in
    all_broken p c.args.options c.in_ok-warnings.warnings.items c.push_unreached.new.warnings.items c.push_unframed.new.warnings.items c.sort_warnings.new.warnings.items unasked (c.in_ok-push_unreached.ensures p rules unasked) (c.in_ok-push_unframed.ensures p rules) c.sort_warnings.ensures.members
