-- Something warns, or nothing does.
use Rattle.std.proofs.lemmas.Bool.{not-false}
use Rattle.std.proofs.lemmas.Result.{on_ok_weaker}
use Rattle.program_check.proofs.Empty.{element, is_empty, is_longer}
use Rattle.program_check.proofs.Sums.{none_accepts, unreached_told, unreached_untold}
use Rattle.program_check.proofs.warnings.push_unreached.Goals as goal

pub returns-then-not-is_empty : goal.returns-then-not-is_empty
returns-then-not-is_empty c p ch are =
    let first = element c.args.warnings.now.items (is_longer c.is_empty.result c.args.warnings.now.len c.args.warnings.now.items c.is_empty.ensures c.args.warnings.now.ok.0 c.if-not-is_empty.true) in
    unreached_untold p c.args.options c.args.warnings.now.items first.0 first.1 are

pub returns : goal.returns
returns c = on_ok_weaker c.push_unreachable.result (λ h p ch are.
    let none = is_empty c.is_empty.result c.args.warnings.now.len c.args.warnings.now.items c.is_empty.ensures c.args.warnings.now.ok.0 c.if-not-is_empty.false in
    unreached_told p c.args.options c.args.warnings.now.items c.push_unreachable.new.into.items (not-false _ c.if-not-options.false) (none_accepts p c.args.options c.args.warnings.now.items none are) (h p ch)) c.push_unreachable.ensures
