-- Calls without a frame, where they are asked for.
use Rattle.std.proofs.lemmas.Bool.{not-false}
use Rattle.std.proofs.lemmas.Result.{on_ok_weaker}
use Rattle.program_check.proofs.Sums.{unframed_told}
use Rattle.program_check.proofs.warnings.push_unframed.Goals as goal

pub returns : goal.returns
returns c = on_ok_weaker c.push_without_frame.result (λ h p ch. unframed_told p c.args.options c.args.warnings.now.items c.push_without_frame.new.into.items (not-false _ c.if-not-options.false) (h p ch)) c.push_without_frame.ensures
