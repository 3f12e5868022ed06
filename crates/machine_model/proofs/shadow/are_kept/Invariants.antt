-- The words so far are kept.
use Rattle.std.proofs.Common.{take}
use Rattle.std.specs.Prelude.{All}
use Rattle.machine_model.specs.Frame.{IsWordKept}
use Rattle.machine_model.proofs.shadow.are_kept.Given as goal

abbrev pub invariant-loop-word : goal.invariant-loop-word
invariant-loop-word l = All (IsWordKept l.rsp l.region) (take l.word-index l.word-items)
