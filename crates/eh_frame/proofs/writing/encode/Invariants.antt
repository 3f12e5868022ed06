use Rattle.eh_frame.proofs.EncodeSteps.{EncodedTo}
use Rattle.eh_frame.proofs.writing.encode.Given as goal

abbrev pub invariant-loop-sec : goal.invariant-loop-sec
invariant-loop-sec l = EncodedTo l.object l.rows l.sec l.from l.body.items l.rela.items
