use Rattle.text_numbers.proofs.Joined.{marks_kept}
use Rattle.text_numbers.proofs.marks.number_whole.Goals as goal

pub returns-in_err-number-clause-marks : goal.returns-in_err-number-clause-marks
returns-in_err-number-clause-marks c =
    marks_kept c.loop-at.pieces c.join.new.self c.loop-at.marks.items c.join.ensures.table c.join.ensures.kept c.loop-at.invariant.marks

pub set_mark-requires-clause-marks : goal.set_mark-requires-clause-marks
set_mark-requires-clause-marks c =
    marks_kept c.loop-at.pieces c.join.new.self c.loop-at.marks.items c.join.ensures.table c.join.ensures.kept c.loop-at.invariant.marks
