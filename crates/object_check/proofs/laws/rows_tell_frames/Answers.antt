use Rattle.object_check.proofs.RowForms.{rows_are_frame_rows}
use Rattle.object_check.proofs.RowOrder.{rows_ascend}
use Rattle.object_check.proofs.laws.rows_tell_frames.Goals as goal

pub returns-clause-ascend : goal.returns-clause-ascend
returns-clause-ascend c = rows_ascend

pub returns-clause-frames : goal.returns-clause-frames
returns-clause-frames c = λ o lists states order accepted kept.
    rows_are_frame_rows o lists states c.move_is_consistent.ensures (c.program_is_one.ensures o lists order) (c.program_is_laid_out.ensures o lists order).hint_points kept
    (c.rows_are_rows_of.ensures.placed o lists states order.object accepted kept)
