use Rattle.text_numbers.proofs.Joined.{marks_kept}
use Rattle.text_numbers.proofs.texts.Texts.number.Goals as goal

pub invariant_of-self-2 : goal.invariant_of-self-2
invariant_of-self-2 c =
    marks_kept c.number_whole.new.pieces c.join.new.self c.number_whole.new.marks.items c.join.ensures.table c.join.ensures.kept c.number_whole.ensures.marks
