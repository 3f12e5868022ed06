use Rattle.eh_frame.proofs.SpellSteps.{Spelled}
use Rattle.eh_frame.proofs.writing.spell_rows.Given as goal

abbrev pub invariant-loop-placed : goal.invariant-loop-placed
invariant-loop-placed l = Spelled l.size l.rows l.placed-index l.location l.spelled.items
