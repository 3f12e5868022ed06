use Rattle.symbols_relocs.proofs.Found.{HaveParentsTo}
use Rattle.symbols_relocs.proofs.parents.add_parents.Given as goal

abbrev pub invariant-loop-i : goal.invariant-loop-i
invariant-loop-i l = HaveParentsTo l.object l.functions l.i l.list.items
