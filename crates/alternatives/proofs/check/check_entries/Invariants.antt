use Rattle.alternatives.specs.Faults.{AreRight}
use Rattle.alternatives.proofs.check.check_entries.Given as goal

abbrev pub invariant-loop-entry : goal.invariant-loop-entry
invariant-loop-entry l = AreRight l.texts l.entries l.entry
