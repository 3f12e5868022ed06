use Rattle.std.proofs.Common.{◌≡◌, length}
use Rattle.control_flow.specs.Kinds.{AreUsual}
use Rattle.control_flow.proofs.kinds.KindTable.new.Given as goal

abbrev pub invariant-loop-k : goal.invariant-loop-k
invariant-loop-k l = AreUsual l.insns l.kinds.items l.stay.items l.k × (length l.kinds.items ≡ l.k)
