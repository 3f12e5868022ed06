use Rattle.std.proofs.Common.{◌≡◌, Some, take}
use Rattle.orc_walk.specs.Memory.{bytes_at}
use Rattle.orc_walk.proofs.memory.Memory.word.Given as goal

abbrev pub invariant-loop-i : goal.invariant-loop-i
invariant-loop-i l = bytes_at l.self l.addr l.i ≡ Some (take l.i l.byte-items)
