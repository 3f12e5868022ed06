use Rattle.std.proofs.Common.{◌≡◌, drop}
use Rattle.x86_decode.specs.Reading.{prefixes_at, reading}
use Rattle.x86_decode.proofs.reading.read.Given as goal

-- what is read of the rest after these prefixes is what is read of all
abbrev pub invariant-loop-i : goal.invariant-loop-i
invariant-loop-i l = prefixes_at l.p l.i (drop l.i l.bytes) ≡ reading l.fn.map l.bytes
