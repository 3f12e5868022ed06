use Rattle.orc_bytes.specs.Parts.{parts_of}
use Rattle.orc_bytes.proofs.Decoding.{AreRead}
use Rattle.orc_bytes.proofs.reading.read_rows.Given as goal

abbrev pub invariant-loop-i : goal.invariant-loop-i
invariant-loop-i l = AreRead l.object (parts_of l.object l.parts) l.i l.rows.items
