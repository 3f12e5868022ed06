-- The bytes so far are written.
use Rattle.program_model.specs.Region.{region_of, WritesBytes}
use Rattle.program_model.proofs.region.Region.write_bytes.Given as goal

abbrev pub invariant-loop-i : goal.invariant-loop-i
invariant-loop-i l = WritesBytes l.address l.i l.bytes (region_of l.fn.self) (region_of l.self)
