use Rattle.std.proofs.Common.{◌≡◌, take}
use Rattle.orc_bytes.specs.Sections.{row_section}
use Rattle.orc_bytes.proofs.bodies.row_body.Given as goal

abbrev pub invariant-loop-placed : goal.invariant-loop-placed
invariant-loop-placed l = l.body.items ≡ row_section (take l.placed-index l.rows)
