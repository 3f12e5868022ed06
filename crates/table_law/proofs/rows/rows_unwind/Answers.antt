use Rattle.machine_defs.specs.Rows.{rows_of}
use Rattle.table_law.proofs.rows.rows_unwind.Goals as goal

pub returns : goal.returns
returns c p bases ranges states is laid enters placed acc kept = c.walk_law.ensures p bases (rows_of p states) ranges is laid.in_text placed acc (c.rows_tell.ensures p bases ranges states is laid enters placed acc kept)
