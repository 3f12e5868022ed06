use Rattle.std.proofs.Common.{◌≡◌, ◌++◌, take}
use Rattle.orc_walk.specs.Rows.{rows_of}
use Rattle.orc_merge.specs.TableBytes.{row_section}
use Rattle.orc_merge.proofs.bytes.add_rows.Given as goal

abbrev pub invariant-loop-i : goal.invariant-loop-i
invariant-loop-i l = record {
  bytes : l.bytes.items ≡ l.initial.bytes.items ++ row_section (rows_of (take l.i l.initial.tape.items));
  same : l.tape.items ≡ l.initial.tape.items;
}
