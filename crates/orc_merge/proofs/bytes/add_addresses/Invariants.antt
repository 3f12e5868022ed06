use Rattle.std.proofs.Common.{◌≡◌, ◌++◌, take}
use Rattle.orc_walk.specs.Rows.{rows_of}
use Rattle.orc_merge.specs.TableBytes.{address_bytes}
use Rattle.orc_merge.proofs.bytes.add_addresses.Given as goal

abbrev pub invariant-loop-i : goal.invariant-loop-i
invariant-loop-i l = record {
  bytes : l.bytes.items ≡ l.initial.bytes.items ++ address_bytes (rows_of (take l.i l.initial.tape.items));
  same : l.tape.items ≡ l.initial.tape.items;
}
