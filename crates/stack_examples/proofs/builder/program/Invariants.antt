use Rattle.std.proofs.Common.{◌≡◌, length, vec_len}
use Rattle.std.specs.Prelude.{map}
use Rattle.stack_examples.specs.Line.{site_of_pair}
use Rattle.stack_examples.proofs.builder.program.Given as goal

abbrev pub invariant-loop-i : goal.invariant-loop-i
invariant-loop-i l = record {
  points : vec_len l.p.points ≡ length l.table.rows.now;
  entries : l.p.entries.items ≡ l.table.entries.now;
  sites : l.p.sites.items ≡ map site_of_pair l.table.sites.now;
}
