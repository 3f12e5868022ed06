use Rattle.std.proofs.Common.{◌≡◌, ◌≤◌, take}
use Rattle.std.specs.Prelude.{count_by}
use Rattle.flow_defs.specs.Code.{is_plain}
use Rattle.object_check.proofs.counts.count_plain.Given as goal

abbrev pub invariant-loop-n : goal.invariant-loop-n
invariant-loop-n l = record {
  count : l.plain ≡ count_by is_plain (take l.n l.sites.points);
  few : l.plain ≤ l.n;
}
