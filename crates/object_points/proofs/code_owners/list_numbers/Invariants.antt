use Rattle.std.proofs.Common.{◌≡◌, ℕ, length, Some}
use Rattle.std.specs.Prelude.{slice_get, vec_capacity, vec_len}
use Rattle.alternatives.specs.Points.{address_of_point}
use Rattle.flow_defs.specs.Code.{alternatives_of, point_at}
use Rattle.object_points.specs.CodeOwners.{TellsOwner, TellsOwners}
use Rattle.object_points.proofs.code_owners.list_numbers.Given as goal

abbrev pub invariant-loop-n : goal.invariant-loop-n
invariant-loop-n l = record {
  long : length l.numbers.items ≡ l.n;
  each : (i k : ℕ) → slice_get l.numbers.items i ≡ Some k → TellsOwner l.linked.elf l.items (address_of_point (alternatives_of l.linked) (point_at l.linked i)) k;
  kept : vec_len l.numbers ≡ l.n;
  room : vec_capacity l.numbers ≡ l.count;
  tells : TellsOwners l.index.elf l.items l.span.sec l.span.first l.span.last l.span.number;
}
