use Rattle.std.proofs.Common.{◌≡◌, ◌≤◌, ◌*◌, take}
use Rattle.std.specs.Prelude.{filter}
use Rattle.std.specs.List.{sum_by}
use Rattle.elf_objects.specs.Contents.{is_text}
use Rattle.object_check.proofs.counts.count_text.Given as goal

abbrev pub invariant-loop-sec : goal.invariant-loop-sec
invariant-loop-sec l = record {
  sum : l.total ≡ sum_by (λ s. s.size) (filter is_text (take l.sec l.object.sections));
  small : l.total ≤ 67108864 * l.sec;
}
