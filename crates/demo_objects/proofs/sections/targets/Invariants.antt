use Rattle.std.proofs.Common.{◌≡◌, ◌-◌}
use Rattle.std.specs.Prelude.{filter}
use Rattle.std.specs.List.{range_with_len}
use Rattle.demo_objects.specs.Made.{has_relocs}
use Rattle.demo_objects.proofs.sections.targets.Given as goal

abbrev pub invariant-loop-sec : goal.invariant-loop-sec
invariant-loop-sec l = l.list.items ≡ filter (has_relocs l.spec.relocs.items) (range_with_len 1 (l.sec - 1))
