use Rattle.std.proofs.Common.{◌≡◌}
use Rattle.std.specs.Prelude.{filter}
use Rattle.std.specs.List.{range_with_len}
use Rattle.orc_output.proofs.NeededSections.{is_unnamed}
use Rattle.orc_output.proofs.symbols.unnamed_sections.Given as goal

abbrev pub invariant-loop-sec : goal.invariant-loop-sec
invariant-loop-sec l = l.secs.items ≡ filter (is_unnamed l.object l.marks) (range_with_len 0 l.sec)
