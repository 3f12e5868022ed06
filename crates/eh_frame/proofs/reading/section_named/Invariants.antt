use Rattle.std.proofs.Common.{◌≢◌, ℕ, ◌<◌}
use Rattle.elf_objects.specs.Contents.{section_at}
use Rattle.eh_frame.proofs.reading.section_named.Given as goal

abbrev pub invariant-loop-i : goal.invariant-loop-i
invariant-loop-i l = (k : ℕ) → k < l.i → (section_at l.object k).name ≢ l.name
