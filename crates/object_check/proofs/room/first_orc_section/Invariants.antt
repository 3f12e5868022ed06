use Rattle.std.proofs.Common.{◌≡◌, ℕ, ◌<◌, false}
use Rattle.elf_objects.specs.Contents.{section_at}
use Rattle.object_check.specs.Order.{is_orc_name}
use Rattle.object_check.proofs.room.first_orc_section.Given as goal

abbrev pub invariant-loop-sec : goal.invariant-loop-sec
invariant-loop-sec l = (k : ℕ) → k < l.sec → is_orc_name (section_at l.object k).name ≡ false
