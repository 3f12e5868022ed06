use Rattle.std.proofs.Common.{◌≡◌, ℕ, ◌<◌, false}
use Rattle.elf_objects.specs.Contents.{section_at}
use Rattle.eh_frame.specs.FrameOutput.{is_frame_name}
use Rattle.eh_frame.proofs.existing.first_frame_section.Given as goal

abbrev pub invariant-loop-sec : goal.invariant-loop-sec
invariant-loop-sec l = (k : ℕ) → k < l.sec → is_frame_name (section_at l.object k).name ≡ false
