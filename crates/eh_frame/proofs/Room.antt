-- The result is short enough.
use Rattle.std.proofs.Common.{◌≡◌, ℕ, ◌+◌, ◌*◌, ◌^◌, ◌<◌, ◌≤◌, List, length, arith}
use Rattle.ot_base.specs.declared.row.PlacedRow.{PlacedRow}
use Rattle.elf_objects.specs.Elf.{Elf}
use Rattle.elf_write.specs.Object.{appended_to}
use Rattle.orc_output.proofs.Known.{Known}
use Rattle.orc_output.proofs.Room.{length-added}
use Rattle.orc_output.proofs.Slots.{length-relocs}
use Rattle.eh_frame.specs.RowFrames.{frame_rela, frame_section, frame_slots}
use Rattle.eh_frame.proofs.FrameBound.{few_slots, frame_bound}
use Rattle.eh_frame.specs.FrameOutput.{CanHaveSections, frame_sections}

pub room : (o : Elf) (rows : List PlacedRow) → Known o → CanHaveSections o rows → length (appended_to o (frame_sections o rows)) < 2 ^ 32
room o rows k can =
    sums (length (appended_to o (frame_sections o rows))) (length o.bytes) (length (frame_section o rows)) (length (frame_rela o rows)) (length (frame_slots o rows)) (length rows) (length o.sections)
    (length-added o (frame_sections o rows) k) (frame_bound o rows) (length-relocs (frame_slots o rows)) (few_slots o rows) can.few can.short can.frames.few
  where
    sums : (l f x y m r s : ℕ) → l ≤ 3 * f + 25 + (x + (y + 0)) + 71 * 2 + 14 → x ≤ 28 + 26 * s + 16 * r → y ≡ 24 * m → m ≤ s → s + 2 ≤ 262144 → f ≤ 268435456 → r ≤ 67108865 → l < 2 ^ 32
    sums l f x y m r s e1 e2 e3 e4 e5 e6 e7 = omega arith
