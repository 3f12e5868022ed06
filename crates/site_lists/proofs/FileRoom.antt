-- The result is short enough.
use Rattle.std.proofs.Common.{◌≡◌, ℕ, ◌+◌, ◌*◌, ◌^◌, ◌<◌, ◌≤◌, length, arith}
use Rattle.std.proofs.lemmas.List.{length-replicate}
use Rattle.elf_objects.specs.Contents.{section_symbol_of}
use Rattle.elf_objects.specs.Elf.{Elf}
use Rattle.elf_write.specs.Object.{appended_to}
use Rattle.orc_output.proofs.Known.{Known}
use Rattle.orc_output.proofs.Room.{length-added}
use Rattle.site_lists.specs.Listed.{Listed}
use Rattle.site_lists.specs.Sections.{rela_section, slot_section}
use Rattle.site_lists.specs.SiteOutput.{CanHaveLists, site_sections}
use Rattle.site_lists.proofs.OutputSlots.{length-rela_section}

pub room : (o : Elf) (lists : Listed) → Known o → CanHaveLists o lists → length (appended_to o (site_sections o lists)) < 2 ^ 32
room o lists k can =
    let ss = section_symbol_of o in
    sums (length (appended_to o (site_sections o lists))) (length o.bytes)
    (length (slot_section lists.retpoline)) (length (rela_section ss lists.retpoline)) (length (slot_section lists.returns)) (length (rela_section ss lists.returns)) (length (slot_section lists.calls)) (length (rela_section ss lists.calls))
    (length lists.retpoline) (length lists.returns) (length lists.calls) (length-added o (site_sections o lists) k)
    (length-replicate (4 * length lists.retpoline) 0) (length-rela_section ss lists.retpoline) (length-replicate (4 * length lists.returns) 0) (length-rela_section ss lists.returns) (length-replicate (4 * length lists.calls) 0) (length-rela_section ss lists.calls)
    can.short can.few_places.retpoline can.few_places.returns can.few_places.calls
  where
    sums : (l f x x' y y' z z' r s t : ℕ) → l ≤ 3 * f + 101 + (x + (x' + (y + (y' + (z + (z' + 0)))))) + 71 * 6 + 14
        → x ≡ 4 * r → x' ≡ 24 * r → y ≡ 4 * s → y' ≡ 24 * s → z ≡ 4 * t → z' ≡ 24 * t → f ≤ 268435456 → r ≤ 16777216 → s ≤ 16777216 → t ≤ 16777216 → l < 2 ^ 32
    sums l f x x' y y' z z' r s t e1 e2 e3 e4 e5 e6 e7 e8 e9 e10 e11 = omega arith
