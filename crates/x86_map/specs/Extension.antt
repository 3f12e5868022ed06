-- The rows that the whole map has beside those of the base map.
use Rattle.std.specs.Prelude.{ℕ, ◌==◌, if◌then◌else◌, List, []}
use Rattle.x86_map.specs.declared.extension.OpcodeRange.{OpcodeRange}
use Rattle.x86_map.specs.Row.{Row, ◌to◌}
use Rattle.x86_map.specs.OneByteExtension.{extension_one_byte}
use Rattle.x86_map.specs.TwoByteExtension.{extension_0F}
use Rattle.x86_map.specs.ThreeByteExtension.{extension_0F_38, extension_0F_3A}
use Rattle.x86_map.specs.VexRows.{vex_0F, vex_0F_38, vex_0F_3A}
use Rattle.x86_map.specs.EvexRows.{evex_0F, evex_0F_38, evex_0F_3A, evex_5, evex_6}

-- the row of a range of opcodes
abbrev pub row_of : OpcodeRange → Row
row_of range = record { opcodes = range.first to range.last; form = range.form }

-- by the number of the map
abbrev pub extension_rows : ℕ → List Row
extension_rows number =
    if number == 1 then extension_one_byte
    else (if number == 2 then extension_0F
    else (if number == 3 then extension_0F_38
    else (if number == 4 then extension_0F_3A
    else (if number == 5 then vex_0F
    else (if number == 6 then vex_0F_38
    else (if number == 7 then vex_0F_3A
    else (if number == 8 then evex_0F
    else (if number == 9 then evex_0F_38
    else (if number == 10 then evex_0F_3A
    else (if number == 11 then evex_5
    else (if number == 12 then evex_6 else [])))))))))))
