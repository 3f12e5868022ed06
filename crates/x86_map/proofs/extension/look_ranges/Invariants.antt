use Rattle.std.proofs.Common.{◌≡◌, drop, map}
use Rattle.x86_map.specs.Extension.{row_of}
use Rattle.x86_map.specs.OpcodeMap.{forms_in, look_forms}
use Rattle.x86_map.proofs.extension.look_ranges.Given as goal

-- the rows that are left say what all of them say
abbrev pub invariant-loop-range : goal.invariant-loop-range
invariant-loop-range l = look_forms (forms_in (map row_of (drop l.range-index l.ranges)) l.opcode) l.p l.modrm ≡ look_forms (forms_in (map row_of l.ranges) l.opcode) l.p l.modrm
