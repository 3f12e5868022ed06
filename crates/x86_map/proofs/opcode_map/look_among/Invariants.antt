use Rattle.std.proofs.Common.{◌≡◌, drop}
use Rattle.x86_map.specs.OpcodeMap.{look_forms}
use Rattle.x86_map.proofs.opcode_map.look_among.Given as goal

-- the forms that are left say what all of them say
abbrev pub invariant-loop-form : goal.invariant-loop-form
invariant-loop-form l = look_forms (drop l.form-index l.forms) l.p l.modrm ≡ look_forms l.forms l.p l.modrm
