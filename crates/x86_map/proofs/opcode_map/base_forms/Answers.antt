use Rattle.std.proofs.Common.{arith}
use Rattle.std.proofs.lemmas.Bool.Decides.{nat_tests}
use Rattle.x86_map.specs.OpcodeMap.{base_forms}
use Rattle.x86_map.proofs.opcode_map.base_forms.Goals as goal

pub returns-in_default : goal.returns-in_default
unfolding base_forms
returns-in_default c = grind (arith, nat_tests)
