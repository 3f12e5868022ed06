use Rattle.std.proofs.Common.{rules}
use Rattle.x86_map.specs.OpcodeMap.{base_forms}
use Rattle.x86_map.proofs.Tables.{at_each}
use Rattle.x86_map.proofs.two_byte.two_byte.Goals as goal

pub returns : goal.returns
unfolding base_forms
returns c = search (rules, at_each)
