use Rattle.std.proofs.Common.{arith}
use Rattle.std.proofs.lemmas.Bool.Decides.{nat_tests}
use Rattle.x86_map.specs.OpcodeMap.{base_forms}
use Rattle.x86_map.proofs.three_byte.three_byte.Goals as goal

pub returns-in-130 : goal.returns-in-130
unfolding base_forms
returns-in-130 c = rw c.in-130.is

pub returns-in-240 : goal.returns-in-240
unfolding base_forms
returns-in-240 c = rw c.in-240.is

pub returns-in-241 : goal.returns-in-241
unfolding base_forms
returns-in-241 c = rw c.in-241.is

pub returns-in-246 : goal.returns-in-246
unfolding base_forms
returns-in-246 c = rw c.in-246.is

pub returns-in_default : goal.returns-in_default
unfolding base_forms
returns-in_default c = grind (arith, nat_tests)
